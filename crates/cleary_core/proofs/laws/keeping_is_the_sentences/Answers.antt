use Rattle.cleary_core.specs.Cells.{cell_at}
use Rattle.cleary_core.proofs.Groups.{sentences}
use Rattle.cleary_core.proofs.Sentencing.{keeps_by_sentences}
use Rattle.cleary_core.proofs.laws.keeping_is_the_sentences.Goals as goal

pub returns : goal.returns
returns c = λ z words keys. (sentences z.cells (cell_at z words) keys, keeps_by_sentences z.cells (cell_at z words) keys)
