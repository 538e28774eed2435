use Rattle.cleary_core.proofs.Empty.{keeps_nothing}
use Rattle.cleary_core.proofs.laws.zeros_keep_nothing.Goals as goal

pub returns : goal.returns
returns c = λ z words zeros. keeps_nothing words zeros z z.cells
