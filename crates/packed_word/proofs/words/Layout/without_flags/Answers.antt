use Rattle.packed_word.proofs.Parts.{kept_number}
use Rattle.packed_word.proofs.words.Layout.without_flags.Goals as goal

pub returns : goal.returns
returns g c = rw c.ones.ensures (kept_number g.row.W c.args.word c.requires.1)
