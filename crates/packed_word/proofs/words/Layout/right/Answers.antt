use Rattle.std.proofs.lemmas.Nat.{and_mask}
use Rattle.packed_word.proofs.words.Layout.right.Goals as goal

pub returns : goal.returns
returns g c = rw c.ones.ensures (and_mask c.args.word g.row.W)
