use Rattle.std.proofs.Common.{◌*◌, ◌/◌, ◌^◌}
use Rattle.std.proofs.lemmas.Nat.{and_mask}
use Rattle.packed_word.proofs.words.Layout.flags.Goals as goal

pub returns : goal.returns
returns g c = rw c.ones.ensures (and_mask (c.args.word / 2 ^ (2 * g.row.W)) g.row.F)
