use Rattle.std.proofs.Common.{◌^◌, ◌*◌, ap, inl, inr}
use mathlib.Core.Logic.{dite}
use native.Mathlib.Decide.{dec_lt}
use Rattle.region_root.proofs.table.CompactTableRootTable.find.Goals as goal

pub returns-clause-no_look : goal.returns-clause-no_look
returns-clause-no_look g c = dite (dec_lt c.args.id (2 ^ (2 * c.args.self.now.nodes.now.about.width)))
    (λ low. inr (c.find_id.ensures.locked low))
    (λ high. inl (ap (λ p. p.seat.me.0.root) (c.find_id.ensures.still high)))
