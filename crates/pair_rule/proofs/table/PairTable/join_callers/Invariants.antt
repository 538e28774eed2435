use Rattle.std.specs.Prelude.{length}
use Rattle.pair_rule.specs.declared.callers.Caller.{Caller}
use Rattle.pair_rule.proofs.InTurn.{Joining}
use Rattle.pair_rule.proofs.table.PairTable.join_callers.Given as goal

abbrev pub invariant-loop-caller : goal.invariant-loop-caller
invariant-loop-caller g l = Joining g.R.RootPart.part l.self (λ (c : Caller g.row.R-View.Denot g.row.A.Denot). c.pass) l.fn.pass l.pass l.fn.callers.items l.left.items

abbrev pub decreases-loop-caller : goal.decreases-loop-caller
decreases-loop-caller g l = length l.left.items
