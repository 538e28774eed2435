use Rattle.std.proofs.Common.{◌≤◌}
use Rattle.tree_store.specs.Vectors.{NoneMarked}
use Rattle.tree_store.proofs.marked.last_marked.Given as goal

abbrev pub invariant-loop-at : goal.invariant-loop-at
invariant-loop-at l = record { low : l.at ≤ l.end; none : NoneMarked l.marks l.at l.end }

abbrev pub decreases-loop-at : goal.decreases-loop-at
decreases-loop-at l = l.at
