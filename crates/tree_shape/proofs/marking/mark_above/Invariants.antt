use Rattle.std.proofs.Common.{◌/◌}
use Rattle.tree_shape.proofs.Climbs.{Climbed}
use Rattle.tree_shape.proofs.marking.mark_above.Given as goal

abbrev pub invariant-loop-p : goal.invariant-loop-p
invariant-loop-p l = Climbed l.initial.marks l.marks (l.from / 2) l.p l.added

abbrev pub decreases-loop-p : goal.decreases-loop-p
decreases-loop-p l = l.p
