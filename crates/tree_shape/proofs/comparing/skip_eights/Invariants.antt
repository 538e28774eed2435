use Rattle.std.proofs.Common.{◌-◌, ◌≤◌, length}
use Rattle.tree_shape.specs.Changed.{AreSame}
use Rattle.tree_shape.proofs.comparing.skip_eights.Given as goal

abbrev pub invariant-loop-at : goal.invariant-loop-at
invariant-loop-at l = record {
  low : l.from ≤ l.at;
  high : l.at ≤ length l.old;
  same : AreSame l.old l.new l.from l.at;
}

abbrev pub decreases-loop-at : goal.decreases-loop-at
decreases-loop-at l = length l.old - l.at
