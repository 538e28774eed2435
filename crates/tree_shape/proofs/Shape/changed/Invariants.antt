use Rattle.std.proofs.Common.{◌-◌, ◌<◌, ◌≤◌}
use Rattle.tree_shape.specs.Changed.{DiffersAt}
use Rattle.tree_shape.proofs.Passes.{Passed}
use Rattle.tree_shape.proofs.Shape.changed.Given as goal

abbrev pub invariant-loop-slot : goal.invariant-loop-slot
invariant-loop-slot l = record {
  passed : Passed l.self-inside.slots l.old l.new l.slot l.marks l.count;
  range : l.slot ≤ l.self-inside.slots;
  differs : l.slot < l.self-inside.slots → DiffersAt l.old l.new l.slot;
}

abbrev pub decreases-loop-slot : goal.decreases-loop-slot
decreases-loop-slot l = l.self-inside.slots - l.slot
