use Rattle.std.proofs.Common.{◌≡◌, take}
use Rattle.run_check.specs.Table.{vector_hash}
use Rattle.run_check.proofs.table.vector_hash.Given as goal

abbrev pub invariant-loop-slot : goal.invariant-loop-slot
invariant-loop-slot l = l.hash ≡ vector_hash (take l.slot-index l.vector)
