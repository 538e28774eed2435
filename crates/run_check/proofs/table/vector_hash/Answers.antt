use Rattle.std.proofs.Common.{◌∙◌, ap, arith}
use Rattle.run_check.specs.Table.{mixed}
use Rattle.run_check.proofs.TableLemmas.{hash-more, hash-none}
use Rattle.run_check.proofs.table.vector_hash.Goals as goal

pub loop-slot-init : goal.loop-slot-init
loop-slot-init c = hash-none

pub loop-slot-preserved : goal.loop-slot-preserved
loop-slot-preserved c =
    hash-more c.args.vector.now c.loop-slot.slot-index c.loop-slot.hash c.mixed-hash.result (omega arith) c.loop-slot.invariant
    (c.mixed-hash.ensures ∙ ap (mixed c.loop-slot.hash) c.from.ensures)
