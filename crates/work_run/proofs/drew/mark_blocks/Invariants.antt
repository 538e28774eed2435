use Rattle.std.specs.Prelude.{take}
use Rattle.work_run.specs.Drew.{HasMarked}
use Rattle.work_run.proofs.drew.mark_blocks.Given as goal

abbrev pub invariant-loop-block : goal.invariant-loop-block
invariant-loop-block l = HasMarked (take l.block-index l.blocks) l.mark l.fn.marks l.marks
