use Rattle.std.proofs.Common.{ℕ, List, get_or, sym, subst, take, arith}
use Rattle.std.specs.Prelude.{slice_set}
use Rattle.std.proofs.lemmas.List.{take_more}
use Rattle.work_run.specs.Drew.{HasMarked}
use Rattle.work_run.proofs.WhoDrew.{marked_more}
use Rattle.work_run.proofs.drew.mark_blocks.Goals as goal

pub loop-block-preserved : goal.loop-block-preserved
loop-block-preserved c =
    let blocks = c.args.blocks.now in
    let i = c.loop-block.block-index in
    let old = c.args.marks.now in
    let new = slice_set c.loop-block.marks (get_or blocks i 0) c.args.mark in
    subst (λ (xs : List ℕ). HasMarked xs c.args.mark old new) (sym (take_more blocks i 0 (omega arith)))
    (marked_more (take i blocks) c.args.mark (get_or blocks i 0) old c.loop-block.marks c.loop-block.invariant (c.requires.below i 0 (omega arith)))
