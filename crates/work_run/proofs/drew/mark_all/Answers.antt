use Rattle.std.proofs.Common.{◌≡◌, ◌∙◌, ℕ, List, [], get_or, map, sym, subst, arith}
use Rattle.std.proofs.lemmas.List.{get_or-map}
use Rattle.work_run.specs.Drew.{HasMarked}
use Rattle.work_run.proofs.WhoDrew.{are_marked_more}
use Rattle.work_run.proofs.drew.mark_all.Goals as goal

pub loop-number-preserved : goal.loop-number-preserved
loop-number-preserved g c =
    let all = c.args.all_workers.now in
    let n = c.loop-number.number in
    let inv = c.loop-number.invariant in
    let worker = c.index-all_workers-number.result in
    let at : get_or (map (λ w. w.lines.items) all) n [] ≡ c.as_slice-blocks.result.now = get_or-map (λ w. w.lines.items) all n worker [] (omega arith) ∙ sym c.as_slice-blocks.ensures.value in
    let marked = c.mark_blocks.ensures in
    record {
      marked = are_marked_more (map (λ w. w.lines.items) all) n c.loop-number.marks c.mark_blocks.new.marks inv.marked
          (subst (λ (xs : List ℕ). HasMarked xs n c.loop-number.marks c.mark_blocks.new.marks) (sym at) (record { long = marked.long; own = marked.own; others = marked.others }));
      long = marked.long ∙ inv.long;
    }
