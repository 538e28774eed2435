use Rattle.std.proofs.Common.{◌∙◌, ap, map}
use Rattle.work_run.proofs.Marked.{marking_run}
use Rattle.work_run.proofs.mark.mark_all.Goals as goal

pub returns-clause-ran : goal.returns-clause-ran
returns-clause-ran g c =
    let parted = c.part_marks.ensures in
    marking_run c.args.flag c.args.trace.now c.in_ok-answers.answers.items g.S.Shared.part (g.S.Shared.store c.args.store.now).about c.args.workers c.args.block c.args.pass.now c.run_task.new.pass c.part_marks.new.replies.items c.part_marks.new.firsts.items
    (parted.replies ∙ ap (map (λ a. a.0)) c.as_slice.ensures.value) (parted.firsts ∙ ap (map (λ a. a.1)) c.as_slice.ensures.value) c.in_ok-answers.ensures.ran
