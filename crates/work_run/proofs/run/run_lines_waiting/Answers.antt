use Rattle.std.proofs.Common.{length}
use Rattle.std.proofs.lemmas.Result.{IfOk-weaker}
use Rattle.tdb_base.specs.Lines.{dealt_to, mine}
use Rattle.tdb_base.proofs.TallyLemmas.{dealt-shared}
use Rattle.region_root.specs.Compact.{compact}
use Rattle.work_run.proofs.EnoughRoots.{never_full_roots, compact_roots_suffice}
use Rattle.work_run.proofs.Telling.{insertion_run}
use Rattle.work_run.proofs.run.run_lines_waiting.Goals as goal

pub returns-clause-ran : goal.returns-clause-ran
returns-clause-ran g c =
    let e = c.run_task.ensures in
    IfOk-weaker c.run_task.result _ _ (λ replies. insertion_run (compact g.row.W g.row.F) c.args.store.now.about c.args.trace.now replies.items (mine (length c.args.trace.now) c.args.workers c.args.block) c.args.workers c.args.pass.now c.run_task.new.pass) e.ran

pub returns-clause-enough_roots : goal.returns-clause-enough_roots
returns-clause-enough_roots g c =
    let e = c.run_task.ensures in
    let part = (compact g.row.W g.row.F) in
    let t = c.args.store.now in
    let lines = length c.args.trace.now in
    IfOk-weaker c.run_task.result _ _ (λ replies ran is_new room. (let told = insertion_run part t.about c.args.trace.now replies.items (mine lines c.args.workers c.args.block) c.args.workers c.args.pass.now c.run_task.new.pass ran in
    never_full_roots part t (dealt_to c.args.workers c.args.block) c.args.trace.now replies.items c.args.workers c.args.pass.now c.run_task.new.pass e.rest (dealt-shared lines c.args.workers c.args.block c.requires.workers.0) told is_new ((compact_roots_suffice g.row.W g.row.F) t lines room))) e.ran
