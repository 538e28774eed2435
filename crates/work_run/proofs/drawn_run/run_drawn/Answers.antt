use Rattle.std.proofs.Common.{length}
use Rattle.std.specs.Prelude.{slice_index}
use Rattle.std.proofs.lemmas.Result.{IfOk-weaker}
use Rattle.root_plain.specs.Plain.{plain}
use Rattle.work_run.proofs.DrawnRun.{drawn_insertion_run}
use Rattle.work_run.proofs.EnoughRoots.{drawn_shared, never_full_roots, plain_roots_suffice}
use Rattle.work_run.proofs.drawn_run.run_drawn.Goals as goal

pub returns-clause-ran : goal.returns-clause-ran
returns-clause-ran g c =
    let e = c.run_drawn_task.ensures in
    IfOk-weaker c.run_drawn_task.result _ _ (λ made. drawn_insertion_run plain c.args.store.now.about c.args.trace.now made.0.items made.1.items c.args.workers c.args.block c.args.pass.now c.run_drawn_task.new.pass) e.ran

pub returns-clause-enough_roots : goal.returns-clause-enough_roots
returns-clause-enough_roots g c =
    let e = c.run_drawn_task.ensures in
    let part = plain in
    let t = c.args.store.now in
    let trace = c.args.trace.now in
    IfOk-weaker c.run_drawn_task.result _ _ (λ made ran is_new room. (let told = drawn_insertion_run part t.about trace made.0.items made.1.items c.args.workers c.args.block c.args.pass.now c.run_drawn_task.new.pass ran in
    never_full_roots part t (slice_index made.1.items) trace made.0.items c.args.workers c.args.pass.now c.run_drawn_task.new.pass e.rest (drawn_shared (length trace) c.args.workers c.args.block made.1.items told.drew) told.ran is_new (plain_roots_suffice t (length trace) room))) e.ran
