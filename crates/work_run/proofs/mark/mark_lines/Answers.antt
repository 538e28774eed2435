use Rattle.std.proofs.Common.{length}
use Rattle.std.proofs.lemmas.Result.{IfOk-weaker}
use Rattle.root_plain.specs.Plain.{plain}
use Rattle.work_run.proofs.EnoughRoots.{marked_never_full_roots, plain_roots_suffice}
use Rattle.work_run.proofs.mark.mark_lines.Goals as goal

pub returns-clause-enough_roots : goal.returns-clause-enough_roots
returns-clause-enough_roots g c =
    let e = c.mark_all.ensures in
    let t = c.args.store.now in
    let trace = c.args.trace.now in
    IfOk-weaker c.mark_all.result _ _ (λ made ran is_new room.
    marked_never_full_roots plain t trace made.0.items made.1.items c.args.workers c.args.block c.args.flag c.args.pass.now c.mark_all.new.pass e.rest c.requires.workers.0 ran is_new (plain_roots_suffice t (length trace) room)) e.ran
