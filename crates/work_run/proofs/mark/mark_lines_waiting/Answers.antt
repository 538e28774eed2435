use Rattle.std.proofs.Common.{length}
use Rattle.std.proofs.lemmas.Result.{IfOk-weaker}
use Rattle.region_root.specs.Compact.{compact}
use Rattle.work_run.proofs.EnoughRoots.{marked_never_full_roots, compact_roots_suffice}
use Rattle.work_run.proofs.mark.mark_lines_waiting.Goals as goal

pub returns-clause-enough_roots : goal.returns-clause-enough_roots
returns-clause-enough_roots g c =
    let e = c.mark_all.ensures in
    let t = c.args.store.now in
    let trace = c.args.trace.now in
    IfOk-weaker c.mark_all.result _ _ (λ made ran is_new room.
    marked_never_full_roots (compact g.row.W g.row.F) t trace made.0.items made.1.items c.args.workers c.args.block c.args.flag c.args.pass.now c.mark_all.new.pass e.rest c.requires.workers.0 ran is_new (compact_roots_suffice g.row.W g.row.F t (length trace) room)) e.ran
