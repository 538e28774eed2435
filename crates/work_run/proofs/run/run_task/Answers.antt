use Rattle.std.proofs.Common.{ℕ, List, length, ap, arith}
use Rattle.work_run.specs.declared.worker.Worker.{Worker}
use Rattle.work_run.proofs.DealtRun.{is_dealt, dealt_to_one, dealt_can_work, dealt_answered, dealt_run}
use Rattle.work_run.proofs.run.run_task.Goals as goal

pub work_at_once-requires-clause-ready : goal.work_at_once-requires-clause-ready
work_at_once-requires-clause-ready g c κs within =
    let all_workers = c.in_ok-all_workers.all_workers.items in
    dealt_can_work g.S.Shared.part (g.S.Shared.store c.args.store.now) (g.T.Task.telling c.args.task.now) c.args.trace.now c.len.result c.args.workers c.args.block c.len.ensures.count c.args.pass.now c.split_workers.new.pass all_workers all_workers c.in_ok-all_workers.ensures.split

pub place-requires-clause-knows : goal.place-requires-clause-knows
place-requires-clause-knows g c = λ i lt. is_dealt (length c.args.trace.now) c.len.result c.args.workers c.args.block c.len.ensures.count c.requires.lines c.requires.workers c.requires.block

pub place-requires-clause-owners : goal.place-requires-clause-owners
place-requires-clause-owners g c = λ i lt.
    (let one = dealt_to_one c.args.workers c.args.block i c.requires.workers.0 in
    let long = ap (λ (x : List (Worker g.row.S-View.Denot (List ℕ) g.row.T-Answer.Denot)). length x) c.deref.ensures.value in
    omega (arith, one, long, c.work_at_once.ensures.all, c.in_ok-all_workers.ensures.all))

pub place-requires-clause-answered : goal.place-requires-clause-answered
place-requires-clause-answered g c =
    let worked = c.work_at_once.ensures in
    dealt_answered g.S.Shared.part (g.S.Shared.store c.args.store.now) (g.T.Task.telling c.args.task.now) c.args.trace.now c.len.result c.args.workers c.args.block c.len.ensures.count c.args.pass.now c.split_workers.new.pass
    c.in_ok-all_workers.all_workers.items c.work_at_once.new.all_workers.items c.in_ok-all_workers.ensures.split worked.worked worked.all
    c.deref.result.now c.len-3.result c.deref.ensures.value c.len-3.ensures.count

pub returns-clause-ran : goal.returns-clause-ran
returns-clause-ran g c =
    let split = c.in_ok-all_workers.ensures in
    let worked = c.work_at_once.ensures in
    dealt_run g.S.Shared.part (g.S.Shared.store c.args.store.now) (g.T.Task.telling c.args.task.now) c.args.trace.now c.len.result c.args.workers c.args.block c.len.ensures.count c.args.pass.now c.split_workers.new.pass
    c.in_ok-all_workers.all_workers.items c.work_at_once.new.all_workers.items split.split worked.worked worked.all
    (g.met.S.Shared g.world.𝓛 g.world.𝓜 g.world.𝓡 ((λ s x. x), (λ x. x), (λ x. x), λ x. x)).refusals c.join_workers.new.pass c.place.new.answers.items c.deref.result.now c.len-3.result c.deref.ensures.value c.len-3.ensures.count c.requires.workers.0 split.all
    c.place.ensures.all c.place.ensures.placed c.join_workers.ensures
