use Rattle.work_run.proofs.Answered.{one_inserted}
use Rattle.work_run.proofs.task.InsertionTask.answer.Goals as goal

pub returns-clause-inserted : goal.returns-clause-inserted
returns-clause-inserted g c =
    let e = c.insert_from.ensures in
    one_inserted g.S.Shared.part (g.S.Shared.store c.args.store.now) c.args.line.now c.args.pass.now c.insert_from.new.pass c.insert_from.result c.requires.rest e.rest e.answered
