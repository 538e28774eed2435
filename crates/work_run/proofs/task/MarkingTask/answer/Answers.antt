use Rattle.std.proofs.Common.{◌≡◌, rules, Some}
use Rattle.tdb_base.specs.Replies.{id_of}
use Rattle.pair_rule.specs.Rest.{last_vector}
use Rattle.work_run.proofs.Answered.{one_inserted}
use Rattle.work_run.proofs.Marked.{named_by, marked_one, unmarked_one}
use Rattle.work_run.proofs.task.MarkingTask.answer.Goals as goal

pub returns-in_default-clause-inserted : goal.returns-in_default-clause-inserted
returns-in_default-clause-inserted g c =
    let e = c.insert_from-reply.ensures in
    let store = g.S.Shared.store c.args.store.now in
    unmarked_one g.S.Shared.part store c.args.line.now c.args.pass.now c.insert_from-reply.new.pass c.insert_from-reply.result c.args.self.now.flag (search rules)
    (one_inserted g.S.Shared.part store c.args.line.now c.args.pass.now c.insert_from-reply.new.pass c.insert_from-reply.result c.requires.rest e.rest e.answered)

pub returns-clause-inserted : goal.returns-clause-inserted
returns-clause-inserted g c =
    let e = c.insert_from-reply.ensures in
    let store = g.S.Shared.store c.args.store.now in
    let reply = c.insert_from-reply.result in
    let given : id_of reply ≡ Some c.in-Some.id = search rules in
    marked_one g.S.Shared.part g.met.S.Shared.refusals store c.args.line.now c.args.pass.now c.insert_from-reply.new.pass c.set_flag-first.new.pass
    reply c.args.self.now.flag c.set_flag-first.result c.in-Some.id given
    (named_by g.S.Shared.part store (last_vector c.args.pass.now) c.args.line.now reply c.args.pass.now c.insert_from-reply.new.pass c.in-Some.id e.answered given)
    (one_inserted g.S.Shared.part store c.args.line.now c.args.pass.now c.insert_from-reply.new.pass reply c.requires.rest e.rest e.answered)
    c.set_flag-first.ensures
