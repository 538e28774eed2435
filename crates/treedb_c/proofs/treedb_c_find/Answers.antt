use Rattle.std.proofs.Common.{rules}
use Rattle.treedb_c.proofs.Live.{live}
use Rattle.treedb_c.proofs.treedb_c_find.Goals as goal

pub returns-in-Some-clause-answered : goal.returns-in-Some-clause-answered
returns-in-Some-clause-answered c =
    live _ c.deref_mut.result.now c.find-answer.new.self _ _ (search rules) (search rules)
    (c.find-answer.result, (search rules), c.find-answer.ensures.found)
