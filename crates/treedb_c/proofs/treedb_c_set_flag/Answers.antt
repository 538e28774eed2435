use Rattle.std.proofs.Common.{rules}
use Rattle.treedb_c.proofs.Live.{live}
use Rattle.treedb_c.proofs.treedb_c_set_flag.Goals as goal

pub returns-in-Some-clause-answered : goal.returns-in-Some-clause-answered
returns-in-Some-clause-answered c =
    live _ c.deref_mut.result.now c.set_flag-first.new.self _ _ (search rules) (search rules)
    (c.set_flag-first.result, (search rules), c.set_flag-first.ensures.flagged)
