use Rattle.std.proofs.Common.{rules}
use Rattle.treedb_c.proofs.Live.{live}
use Rattle.treedb_c.proofs.treedb_c_flags.Goals as goal

pub returns-in-Some-clause-answered : goal.returns-in-Some-clause-answered
returns-in-Some-clause-answered c =
    live _ c.deref_mut.result.now c.flags-told.new.self _ _ (search rules) (search rules)
    (c.flags-told.result, (search rules), c.read.ensures.flags, c.flags-told.ensures.flags)
