use Rattle.std.proofs.Common.{rules, refl}
use Rattle.treedb_c.proofs.Live.{live}
use Rattle.treedb_c.proofs.treedb_c_counts.Goals as goal

pub returns-in-Some-clause-answered : goal.returns-in-Some-clause-answered
returns-in-Some-clause-answered c =
    live _ c.deref.result.now c.deref.result.now _ _ (search rules) (search rules)
    ((search rules), refl, c.counts-nodes.ensures.counts)
