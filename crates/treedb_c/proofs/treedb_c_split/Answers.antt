use Rattle.std.proofs.Common.{rules}
use Rattle.treedb_c.proofs.Live.{weaker}
use Rattle.treedb_c.proofs.treedb_c_split.Goals as goal

pub returns-clause-divided : goal.returns-clause-divided
returns-clause-divided c = λ none. weaker _ _ (λ a b is. (c.divide.result, (search rules), is)) _ _ c.divide.ensures.divided
