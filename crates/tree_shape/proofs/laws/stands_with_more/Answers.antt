use Rattle.tree_shape.proofs.Trees.{stands_more}
use Rattle.tree_shape.proofs.laws.stands_with_more.Goals as goal

pub returns : goal.returns
returns c = stands_more
