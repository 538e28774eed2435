use Rattle.tree_shape.proofs.Trees.{one_root}
use Rattle.tree_shape.proofs.laws.one_root.Goals as goal

pub returns : goal.returns
returns c = λ width slots nodes pair other vector naming. one_root width slots nodes naming pair other vector
