use Rattle.tree_shape.proofs.Trees.{one_vector}
use Rattle.tree_shape.proofs.laws.one_vector.Goals as goal

pub returns : goal.returns
returns c = λ width slots nodes pair u v some naming. one_vector width slots nodes naming pair u v some
