use Rattle.tree_shape.proofs.Trees.{one_number}
use Rattle.tree_shape.proofs.laws.one_number.Goals as goal

pub returns : goal.returns
returns c = λ width slots nodes vector p x y naming. one_number width slots nodes naming vector p x y
