use Rattle.tree_shape.specs.Tree.{left_part, right_part}
use Rattle.tree_shape.proofs.Trees.{stands_more}
use Rattle.tree_shape.proofs.laws.root_stands_with_more.Goals as goal

pub returns : goal.returns
returns c = λ width slots nodes more pair vector part h. (stands_more width slots nodes more vector 2 (left_part width pair) part h.0, stands_more width slots nodes more vector 3 (right_part width pair) part h.1)
