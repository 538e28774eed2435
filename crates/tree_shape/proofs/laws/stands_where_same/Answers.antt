use Rattle.tree_shape.proofs.Trees.{stands_same, same_slots}
use Rattle.tree_shape.proofs.laws.stands_where_same.Goals as goal

pub returns : goal.returns
returns c = λ width slots nodes u v p x long_u long_v none. stands_same width slots nodes u v p x (same_slots slots u v p long_u long_v none)
