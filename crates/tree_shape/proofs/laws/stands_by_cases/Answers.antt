use Rattle.tree_shape.specs.Tree.{slot, node}
use Rattle.tree_shape.proofs.Trees.{at_slot, at_pair}
use Rattle.tree_shape.proofs.laws.stands_by_cases.Goals as goal

pub returns-clause-at_slot : goal.returns-clause-at_slot
returns-clause-at_slot c = λ width slots nodes vector p x leaf. (at_slot width slots nodes vector p x leaf, λ e. slot leaf e)

pub returns-clause-at_pair : goal.returns-clause-at_pair
returns-clause-at_pair c = λ width slots nodes vector p x inner. (at_pair width slots nodes vector p x inner, λ h. node h.0 inner h.1 h.2 h.3)
