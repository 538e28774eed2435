use Rattle.tree_shape.proofs.Sets.{changed_tested}
use Rattle.tree_shape.proofs.laws.tests_changed.Goals as goal

pub returns : goal.returns
returns c = changed_tested
