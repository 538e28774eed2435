use Rattle.tree_shape.proofs.Places.{depth_found}
use Rattle.tree_shape.proofs.Shape.depth.Goals as goal

pub returns : goal.returns
returns c = rw (← c.self.view_is) (depth_found c.self.inside.slots c.self.invariant.0 c.self.invariant.1)
