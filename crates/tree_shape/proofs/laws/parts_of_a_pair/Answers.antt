use Rattle.std.proofs.Common.{◌^◌}
use Rattle.std.proofs.lemmas.Nat.{div-mul-add, mod-mul-add}
use Rattle.tree_shape.proofs.laws.parts_of_a_pair.Goals as goal

pub returns : goal.returns
returns c = λ width left right small. (div-mul-add left (2 ^ width) right small, mod-mul-add left (2 ^ width) right small)
