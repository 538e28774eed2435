use Rattle.block_claims.proofs.Drawn.{has_one_drawer, none_but_blocks}
use Rattle.block_claims.proofs.laws.each_block_has_one_drawer.Goals as goal

pub returns-clause-one : goal.returns-clause-one
returns-clause-one c = has_one_drawer

pub returns-clause-blocks : goal.returns-clause-blocks
returns-clause-blocks c = none_but_blocks
