use Rattle.block_claims.proofs.Drawn.{new_has_none, draws_one_more, draws_at_most}
use Rattle.block_claims.proofs.laws.draws_end.Goals as goal

pub returns-clause-none : goal.returns-clause-none
returns-clause-none c = new_has_none

pub returns-clause-one_more : goal.returns-clause-one_more
returns-clause-one_more c = draws_one_more

pub returns-clause-at_most : goal.returns-clause-at_most
returns-clause-at_most c = draws_at_most
