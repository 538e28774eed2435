use Rattle.mix_hash.proofs.Hashing.{mix_of-one_to_one, mix_of-onto}
use Rattle.mix_hash.proofs.mix_is_one_to_one.Goals as goal

pub returns-clause-one_to_one : goal.returns-clause-one_to_one
returns-clause-one_to_one g c = mix_of-one_to_one g.row.W c.requires.1

pub returns-clause-onto : goal.returns-clause-onto
returns-clause-onto g c = mix_of-onto g.row.W c.requires.1
