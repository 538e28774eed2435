use Rattle.block_claims.proofs.Steps.{count_is_small, all_is_alone, ended_has_all}
use Rattle.block_claims.proofs.laws.rule_tells.Goals as goal

pub returns-clause-small : goal.returns-clause-small
returns-clause-small c = count_is_small

pub returns-clause-alone : goal.returns-clause-alone
returns-clause-alone c = λ totals words shares k i j s t at all_of there apart. all_is_alone totals words shares k i s at all_of j t there apart

pub returns-clause-has_all : goal.returns-clause-has_all
returns-clause-has_all c = λ totals words shares k i s at one. ended_has_all totals words shares k i s at one
