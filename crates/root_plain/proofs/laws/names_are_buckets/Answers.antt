use Rattle.pair_rule.specs.Paths.{size}
use Rattle.root_plain.proofs.Probing.{name_bucket}
use Rattle.root_plain.proofs.laws.names_are_buckets.Goals as goal

pub returns : goal.returns
unfolding size
returns c = λ store p r v id n. name_bucket store p id v r n
