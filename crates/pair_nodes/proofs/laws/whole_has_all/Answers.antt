use Rattle.pair_nodes.proofs.PassLaws as laws
use Rattle.pair_nodes.proofs.laws.whole_has_all.Goals as goal

pub returns : goal.returns
returns g c = laws.whole_has_all g.R.RootPart.part
