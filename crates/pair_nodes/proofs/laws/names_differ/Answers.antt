use Rattle.pair_nodes.proofs.PassLaws as laws
use Rattle.pair_nodes.proofs.laws.names_differ.Goals as goal

pub returns : goal.returns
returns g c = laws.names_differ g.R.RootPart.part
