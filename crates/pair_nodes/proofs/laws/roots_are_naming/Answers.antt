use Rattle.pair_nodes.proofs.PassLaws as laws
use Rattle.pair_nodes.proofs.laws.roots_are_naming.Goals as goal

pub returns : goal.returns
returns g c = laws.roots_naming g.R.RootPart.part
