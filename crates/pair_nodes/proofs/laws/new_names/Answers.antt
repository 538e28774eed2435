use Rattle.pair_nodes.proofs.PassLaws as laws
use Rattle.pair_nodes.proofs.laws.new_names.Goals as goal

pub returns : goal.returns
returns g c = laws.new_name g.R.RootPart.part
