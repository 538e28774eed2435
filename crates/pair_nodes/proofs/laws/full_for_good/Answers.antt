use Rattle.pair_nodes.proofs.laws.full_for_good.Goals as goal

pub returns : goal.returns
returns g c = g.met.D.RootTable.refusals
