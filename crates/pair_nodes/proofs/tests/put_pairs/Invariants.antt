use Rattle.pair_rule.specs.Rest.{AtRest}
use Rattle.pair_nodes.proofs.tests.put_pairs.Given as goal

abbrev pub invariant-loop-turn : goal.invariant-loop-turn
invariant-loop-turn g l = AtRest g.R.RootPart.part l.nodes l.pass
