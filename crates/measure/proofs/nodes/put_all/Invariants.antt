use Rattle.pair_rule.specs.Rest.{AtRest}
use Rattle.pair_rule.specs.NoRoots.{no_roots}
use Rattle.measure.proofs.nodes.put_all.Given as goal

abbrev pub invariant-loop-number : goal.invariant-loop-number
invariant-loop-number l = AtRest no_roots l.nodes l.pass
