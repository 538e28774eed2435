use Rattle.pair_rule.specs.Rest.{AtRest}
use Rattle.measure.proofs.roots.put_all.Given as goal

abbrev pub invariant-loop-number : goal.invariant-loop-number
invariant-loop-number g l = AtRest g.D.RootCalls.part (g.D.RootCalls.store l.roots) l.pass
