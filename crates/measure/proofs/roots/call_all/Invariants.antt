use Rattle.pair_rule.specs.Rest.{AtRest}
use Rattle.measure.proofs.roots.call_all.Given as goal

abbrev pub invariant-loop : goal.invariant-loop
invariant-loop g l = AtRest g.D.RootCalls.part (g.D.RootCalls.store l.roots) l.caller.pass
