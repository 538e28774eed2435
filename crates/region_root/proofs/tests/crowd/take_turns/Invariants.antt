use Rattle.std.proofs.Common.{All}
use Rattle.pair_rule.specs.Rest.{AtRest}
use Rattle.region_root.specs.Compact.{compact}
use Rattle.region_root.proofs.tests.crowd.take_turns.Given as goal

abbrev pub invariant-loop-round : goal.invariant-loop-round
invariant-loop-round g l = All (λ c. AtRest (compact 16 8) l.store c.pass) l.callers
