use Rattle.std.proofs.Common.{◌≡◌}
use Rattle.pair_rule.specs.Rest.{AtRest}
use Rattle.root_plain.specs.Plain.{plain}
use Rattle.root_plain.proofs.tests.crowd.put_twelve.Given as goal

abbrev pub invariant-loop-turn : goal.invariant-loop-turn
invariant-loop-turn l = record {
  width : l.store.about.width ≡ 16;
  slots : l.store.about.slots ≡ 2;
  rest : AtRest plain l.store l.pass;
}
