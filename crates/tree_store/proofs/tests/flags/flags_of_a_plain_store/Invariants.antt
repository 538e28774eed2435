use Rattle.std.proofs.Common.{◌≡◌}
use Rattle.pair_rule.specs.Rest.{AtRest}
use Rattle.root_plain.specs.Plain.{plain}
use Rattle.tree_store.proofs.tests.flags.flags_of_a_plain_store.Given as goal

abbrev pub invariant-loop-doing : goal.invariant-loop-doing
invariant-loop-doing g l = record {
  flags : l.flags.store.now.about.flags ≡ 8;
  rest : AtRest plain l.flags.store.now l.pass;
}
