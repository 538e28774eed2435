use Rattle.std.proofs.Common.{◌≡◌}
use Rattle.pair_rule.specs.Rest.{AtRest}
use Rattle.region_root.specs.Compact.{compact}
use Rattle.tree_store.proofs.tests.flags.flags_stay_while_a_region_fills.Given as goal

abbrev pub invariant-loop-right : goal.invariant-loop-right
invariant-loop-right g l = record {
  flags : l.flags.store.now.about.flags ≡ 8;
  rest : AtRest (compact 16 8) l.flags.store.now l.pass;
}
