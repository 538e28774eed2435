use Rattle.std.proofs.Common.{◌≡◌}
use Rattle.pair_rule.specs.Rest.{AtRest}
use Rattle.region_root.specs.Compact.{compact}
use Rattle.region_root.proofs.tests.fills_up.Given as goal

abbrev pub invariant-loop-slot : goal.invariant-loop-slot
invariant-loop-slot g l = record {
  width : l.store.about.width ≡ 16;
  slots : l.store.about.slots ≡ 3;
  rest : AtRest (compact 16 8) l.store l.pass;
}

abbrev pub invariant-loop-slot-2 : goal.invariant-loop-slot-2
invariant-loop-slot-2 g l = record {
  width : l.store.about.width ≡ 16;
  slots : l.store.about.slots ≡ 3;
  rest : AtRest (compact 16 8) l.store l.pass;
}
