use Rattle.std.proofs.Common.{◌≡◌}
use Rattle.pair_rule.specs.Rest.{AtRest}
use Rattle.region_root.specs.Compact.{compact}
use Rattle.region_root.proofs.tests.moved.flags_move_with_their_roots.Given as goal

abbrev pub invariant-loop-slot : goal.invariant-loop-slot
invariant-loop-slot g l = record {
  width : l.store.about.width ≡ 16;
  slots : l.store.about.slots ≡ 3;
  flags : l.store.about.flags ≡ 8;
  rest : AtRest (compact 16 8) l.store l.pass;
}
