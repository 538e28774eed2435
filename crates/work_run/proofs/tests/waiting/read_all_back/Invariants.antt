use Rattle.std.proofs.Common.{◌≡◌}
use Rattle.pair_rule.specs.Rest.{AtRest}
use Rattle.region_root.specs.Compact.{compact}
use Rattle.work_run.proofs.tests.waiting.read_all_back.Given as goal

abbrev pub invariant-loop-i : goal.invariant-loop-i
invariant-loop-i g l = record {
  slots : l.store.about.slots ≡ 3;
  rest : AtRest (compact 28 7) l.store l.pass;
}
