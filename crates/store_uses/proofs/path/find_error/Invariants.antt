use Rattle.std.proofs.Common.{◌≡◌, All, length}
use Rattle.pair_rule.specs.Rest.{AtRest, KnowsName}
use Rattle.region_root.specs.Compact.{compact}
use Rattle.store_uses.proofs.path.find_error.Given as goal

abbrev pub invariant-loop-at : goal.invariant-loop-at
invariant-loop-at g l = record {
  slots : (l.store.about.slots ≡ 5) × (length l.state ≡ 5);
  rest : AtRest (compact 28 7) l.store l.pass;
  found : All (λ r. KnowsName l.pass r.id) l.found.items;
}
