use Rattle.std.proofs.Common.{◌≡◌, All}
use Rattle.pair_rule.specs.Rest.{AtRest, KnowsName}
use Rattle.region_root.specs.Compact.{compact}
use Rattle.store_uses.specs.Known.{IsStored}
use Rattle.store_uses.proofs.path.read_back.Given as goal

abbrev pub invariant-loop : goal.invariant-loop
invariant-loop l = record {
  slots : l.store.about.slots ≡ 5;
  rest : AtRest (compact 28 7) l.store l.pass;
  found : All (λ r. KnowsName l.pass r.id) l.found;
  stored : All (IsStored l.pass) l.path.items;
}
