use Rattle.std.proofs.Common.{◌≡◌, All}
use Rattle.pair_rule.specs.Rest.{AtRest, KnowsName}
use Rattle.root_plain.specs.Plain.{plain}
use Rattle.store_uses.proofs.search.expand_all.Given as goal

abbrev pub invariant-loop : goal.invariant-loop
invariant-loop l = record {
  sizes : (l.store.about.slots ≡ 5) × (l.store.about.flags ≡ 7);
  rest : AtRest plain l.store l.pass;
  frontier : All (KnowsName l.pass) l.frontier.items;
}
