use Rattle.std.proofs.Common.{◌≡◌, All}
use Rattle.pair_rule.specs.Rest.{AtRest, KnowsName}
use Rattle.root_plain.specs.Plain.{plain}
use Rattle.measure.proofs.flags.fill.Given as goal

abbrev pub invariant-loop-number : goal.invariant-loop-number
invariant-loop-number l = record {
  width : l.roots.about.width ≡ 28;
  slots : l.roots.about.slots ≡ 2;
  rest : AtRest plain l.roots l.pass;
  named : All (KnowsName l.pass) l.ids.items;
}
