use Rattle.std.proofs.Common.{◌≡◌, All}
use Rattle.pair_rule.specs.Rest.{AtRest, KnowsName}
use Rattle.root_plain.specs.Plain.{plain}
use Rattle.measure.proofs.flags.time_turns.Given as goal

abbrev pub invariant-loop-b : goal.invariant-loop-b
invariant-loop-b l = record {
  flags : l.roots.about.flags ≡ 7;
  rest : AtRest plain l.roots l.pass;
  named : All (KnowsName l.pass) l.ids;
}
