use Rattle.std.proofs.Common.{All}
use Rattle.pair_rule.specs.Rest.{AtRest, KnowsName}
use Rattle.root_plain.specs.Plain.{plain}
use Rattle.measure.proofs.flags.set_all.Given as goal

abbrev pub invariant-loop-id : goal.invariant-loop-id
invariant-loop-id l = record {
  rest : AtRest plain l.roots l.pass;
  named : All (KnowsName l.pass) l.ids;
}
