use Rattle.pair_rule.specs.Rest.{AtRest}
use Rattle.root_plain.specs.Plain.{plain}
use Rattle.tree_store.proofs.tests.answers_full_roots.Given as goal

abbrev pub invariant-loop-right : goal.invariant-loop-right
invariant-loop-right g l = AtRest plain l.store l.pass
