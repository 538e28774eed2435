use Rattle.pair_rule.specs.Rest.{AtRest}
use Rattle.region_root.specs.Compact.{compact}
use Rattle.tree_store.proofs.tests.compact.answers_full_roots.Given as goal

abbrev pub invariant-loop-right : goal.invariant-loop-right
invariant-loop-right g l = AtRest (compact 28 7) l.store l.pass
