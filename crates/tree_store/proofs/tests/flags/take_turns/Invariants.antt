use Rattle.std.proofs.Common.{◌≡◌, All}
use Rattle.pair_rule.specs.Rest.{AtRest}
use Rattle.tree_store.proofs.tests.flags.take_turns.Given as goal

abbrev pub invariant-loop-round : goal.invariant-loop-round
invariant-loop-round g l = record {
  flags : (g.D.Flagged.store l.store).about.flags ≡ 8;
  callers : All (λ c. AtRest g.D.Flagged.part (g.D.Flagged.store l.store) c.pass) l.callers;
}
