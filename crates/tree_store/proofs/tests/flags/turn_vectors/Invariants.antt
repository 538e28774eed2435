use Rattle.std.proofs.Common.{◌≡◌}
use Rattle.pair_rule.specs.Rest.{AtRest}
use Rattle.tree_store.proofs.tests.flags.turn_vectors.Given as goal

abbrev pub invariant-loop-vector : goal.invariant-loop-vector
invariant-loop-vector g l = record {
  flags : (g.D.Flagged.store l.store).about.flags ≡ 8;
  rest : AtRest g.D.Flagged.part (g.D.Flagged.store l.store) l.caller.pass;
}
