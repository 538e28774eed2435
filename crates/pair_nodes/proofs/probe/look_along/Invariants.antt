use Rattle.std.specs.Prelude.{◌+◌, ◌*◌}
use Rattle.pair_rule.specs.Rest.{AtRest, view}
use Rattle.pair_nodes.specs.Probe.{pair_of_word, Underway, KeepsTree}
use Rattle.pair_nodes.proofs.probe.look_along.Given as goal

abbrev pub invariant-loop-i : goal.invariant-loop-i
invariant-loop-i g l = record {
  rest : AtRest g.R.RootPart.part l.table l.pass;
  tree : KeepsTree l.initial.pass l.pass;
  so_far : Underway (pair_of_word l.word) (8 * l.walk.passed + l.i) 0 (view l.initial.pass) (view l.pass);
}
