use Rattle.std.specs.Prelude.{◌*◌, ◌-◌, ◌≡◌}
use Rattle.pair_rule.specs.Rest.{AtRest, view}
use Rattle.pair_nodes.specs.Probe.{pair_of_word, course_of, Underway, KeepsTree}
use Rattle.pair_nodes.proofs.probe.probe.Given as goal

abbrev pub invariant-loop-line : goal.invariant-loop-line
invariant-loop-line g l = record {
  rest : AtRest g.R.RootPart.part l.table l.pass;
  tree : KeepsTree l.fn.pass l.pass;
  course : l.walk.course ≡ course_of l.table.about l.word;
  passed : l.walk.passed ≡ l.line - 1;
  so_far : Underway (pair_of_word l.word) (8 * l.line) 1 (view l.fn.pass) (view l.pass);
}
