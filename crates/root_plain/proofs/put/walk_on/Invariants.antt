use Rattle.std.proofs.Common.{◌*◌, ◌+◌, ◌≡◌, ◌≢◌, ◌≤◌}
use Rattle.pair_nodes.specs.Probe.{pair_of_word}
use Rattle.pair_rule.specs.Rest.{AtRest, view}
use Rattle.root_plain.specs.Plain.{plain}
use Rattle.pair_rule.specs.Calls.{KeepsBuffers}
use Rattle.root_plain.specs.Probe.{Passes, Along}
use Rattle.root_plain.proofs.put.walk_on.Given as goal

abbrev pub invariant-loop-line : goal.invariant-loop-line
invariant-loop-line g l = record {
  rest : AtRest plain l.table l.pass;
  along : Along l.table.about (pair_of_word l.word) l.walk.course;
  line : l.walk.passed ≡ l.line;
  end : l.line-end ≡ l.walk.course.lines;
  from : (l.from ≤ 8) × (l.line ≢ 0 → l.from ≡ 0);
  passes : Passes l.table.about (pair_of_word l.word) (8 * l.line + l.from) (view l.initial.pass) (view l.pass);
  buffers : KeepsBuffers l.initial.pass l.pass;
}
