use Rattle.std.proofs.Common.{◌+◌, ◌*◌}
use Rattle.pair_nodes.specs.Probe.{pair_of_word}
use Rattle.pair_rule.specs.Rest.{AtRest, view}
use Rattle.root_plain.specs.Plain.{plain}
use Rattle.pair_rule.specs.Calls.{KeepsBuffers}
use Rattle.root_plain.specs.Probe.{Passes}
use Rattle.root_plain.proofs.put.walk_line.Given as goal

abbrev pub invariant-loop-i : goal.invariant-loop-i
invariant-loop-i g l = record {
  rest : AtRest plain l.table l.pass;
  passes : Passes l.table.about (pair_of_word l.word) (8 * l.walk.passed + l.i) (view l.initial.pass) (view l.pass);
  buffers : KeepsBuffers l.initial.pass l.pass;
}
