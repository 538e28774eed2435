use Rattle.std.proofs.Common.{◌≤◌, vec_len}
use Rattle.std.specs.Io.KnownBytes.{Consumes}
use Rattle.trace_csv.specs.Input.{limit}
use Rattle.trace_csv.proofs.input.read_to_end.Given as goal

abbrev pub invariant-loop-turn : goal.invariant-loop-turn
invariant-loop-turn g l = record {
  given : Consumes (g.S.Source.left l.initial.source) (g.S.Source.left l.source) l.all.items;
  within : vec_len l.all ≤ limit;
  turns : l._turn ≤ vec_len l.all;
  later : g.S.Source.faults l.initial.source ≤ g.S.Source.faults l.source;
}
