use Rattle.std.proofs.Common.{◌≤◌, take}
use Rattle.trace_csv.specs.Page.{Carries, HasRoom}
use Rattle.trace_csv.proofs.VectorsLemmas.{joined}
use Rattle.trace_csv.specs.Vectors.{texts}
use Rattle.trace_csv.proofs.vectors.add_vector.Given as goal

abbrev pub invariant-loop-i : goal.invariant-loop-i
invariant-loop-i g l = record {
  carried : Carries (g.K.Sink.taken l.fn.sink) (g.K.Sink.taken l.sink) l.fn.page l.page (joined (take l.i (texts l.form l.vector)));
  room : HasRoom l.page 2;
  later : g.K.Sink.faults l.fn.sink ≤ g.K.Sink.faults l.sink;
}
