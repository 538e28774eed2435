use Rattle.std.proofs.Common.{◌≤◌, [], take}
use Rattle.trace_csv.specs.Page.{Carries}
use Rattle.trace_csv.specs.Vectors.{form_text, vectors_of}
use Rattle.trace_csv.proofs.vectors.write_form.Given as goal

abbrev pub invariant-loop-number : goal.invariant-loop-number
invariant-loop-number g l = record {
  carried : Carries (g.K.Sink.taken l.fn.sink) (g.K.Sink.taken l.sink) [] l.page (form_text l.form (vectors_of l.slots l.flat (take l.number-index l.order)));
  later : g.K.Sink.faults l.fn.sink ≤ g.K.Sink.faults l.sink;
}
