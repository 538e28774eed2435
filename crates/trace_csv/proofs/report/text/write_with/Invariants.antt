use Rattle.std.proofs.Common.{◌≤◌, [], take}
use Rattle.std.specs.Prelude.{All}
use Rattle.trace_csv.specs.OneReport.{HasWordId}
use Rattle.trace_csv.specs.Page.{Carries}
use Rattle.trace_csv.specs.Report.{lines_with}
use Rattle.trace_csv.proofs.report.text.write_with.Given as goal

abbrev pub invariant-loop-i : goal.invariant-loop-i
invariant-loop-i g l = record {
  carried : Carries (g.K.Sink.taken l.fn.sink) (g.K.Sink.taken l.sink) [] l.page (lines_with (g.E.AddExtras.extras l.extras) 0 (take l.i l.replies));
  fit : All HasWordId (take l.i l.replies);
  later : g.K.Sink.faults l.fn.sink ≤ g.K.Sink.faults l.sink;
}
