use Rattle.std.specs.Prelude.{◌≡◌, ◌≤◌, take}
use Rattle.trace_csv.specs.Report.{marked_count}
use Rattle.trace_csv.proofs.report.text.count_marked.Given as goal

abbrev pub invariant-loop-i : goal.invariant-loop-i
invariant-loop-i l = record {
  counted : l.marked ≡ marked_count (take l.i l.replies) (take l.i l.firsts);
  few : l.marked ≤ l.i;
}
