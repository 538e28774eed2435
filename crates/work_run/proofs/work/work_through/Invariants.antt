use Rattle.std.specs.Prelude.{◌+◌, ◌≤◌, ℕ, List, length, vec_capacity}
use Rattle.work_run.specs.Work.{HasTakenLines}
use Rattle.work_run.proofs.work.work_through.Given as goal

abbrev pub invariant-loop-i : goal.invariant-loop-i
invariant-loop-i g l = record {
  lines : List ℕ;
  taken : HasTakenLines g.S.Shared.part (g.S.Shared.store l.store) g.P.Supply.giving (g.T.Task.telling l.task) l.trace lines l.fn.worker l.worker;
  room : g.P.Supply.giving.left l.worker.lines + length l.worker.answers.items ≤ vec_capacity l.worker.answers;
  inside : g.P.Supply.giving.within (length l.trace) l.worker.lines;
}

abbrev pub decreases-loop-i : goal.decreases-loop-i
decreases-loop-i g l = g.P.Supply.giving.left l.worker.lines
