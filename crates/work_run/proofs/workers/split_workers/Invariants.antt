use Rattle.std.specs.Prelude.{◌≡◌, ◌≤◌, ℕ, length, vec_capacity}
use Rattle.work_run.specs.Workers.{AreSplitWorkers}
use Rattle.work_run.proofs.workers.split_workers.Given as goal

abbrev pub invariant-loop-number : goal.invariant-loop-number
invariant-loop-number g l = record {
  split : AreSplitWorkers g.S.Shared.part (g.S.Shared.store l.store) g.P.Lines.Supply.giving.left (g.P.Dealing.begins l.fn.dealing) l.fn.pass l.pass l.all_workers.items;
  so_many : length l.all_workers.items ≡ l.number;
  room : l.workers ≤ vec_capacity l.all_workers;
  next : g.P.Dealing.is_next l.dealing l.number;
  count : g.P.Dealing.count l.dealing ≡ l.workers;
  begins : (n : ℕ) (lines : g.row.P-Lines.Denot) → g.P.Dealing.begins l.dealing n lines → g.P.Dealing.begins l.fn.dealing n lines;
}
