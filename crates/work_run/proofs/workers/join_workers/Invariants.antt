use Rattle.std.specs.Prelude.{length}
use Rattle.pair_rule.proofs.InTurn.{Joining}
use Rattle.work_run.specs.declared.worker.Worker.{Worker}
use Rattle.work_run.proofs.workers.join_workers.Given as goal

abbrev pub invariant-loop-worker : goal.invariant-loop-worker
invariant-loop-worker g l = Joining g.S.Shared.part (g.S.Shared.store l.store) (λ (w : Worker g.row.S-View.Denot g.row.P.Denot g.row.A.Denot). w.pass) l.fn.pass l.pass l.fn.all_workers.items l.left.items

abbrev pub decreases-loop-worker : goal.decreases-loop-worker
decreases-loop-worker g l = length l.left.items
