use Rattle.std.specs.Prelude.{◌≡◌, length, map}
use Rattle.work_run.specs.Drew.{AreMarked}
use Rattle.work_run.proofs.drew.mark_all.Given as goal

abbrev pub invariant-loop-number : goal.invariant-loop-number
invariant-loop-number g l = record {
  marked : AreMarked l.number (map (λ w. w.lines.items) l.all_workers) l.marks;
  long : length l.marks ≡ length l.fn.marks;
}
