use Rattle.std.specs.Prelude.{◌≡◌, ◌≤◌, length, map, vec_capacity, vec_len}
use Rattle.work_run.specs.BlockLines.{blocks_of}
use Rattle.work_run.proofs.drew.part_from_drawers.Given as goal

abbrev pub invariant-loop-worker : goal.invariant-loop-worker
invariant-loop-worker g l = record {
  passes : map (λ w. w.pass) l.rest.items ≡ map (λ w. w.pass) l.yielded;
  answers : map (λ w. w.answers.items) l.rest.items ≡ map (λ w. w.answers.items) l.yielded;
  blocks : map (λ w. w.lines.items) l.rest.items ≡ map (λ w. blocks_of w.lines) l.yielded;
  drawers : l.drawers.items ≡ map (λ w. w.lines.drawer) l.yielded;
  count : (length l.rest.items ≡ length l.yielded) × (length l.drawers.items ≡ length l.yielded);
  room : vec_len l.fn.all_workers ≤ vec_capacity l.rest;
  drawers_room : vec_len l.fn.all_workers ≤ vec_capacity l.drawers;
}
