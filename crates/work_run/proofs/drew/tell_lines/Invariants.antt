use Rattle.std.specs.Prelude.{◌≡◌, ◌<◌, ◌≤◌, ◌/◌, ℕ, length, slice_index, vec_capacity}
use Rattle.work_run.proofs.drew.tell_lines.Given as goal

abbrev pub invariant-loop-i : goal.invariant-loop-i
invariant-loop-i l = record {
  count : length l.drawn.items ≡ l.i;
  room : l.lines ≤ vec_capacity l.drawn;
  told : (k : ℕ) → k < l.i → slice_index l.drawn.items k ≡ slice_index l.marks (k / l.block);
}
