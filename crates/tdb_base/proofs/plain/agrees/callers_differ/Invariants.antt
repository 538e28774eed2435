use Rattle.std.specs.Prelude.{◌≡◌, ◌<◌, ◌≢◌, ℕ, Some, slice_get}
use Rattle.tdb_base.proofs.plain.agrees.callers_differ.Given as goal

abbrev pub invariant-loop-i : goal.invariant-loop-i
invariant-loop-i l = (j k c : ℕ) → j < k → k < l.i → slice_get l.callers j ≡ Some c → slice_get l.callers k ≢ Some c
