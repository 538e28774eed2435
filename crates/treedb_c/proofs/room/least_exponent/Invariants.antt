use Rattle.std.proofs.Common.{ℕ, ◌<◌, ◌≤◌, ◌^◌}
use Rattle.treedb_c.proofs.room.least_exponent.Given as goal

-- the powers of two below fall short
abbrev pub invariant-loop-exponent : goal.invariant-loop-exponent
invariant-loop-exponent l = (q : ℕ) → 3 ≤ q → q < l.exponent → 2 ^ q < l.need
