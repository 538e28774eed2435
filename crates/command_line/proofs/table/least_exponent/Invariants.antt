use Rattle.std.proofs.Common.{ℕ, ◌<◌, ◌≤◌, ◌^◌}
use Rattle.command_line.proofs.table.least_exponent.Given as goal

-- the exponents below fall short
abbrev pub invariant-loop-exponent : goal.invariant-loop-exponent
invariant-loop-exponent l = (q : ℕ) → l.low ≤ q → q < l.exponent → 2 ^ q < l.need
