use Rattle.std.proofs.Common.{◌<◌, ℕ}
use Rattle.run_check.specs.Cut.{IsCut}
use Rattle.run_check.proofs.cut.divide.Given as goal

abbrev pub invariant-loop-i : goal.invariant-loop-i
invariant-loop-i l = (k : ℕ) → k < l.i → IsCut l.bytes k → ⊥
