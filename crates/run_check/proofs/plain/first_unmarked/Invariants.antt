use Rattle.std.specs.Prelude.{◌<◌, ℕ}
use Rattle.run_check.specs.Plain.{HasMark}
use Rattle.run_check.proofs.plain.first_unmarked.Given as goal

abbrev pub invariant-loop-i : goal.invariant-loop-i
invariant-loop-i l = (k : ℕ) → k < l.i → HasMark l.marks k
