use Rattle.std.specs.Prelude.{◌<◌, ℕ}
use Rattle.run_check.specs.Plain.{IsToMark}
use Rattle.run_check.proofs.plain.next_reached.Given as goal

abbrev pub invariant-loop-i : goal.invariant-loop-i
invariant-loop-i l = (k : ℕ) → k < l.i → IsToMark l.trace l.replies l.workers l.block l.marks k → ⊥
