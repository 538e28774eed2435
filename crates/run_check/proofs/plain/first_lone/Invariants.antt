use Rattle.std.specs.Prelude.{◌<◌, ℕ}
use Rattle.run_check.specs.Sentences.{IsLone}
use Rattle.run_check.proofs.plain.first_lone.Given as goal

abbrev pub invariant-loop-i : goal.invariant-loop-i
invariant-loop-i l = (k : ℕ) → k < l.i → IsLone l.trace l.replies k → ⊥
