use Rattle.std.specs.Prelude.{◌<◌, ℕ}
use Rattle.run_check.specs.Sentences.{IsFullNamed}
use Rattle.run_check.proofs.plain.first_full_named.Given as goal

abbrev pub invariant-loop-i : goal.invariant-loop-i
invariant-loop-i l = (k : ℕ) → k < l.i → IsFullNamed l.trace l.replies k → ⊥
