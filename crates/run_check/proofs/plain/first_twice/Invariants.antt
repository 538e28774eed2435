use Rattle.std.specs.Prelude.{◌<◌, ℕ}
use Rattle.run_check.specs.Sentences.{IsSecond}
use Rattle.run_check.proofs.plain.first_twice.Given as goal

abbrev pub invariant-loop-second : goal.invariant-loop-second
invariant-loop-second l = (k : ℕ) → k < l.second → IsSecond l.trace l.replies k → ⊥
