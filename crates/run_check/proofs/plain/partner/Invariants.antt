use Rattle.std.specs.Prelude.{◌<◌, ℕ}
use Rattle.run_check.specs.Sentences.{IsTwice}
use Rattle.run_check.proofs.plain.partner.Given as goal

abbrev pub invariant-loop-first : goal.invariant-loop-first
invariant-loop-first l = (k : ℕ) → k < l.first → IsTwice l.trace l.replies l.second k → ⊥
