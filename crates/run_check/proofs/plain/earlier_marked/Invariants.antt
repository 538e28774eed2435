use Rattle.std.specs.Prelude.{◌≡◌, ◌<◌, ℕ}
use Rattle.run_check.specs.Plain.{HasMark}
use Rattle.run_check.specs.Reached.{owner}
use Rattle.run_check.proofs.plain.earlier_marked.Given as goal

abbrev pub invariant-loop-k : goal.invariant-loop-k
invariant-loop-k l = (k : ℕ) → k < l.k → owner l.workers l.block k ≡ owner l.workers l.block l.i → HasMark l.marks k
