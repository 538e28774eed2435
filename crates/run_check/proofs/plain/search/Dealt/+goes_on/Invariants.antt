use Rattle.std.specs.Prelude.{◌≡◌, ◌<◌, ◌-◌, ℕ}
use Rattle.run_check.proofs.SearchLemmas.{GoesOnBy}
use Rattle.run_check.specs.Search.{vectors}
use Rattle.run_check.proofs.plain.search.Dealt.+goes_on.Given as goal

abbrev pub decreases-goes_on : goal.decreases-goes_on
decreases-goes_on l = l.left

-- the calls are as they were, and none of the lines so far goes on
abbrev pub invariant-loop-i : goal.invariant-loop-i
invariant-loop-i l = (l.history.items ≡ l.initial.history.items)
    × ((k : ℕ) → k < l.i
    → GoesOnBy (vectors l.self) l.self.replies.now l.self.workers l.self.block l.initial.history.items (l.left - 1) k → ⊥)
