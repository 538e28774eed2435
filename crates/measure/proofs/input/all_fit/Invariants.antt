use Rattle.std.specs.Prelude.{ℕ, List, ◌≡◌, ◌<◌, Some, slice_get}
use Rattle.tree_store.specs.Vectors.{IsVector}
use Rattle.measure.proofs.input.all_fit.Given as goal

abbrev pub invariant-loop-i : goal.invariant-loop-i
invariant-loop-i g l = (k : ℕ) (line : List ℕ) → k < l.i → slice_get l.trace k ≡ Some line → IsVector l.store.about line
