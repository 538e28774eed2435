use Rattle.std.specs.Prelude.{◌≡◌, ◌<◌, ℕ, Some, slice_get}
use Rattle.tdb_base.specs.History.{Vector}
use Rattle.tdb_base.specs.declared.reply.Reply.TheVariants as r
use Rattle.run_check.specs.Reached.{Line}
use Rattle.run_check.proofs.plain.is_full_named.Given as goal

abbrev pub invariant-loop-k : goal.invariant-loop-k
invariant-loop-k l = (k id : ℕ) (v : Vector) → k < l.k → slice_get l.trace l.i ≡ Some v → Line l.trace l.replies k v (r.New id) → ⊥
