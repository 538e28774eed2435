use Rattle.std.specs.Prelude.{◌≡◌, ◌≢◌, ◌<◌, ℕ, Some, slice_get}
use Rattle.tdb_base.specs.History as h
use Rattle.tdb_base.proofs.plain.is_given.Given as goal

abbrev pub invariant-loop-call : goal.invariant-loop-call
invariant-loop-call l = (k : ℕ) (e : h.Entry) → k < l.call-index → slice_get l.history k ≡ Some e → h.name_of l.history e.vector ≢ Some l.id
