use Rattle.std.specs.Prelude.{◌≡◌, ◌<◌, ℕ, Contains, Some, slice_get}
use Rattle.tdb_base.specs.History as h
use Rattle.tdb_base.proofs.plain.agrees.callers_new.Given as goal

abbrev pub invariant-loop-call : goal.invariant-loop-call
invariant-loop-call l = (k : ℕ) (e : h.Entry) → k < l.call-index → slice_get l.earlier k ≡ Some e → ¬ Contains l.callers e.caller
