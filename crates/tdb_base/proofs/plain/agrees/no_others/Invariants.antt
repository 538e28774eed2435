use Rattle.std.specs.Prelude.{◌≡◌, ◌<◌, ◌≤◌, ℕ, Contains, Some, length, slice_get}
use Rattle.tdb_base.specs.History as h
use Rattle.tdb_base.proofs.plain.agrees.no_others.Given as goal

abbrev pub invariant-loop-i : goal.invariant-loop-i
invariant-loop-i l = (k : ℕ) (e : h.Entry) → length l.earlier ≤ k → k < l.i → slice_get l.later k ≡ Some e → Contains l.callers e.caller
