use Rattle.std.specs.Prelude.{◌≡◌, ◌<◌, ℕ, Some, length, map, slice_get}
use Rattle.tdb_base.specs.History as h
use Rattle.tdb_base.proofs.AgreesLemmas.{dealt_entries}
use Rattle.tdb_base.proofs.plain.agrees.all_in_order.Given as goal

abbrev pub invariant-loop-j : goal.invariant-loop-j
invariant-loop-j l = (j c : ℕ) → j < l.j → slice_get l.callers j ≡ Some c
    → h.calls l.later c ≡ dealt_entries c (map (λ v. v.items) l.trace) l.replies l.workers l.block j (length (map (λ v. v.items) l.trace))
