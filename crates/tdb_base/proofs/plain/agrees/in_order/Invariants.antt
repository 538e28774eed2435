use Rattle.std.specs.Prelude.{◌≡◌, ◌≤◌, ◌↔◌, IsTrue, length, map, take}
use Rattle.tdb_base.specs.History as h
use Rattle.tdb_base.proofs.AgreesLemmas.{dealt_entries}
use Rattle.tdb_base.proofs.plain.agrees.in_order.Given as goal

abbrev pub invariant-loop-i : goal.invariant-loop-i
invariant-loop-i l = let entries = dealt_entries l.caller (map (λ v. v.items) l.trace) l.replies l.workers l.block l.worker l.i in record {
  same : IsTrue l.fine ↔ (take l.number (h.calls l.later l.caller) ≡ entries);
  count : l.number ≡ length entries;
  few : l.number ≤ l.i;
}
