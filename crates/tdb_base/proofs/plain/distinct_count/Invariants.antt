use Rattle.std.specs.Prelude.{◌≡◌, ◌≤◌, length, map, take}
use Rattle.tdb_base.specs.Lines.{distinct}
use Rattle.tdb_base.proofs.plain.distinct_count.Given as goal

abbrev pub invariant-loop-i : goal.invariant-loop-i
invariant-loop-i l = record {
  same : l.count ≡ length (distinct (map (λ v. v.items) (take l.i l.vectors)));
  few : l.count ≤ l.i;
}
