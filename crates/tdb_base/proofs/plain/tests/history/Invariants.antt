use Rattle.std.specs.Prelude.{◌≡◌, All, length}
use Rattle.tdb_base.specs.Plain.{FlagsBelow32}
use Rattle.tdb_base.proofs.plain.tests.history.Given as goal

abbrev pub invariant-loop-i : goal.invariant-loop-i
invariant-loop-i g l = record {
  count : length l.entries.items ≡ l.i;
  low : All FlagsBelow32 l.entries.items;
}
