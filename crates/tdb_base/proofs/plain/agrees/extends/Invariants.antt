use Rattle.std.proofs.Common.{◌≡◌, take}
use Rattle.tdb_base.proofs.plain.agrees.extends.Given as goal

abbrev pub invariant-loop-i : goal.invariant-loop-i
invariant-loop-i l = take l.i l.earlier ≡ take l.i l.later
