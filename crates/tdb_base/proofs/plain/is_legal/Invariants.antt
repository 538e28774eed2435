use Rattle.std.specs.Prelude.{take}
use Rattle.tdb_base.specs.Legal.{IsLegal}
use Rattle.tdb_base.proofs.plain.is_legal.Given as goal

abbrev pub invariant-loop-i : goal.invariant-loop-i
invariant-loop-i l = IsLegal l.flag_count (take l.i l.history)
