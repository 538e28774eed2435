use Rattle.std.specs.Prelude.{◌≡◌}
use Rattle.tdb_base.specs.Lines.{mine}
use Rattle.tdb_base.proofs.plain.mine.Given as goal

abbrev pub invariant-loop-i : goal.invariant-loop-i
invariant-loop-i l = l.numbers.items ≡ mine l.i l.workers l.block l.worker
