use Rattle.run_check.proofs.TableLemmas.{Seeks}
use Rattle.run_check.proofs.table.LineTable.find.Given as goal

abbrev pub invariant-loop-step : goal.invariant-loop-step
invariant-loop-step l = Seeks l.trace l.replies l.key l.self l.step
