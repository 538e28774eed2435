use Rattle.std.specs.Prelude.{count_by, not}
use Rattle.run_check.specs.Plain.{AreSound}
use Rattle.run_check.proofs.plain.reached_lines.Given as goal

abbrev pub invariant-loop-i : goal.invariant-loop-i
invariant-loop-i l = AreSound l.trace l.replies l.workers l.block l.marks.items

abbrev pub decreases-loop-i : goal.decreases-loop-i
decreases-loop-i l = count_by not l.marks.items
