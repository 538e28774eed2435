use Rattle.run_check.specs.Refusal.{IsFront}
use Rattle.run_check.proofs.read.read_replies.Given as goal

abbrev pub invariant-loop-i : goal.invariant-loop-i
invariant-loop-i l = IsFront (λ v. v.items) l.i l.bytes l.replies l.new l.text
