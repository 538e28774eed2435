use Rattle.run_check.proofs.PlainLemmas.{are-reached, mark-sound}
use Rattle.run_check.proofs.plain.reached_lines.Goals as goal

pub loop-i-preserved : goal.loop-i-preserved
loop-i-preserved c =
    let next = rw c.deref.ensures.value at c.in-Some.ensures.next in
    mark-sound c.args.trace.now c.args.replies.now c.args.workers c.args.block c.loop-i.marks.items c.in-Some.i c.in-Some.ensures.within c.loop-i.invariant next

pub returns : goal.returns
returns c =
    let none = rw c.deref.ensures.value at c.in_default.ensures.next in
    are-reached c.args.trace.now c.args.replies.now c.args.workers c.args.block c.loop-i.marks.items c.loop-i.invariant none
