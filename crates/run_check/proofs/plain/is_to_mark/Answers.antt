use Rattle.run_check.proofs.PlainLemmas.{to-mark-by-new, to-mark-itself}
use Rattle.run_check.proofs.plain.is_to_mark.Goals as goal

pub returns-in_default : goal.returns-in_default
returns-in_default c =
    to-mark-itself c.args.trace.now c.args.replies.now c.args.workers c.args.block c.args.marks.now c.args.i c.requires.one_each c.requires.within c.if-marks-i.false
    (c.earlier_marked.ensures.0 c.if-not-earlier_marked.false) c.in_default.not-Seen

pub returns : goal.returns
returns c =
    to-mark-by-new c.args.trace.now c.args.replies.now c.args.workers c.args.block c.args.marks.now c.args.i c.requires.one_each c.requires.within c.if-marks-i.false
    (c.earlier_marked.ensures.0 c.if-not-earlier_marked.false) c.in-Seen.field-0 c.line.result.now c.line.ensures c.in-Seen.is c.new_marked.result c.new_marked.ensures
