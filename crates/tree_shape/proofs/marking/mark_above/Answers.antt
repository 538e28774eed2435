use Rattle.std.proofs.Common.{◌/◌, inl, inr, arith}
use Rattle.tree_shape.proofs.Climbs.{goes_on, inside, climbs, few_steps}
use Rattle.tree_shape.proofs.marking.mark_above.Goals as goal

pub loop-p-preserved : goal.loop-p-preserved
loop-p-preserved c =
    let low = inside c.args.marks.now c.loop-p.marks (c.args.from / 2) c.loop-p.p c.loop-p.added c.loop-p.invariant in
    goes_on c.args.marks.now c.loop-p.marks (c.args.from / 2) c.loop-p.p c.loop-p.added c.loop-p.invariant (omega arith) (omega arith) c.if-not-marks-p.true

pub returns-else-not-marks-p-clause-marked : goal.returns-else-not-marks-p-clause-marked
returns-else-not-marks-p-clause-marked c =
    climbs c.args.marks.now c.loop-p.marks (c.args.from / 2) c.loop-p.p c.loop-p.added c.requires.upwards c.loop-p.invariant (inr c.if-not-marks-p.false)

pub returns-else-not-marks-p-clause-few : goal.returns-else-not-marks-p-clause-few
returns-else-not-marks-p-clause-few c = λ d. few_steps c.args.marks.now c.loop-p.marks c.args.from c.loop-p.p c.loop-p.added d c.loop-p.invariant

pub returns-after-loop-p-clause-marked : goal.returns-after-loop-p-clause-marked
returns-after-loop-p-clause-marked c =
    climbs c.args.marks.now c.loop-p.marks (c.args.from / 2) c.loop-p.p c.loop-p.added c.requires.upwards c.loop-p.invariant (inl (omega arith))

pub returns-after-loop-p-clause-few : goal.returns-after-loop-p-clause-few
returns-after-loop-p-clause-few c = λ d. few_steps c.args.marks.now c.loop-p.marks c.args.from c.loop-p.p c.loop-p.added d c.loop-p.invariant
