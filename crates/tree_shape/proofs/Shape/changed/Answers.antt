use Rattle.std.proofs.Common.{◌≡◌, ℕ, ◌+◌, length, sym, ◌∙◌, subst, arith}
use Rattle.tree_shape.proofs.Passes.{Passed, upwards, passes_begin, passes_all_same, passes_other, passed_marks, passed_count}
use Rattle.tree_shape.proofs.Shape.changed.Goals as goal
use Rattle.tree_shape.proofs.Shape.changed.Goals.{After-loop-slot}

pub mark_above-count-requires-clause-upwards : goal.mark_above-count-requires-clause-upwards
mark_above-count-requires-clause-upwards c =
    upwards c.self.inside.slots c.args.old.now c.args.new.now c.loop-slot.slot c.loop-slot.marks c.loop-slot.count c.loop-slot.invariant.passed

pub loop-slot-init : goal.loop-slot-init
loop-slot-init c =
    let k = c.self.inside.slots in
    let u = c.args.old.now in
    let v = c.args.new.now in
    let n = c.next_difference-slot in
    let e = n.ensures in
    let long : length u ≡ k = c.requires.old ∙ sym c.self.view_is in
    record {
      passed = passes_all_same k u v 0 c.clear.new.marks 0 (passes_begin k u v c.clear.new.marks c.clear.ensures.none c.clear.ensures.count) n.result (omega arith) e.same;
      range = omega (arith, long, e.range);
      differs = λ lt. e.differs (omega (arith, long, lt));
    }

pub loop-slot-preserved : goal.loop-slot-preserved
loop-slot-preserved c =
    let k = c.self.inside.slots in
    let u = c.args.old.now in
    let v = c.args.new.now in
    let l = c.loop-slot in
    let m = c.mark_above-count in
    let n = c.next_difference-slot-in-loop-slot in
    let e = n.ensures in
    let long : length u ≡ k = c.requires.old ∙ sym c.self.view_is in
    let marked = passes_other k u v l.slot l.marks l.count l.invariant.passed m.new.marks m.result c.loop-slot-test.true (l.invariant.differs c.loop-slot-test.true) m.ensures.marked m.ensures.count m.ensures.few in
    record {
      passed = passes_all_same k u v (l.slot + 1) m.new.marks (l.count + m.result) marked n.result e.range.0 e.same;
      range = omega (arith, long, e.range);
      differs = λ lt. e.differs (omega (arith, long, lt));
    }

-- all slots are passed
at_end : (c : After-loop-slot) → Passed c.args.self.now c.args.old.now c.args.new.now c.args.self.now c.loop-slot.marks c.loop-slot.count
at_end c =
    let done : c.loop-slot.slot ≡ c.self.inside.slots = omega (arith, c.loop-slot.invariant.range) in
    let passed : Passed c.self.inside.slots c.args.old.now c.args.new.now c.self.inside.slots c.loop-slot.marks c.loop-slot.count = subst (λ (n : ℕ). Passed c.self.inside.slots c.args.old.now c.args.new.now n c.loop-slot.marks c.loop-slot.count) done c.loop-slot.invariant.passed in
    subst (λ (k : ℕ). Passed k c.args.old.now c.args.new.now k c.loop-slot.marks c.loop-slot.count) c.self.view_is passed

pub returns-clause-marked : goal.returns-clause-marked
returns-clause-marked c = passed_marks c.args.self.now c.args.old.now c.args.new.now c.loop-slot.marks c.loop-slot.count (at_end c)

pub returns-clause-size : goal.returns-clause-size
returns-clause-size c = passed_count c.args.self.now c.args.old.now c.args.new.now c.loop-slot.marks c.loop-slot.count (at_end c) (omega arith)

pub returns-clause-one_slot : goal.returns-clause-one_slot
returns-clause-one_slot c = (at_end c).few
