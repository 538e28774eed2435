use Rattle.std.proofs.Common.{arith, ◌≡◌, ◌+◌, ◌*◌, subst, ap, ◌∙◌, ℕ}
use Rattle.probe_path.specs.Path.{Course, Progress, walked_lines}
use Rattle.pair_rule.specs.Rest.{view}
use Rattle.pair_nodes.specs.Probe.{pair_of_word, Underway}
use Rattle.pair_nodes.proofs.Views.{underway_then, ended_then, keeps_trans}
use Rattle.pair_nodes.proofs.Lines.{reach_walked}
use Rattle.pair_nodes.proofs.probe.probe.Goals as goal

pub returns-in-Some-look_along-clause-ends : goal.returns-in-Some-look_along-clause-ends
returns-in-Some-look_along-clause-ends g c =
    ended_then (pair_of_word c.args.word) c.in-Some-look_along.index 1 0 (view c.args.pass.now) c.loop-line.pass.seat.me.0 c.look_along.new.pass.seat.me.0 c.loop-line.invariant.so_far.probed c.in-Some-look_along.ensures.ends

pub loop-line-preserved : goal.loop-line-preserved
loop-line-preserved g c =
    let pair = pair_of_word c.args.word in
    let i = c.loop-line.invariant in
    let u = view c.args.pass.now in
    let v = c.loop-line.pass.seat.me.0 in
    let z = c.look_along.new.pass.seat.me.0 in
    let e = c.in_default-look_along.ensures in
    let line : c.advance.new.self.passed ≡ c.loop-line.line = ap (λ (w : Progress). w.passed) c.advance.ensures ∙ (let p = i.passed in let one = c.loop-line.auto.line in omega arith) in
    let next : 8 * c.advance.new.self.passed + 8 ≡ 8 * (c.loop-line.line + 1) = omega (arith, line) in
    record {
      rest = e.rest;
      tree = keeps_trans c.args.pass.now c.loop-line.pass c.look_along.new.pass i.tree e.tree;
      course = ap (λ (w : Progress). w.course) c.advance.ensures ∙ i.course;
      passed = omega (arith, line);
      so_far = subst (λ (n : ℕ). Underway pair n 1 u z) next (underway_then pair (8 * c.advance.new.self.passed + 8) 1 0 u v z i.so_far.probed e.ends);
    }

pub returns-clause-ends : goal.returns-clause-ends
returns-clause-ends g c =
    let i = c.loop-line.invariant in
    let lines : c.args.path.now.lines ≡ walked_lines c.args.table.now.about.sizes.nodes c.args.table.now.about.sizes.probe = ap (λ (course : Course). course.lines) c.requires.path in
    let steps = c.len-line-end.ensures.steps in
    let done = c.loop-line-test.false in
    let all = reach_walked c.args.table.now.about c.loop-line.line (omega (arith, lines, steps, done)) in
    record { probed = i.so_far.probed; probing = i.so_far.probing; passed = λ step lt. i.so_far.passed step (omega (arith, lt, all)) }
