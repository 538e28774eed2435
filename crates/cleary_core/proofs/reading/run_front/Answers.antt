use Rattle.std.proofs.Common.{◌≡◌, ◌<◌, ◌≤◌, ◌-◌, ◌∙◌, ℕ, sym, ap, subst, ⊎_elim, arith, suc}
use Rattle.std.proofs.lemmas.Bool.{cases_lt, not-false, not-true}
use Rattle.cleary_core.specs.Cells.{cell_at}
use Rattle.cleary_core.specs.Access.{Reaches}
use Rattle.cleary_core.specs.declared.cells.CellMarks.{CellMarks}
use Rattle.cleary_core.proofs.Fronting.{counted_more, counted_none, fronted}
use Rattle.cleary_core.proofs.Reaching.{earlier, nowhere, onward, widen}
use Rattle.cleary_core.proofs.reading.run_front.Goals as goal

pub loop-start-init : goal.loop-start-init
loop-start-init g c = record {
  low = omega arith;
  few = (omega arith, omega arith);
  edge = (omega arith, omega arith);
  reads = g.met.A.ReadWords.stays c.args.access.now;
  count = c.requires.words;
  counted = λ words agrees. counted_none (cell_at c.args.sizes.now words) c.args.home;
  near = nowhere (g.A.ReadWords.reached c.args.access.now) c.args.sizes.now c.args.home c.args.home;
}

pub loop-start-preserved : goal.loop-start-preserved
loop-start-preserved g c =
    let before = c.loop-start.invariant in
    let start : ℕ = c.loop-start.start in
    let low = before.low in
    let few = before.few in
    let edge = before.edge in
    let read = c.read_marks-left in
    let next = c.edge_after-edge.ensures in
    let virgin = c.mark-groups.ensures in
    let change = c.mark-ends.ensures in
    let more = g.met.A.ReadWords.keeps c.loop-start.access read.new.access read.ensures.reads in
    record {
      low = omega arith;
      few = (omega (arith, virgin.small), omega (arith, change.small));
      edge = ⊎_elim
          (λ (some : 0 < c.loop-start.ends). let e = next.later some in (omega arith, omega arith))
          (λ (most : c.loop-start.ends ≤ 0). let e = next.first (omega arith) in (omega arith, omega (arith, change.value, change.small)))
          (cases_lt 0 c.loop-start.ends);
      reads = g.met.A.ReadWords.joins c.args.access.now c.loop-start.access read.new.access before.reads read.ensures.reads;
      count = read.ensures.words;
      counted = λ words agrees. rw (virgin.value, change.value) (
          counted_more (cell_at c.args.sizes.now words) start c.loop-start.edge c.loop-start.groups c.loop-start.ends c.args.home c.edge_after-edge.result read.result c.loop-start-test.true low
          (read.ensures.value words agrees) (not-false read.result.occupied c.if-not-left.false) next.first next.later
          (before.counted words (earlier (g.A.ReadWords.reached c.loop-start.access) (g.A.ReadWords.reached read.new.access) words more.1 agrees)));
      near = onward (g.A.ReadWords.reached c.args.access.now) (g.A.ReadWords.reached c.loop-start.access) (g.A.ReadWords.reached read.new.access) c.args.sizes.now (start - 1) c.args.home
          (widen (g.A.ReadWords.reached c.args.access.now) (g.A.ReadWords.reached c.loop-start.access) c.args.sizes.now start c.args.home (start - 1) c.args.home (omega arith) (omega arith) before.near)
          (widen (g.A.ReadWords.reached c.loop-start.access) (g.A.ReadWords.reached read.new.access) c.args.sizes.now (start - 1) (suc (start - 1)) (start - 1) c.args.home (omega arith) (omega (arith, c.loop-start-test.true)) read.ensures.near);
    }

pub returns-then-not-left-clause-front : goal.returns-then-not-left-clause-front
returns-then-not-left-clause-front g c = λ words agrees.
    let start : ℕ = c.loop-start.start in
    let before = c.loop-start.invariant in
    let read = c.read_marks-left in
    let more = g.met.A.ReadWords.keeps c.loop-start.access read.new.access read.ensures.reads in
    fronted (cell_at c.args.sizes.now words) start c.loop-start.edge c.loop-start.groups c.loop-start.ends c.args.home c.front_of.result.start c.front_of.result.from c.front_of.result.groups
    (before.counted words (earlier (g.A.ReadWords.reached c.loop-start.access) (g.A.ReadWords.reached read.new.access) words more.1 agrees))
    (λ some. ap (λ (x : CellMarks). x.occupied) (read.ensures.value words agrees) ∙ not-true read.result.occupied c.if-not-left.true)
    c.front_of.ensures.start c.front_of.ensures.near c.front_of.ensures.far

pub returns-clause-front : goal.returns-clause-front
returns-clause-front g c = λ words agrees.
    let start : ℕ = c.loop-start.start in
    let none : start ≡ 0 = omega (arith, c.loop-start-test.false) in
    fronted (cell_at c.args.sizes.now words) start c.loop-start.edge c.loop-start.groups c.loop-start.ends c.args.home c.front_of-2.result.start c.front_of-2.result.from c.front_of-2.result.groups
    (c.loop-start.invariant.counted words agrees) (λ some. absurd (omega arith))
    c.front_of-2.ensures.start c.front_of-2.ensures.near c.front_of-2.ensures.far

pub returns-then-not-left-clause-near : goal.returns-then-not-left-clause-near
returns-then-not-left-clause-near g c =
    let start : ℕ = c.loop-start.start in
    let before = c.loop-start.invariant in
    let low = before.low in
    let read = c.read_marks-left in
    subst (λ (m : ℕ). Reaches (g.A.ReadWords.reached c.args.access.now) (g.A.ReadWords.reached read.new.access) c.args.sizes.now (m - 1) c.args.home) (sym c.front_of.ensures.start)
    (onward (g.A.ReadWords.reached c.args.access.now) (g.A.ReadWords.reached c.loop-start.access) (g.A.ReadWords.reached read.new.access) c.args.sizes.now (start - 1) c.args.home
    (widen (g.A.ReadWords.reached c.args.access.now) (g.A.ReadWords.reached c.loop-start.access) c.args.sizes.now start c.args.home (start - 1) c.args.home (omega arith) (omega arith) before.near)
    (widen (g.A.ReadWords.reached c.loop-start.access) (g.A.ReadWords.reached read.new.access) c.args.sizes.now (start - 1) (suc (start - 1)) (start - 1) c.args.home (omega arith) (omega (arith, c.loop-start-test.true)) read.ensures.near))

pub returns-clause-near : goal.returns-clause-near
returns-clause-near g c =
    subst (λ (m : ℕ). Reaches (g.A.ReadWords.reached c.args.access.now) (g.A.ReadWords.reached c.loop-start.access) c.args.sizes.now (m - 1) c.args.home) (sym c.front_of-2.ensures.start)
    (widen (g.A.ReadWords.reached c.args.access.now) (g.A.ReadWords.reached c.loop-start.access) c.args.sizes.now c.loop-start.start c.args.home (c.loop-start.start - 1) c.args.home (omega arith) (omega arith) c.loop-start.invariant.near)
