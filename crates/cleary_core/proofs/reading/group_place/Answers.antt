use Rattle.std.proofs.Common.{◌≡◌, ◌-◌, ◌+◌, ℕ, suc, subst, arith}
use Rattle.cleary_core.specs.Cells.{cell_at}
use Rattle.cleary_core.specs.Search.{OnTheWay}
use Rattle.cleary_core.proofs.Fronting.{passed_more, passed_all}
use Rattle.cleary_core.proofs.Reaching.{earlier, nowhere, onward, widen}
use Rattle.cleary_core.proofs.reading.group_place.Goals as goal

pub loop-init : goal.loop-init
loop-init g c = record {
  low = omega arith;
  high = c.requires.inside;
  reads = g.met.A.ReadWords.stays c.args.access.now;
  count = c.requires.words;
  passed = λ words slots start home agrees run on. subst (λ (m : ℕ). OnTheWay c.args.sizes.now.cells (cell_at c.args.sizes.now words) slots start c.args.from home m) (omega arith) on;
  near = nowhere (g.A.ReadWords.reached c.args.access.now) c.args.sizes.now c.args.from c.args.from;
}

pub loop-preserved : goal.loop-preserved
loop-preserved g c =
    let before = c.loop.invariant in
    let low = before.low in
    let end = c.group_end-at.ensures in
    let more = g.met.A.ReadWords.keeps c.loop.access c.group_end-at.new.access end.reads in
    record {
      low = omega (arith, end.bounds);
      high = end.bounds.1;
      reads = g.met.A.ReadWords.joins c.args.access.now c.loop.access c.group_end-at.new.access before.reads end.reads;
      count = end.words;
      passed = λ words slots start home agrees run on.
          let left : c.args.groups - c.loop.counter ≡ suc (c.args.groups - (c.loop.counter + 1)) = omega (arith, c.loop-test.true) in
          passed_more c.args.sizes.now.cells (cell_at c.args.sizes.now words) slots start home run c.loop.at c.group_end-at.result (c.args.groups - (c.loop.counter + 1))
          (subst (λ (m : ℕ). OnTheWay c.args.sizes.now.cells (cell_at c.args.sizes.now words) slots start c.loop.at home m) left
          (before.passed words slots start home (earlier (g.A.ReadWords.reached c.loop.access) (g.A.ReadWords.reached c.group_end-at.new.access) words more.1 agrees) run on))
          (end.end words agrees);
      near = onward (g.A.ReadWords.reached c.args.access.now) (g.A.ReadWords.reached c.loop.access) (g.A.ReadWords.reached c.group_end-at.new.access) c.args.sizes.now c.args.from c.group_end-at.result
          (widen (g.A.ReadWords.reached c.args.access.now) (g.A.ReadWords.reached c.loop.access) c.args.sizes.now c.args.from c.loop.at c.args.from c.group_end-at.result (omega arith) end.bounds.0 before.near)
          (widen (g.A.ReadWords.reached c.loop.access) (g.A.ReadWords.reached c.group_end-at.new.access) c.args.sizes.now c.loop.at c.group_end-at.result c.args.from c.group_end-at.result low (omega arith) end.near);
    }

pub returns-clause-place : goal.returns-clause-place
returns-clause-place g c = λ words slots start home agrees run on.
    let left : c.args.groups - c.loop.counter ≡ 0 = omega (arith, c.loop-test.false) in
    passed_all c.args.sizes.now.cells (cell_at c.args.sizes.now words) slots start home run c.loop.at
    (subst (λ (m : ℕ). OnTheWay c.args.sizes.now.cells (cell_at c.args.sizes.now words) slots start c.loop.at home m) left (c.loop.invariant.passed words slots start home agrees run on))
