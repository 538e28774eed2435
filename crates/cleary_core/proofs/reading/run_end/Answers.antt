use Rattle.std.proofs.Common.{◌<◌, ◌≤◌, ◌+◌, ◌∙◌, ℕ, suc, ap, ⊎_elim, arith}
use Rattle.std.proofs.lemmas.Bool.{cases_lt, not-false}
use Rattle.cleary_core.specs.Cells.{cell_at}
use Rattle.cleary_core.specs.declared.cells.CellMarks.{CellMarks}
use Rattle.cleary_core.proofs.Reaching.{earlier, onward, widen}
use Rattle.cleary_core.proofs.reading.run_end.Goals as goal

pub loop-end-preserved : goal.loop-end-preserved
loop-end-preserved g c =
    let at : ℕ = c.loop-end.end in
    let before = c.loop-end.invariant in
    let low = before.low in
    let read = c.read_marks-here in
    let more = g.met.A.ReadWords.keeps c.loop-end.access read.new.access read.ensures.reads in
    record {
      low = omega arith;
      high = omega (arith, c.loop-end-test.true);
      reads = g.met.A.ReadWords.joins c.args.access.now c.loop-end.access read.new.access before.reads read.ensures.reads;
      count = read.ensures.words;
      row = λ words agrees i a b. ⊎_elim
          (λ (less : i < at). before.row words (earlier (g.A.ReadWords.reached c.loop-end.access) (g.A.ReadWords.reached read.new.access) words more.1 agrees) i a less)
          (λ (from : at ≤ i). ap (λ (m : ℕ). (cell_at c.args.sizes.now words m).occupied) (omega arith) ∙ ap (λ (x : CellMarks). x.occupied) (read.ensures.value words agrees) ∙ not-false read.result.occupied c.if-not-here.false)
          (cases_lt i at);
      near = onward (g.A.ReadWords.reached c.args.access.now) (g.A.ReadWords.reached c.loop-end.access) (g.A.ReadWords.reached read.new.access) c.args.sizes.now c.args.from (at + 1)
          (widen (g.A.ReadWords.reached c.args.access.now) (g.A.ReadWords.reached c.loop-end.access) c.args.sizes.now c.args.from at c.args.from (at + 1) (omega arith) (omega arith) before.near)
          (widen (g.A.ReadWords.reached c.loop-end.access) (g.A.ReadWords.reached read.new.access) c.args.sizes.now at (suc at) c.args.from (at + 1) (omega arith) (omega arith) read.ensures.near);
    }

pub returns-then-not-here-clause-near : goal.returns-then-not-here-clause-near
returns-then-not-here-clause-near g c =
    let at : ℕ = c.loop-end.end in
    let before = c.loop-end.invariant in
    let low = before.low in
    let read = c.read_marks-here in
    onward (g.A.ReadWords.reached c.args.access.now) (g.A.ReadWords.reached c.loop-end.access) (g.A.ReadWords.reached read.new.access) c.args.sizes.now c.args.from (suc at)
    (widen (g.A.ReadWords.reached c.args.access.now) (g.A.ReadWords.reached c.loop-end.access) c.args.sizes.now c.args.from at c.args.from (suc at) (omega arith) (omega arith) before.near)
    (widen (g.A.ReadWords.reached c.loop-end.access) (g.A.ReadWords.reached read.new.access) c.args.sizes.now at (suc at) c.args.from (suc at) (omega arith) (omega arith) read.ensures.near)

pub returns-clause-near : goal.returns-clause-near
returns-clause-near g c =
    widen (g.A.ReadWords.reached c.args.access.now) (g.A.ReadWords.reached c.loop-end.access) c.args.sizes.now c.args.from c.loop-end.end c.args.from (suc c.loop-end.end) (omega arith) (omega arith) c.loop-end.invariant.near
