use Rattle.std.proofs.Common.{◌<◌, ◌≤◌, ◌+◌, ◌∙◌, ℕ, suc, ap, ⊎_elim, arith}
use Rattle.std.proofs.lemmas.Bool.{cases_lt}
use Rattle.cleary_core.specs.Cells.{cell_at}
use Rattle.cleary_core.specs.declared.cells.CellMarks.{CellMarks}
use Rattle.cleary_core.proofs.Reaching.{earlier, onward, widen}
use Rattle.cleary_core.proofs.reading.group_end.Goals as goal

pub loop-at-preserved : goal.loop-at-preserved
loop-at-preserved g c =
    let at : ℕ = c.loop-at.at in
    let before = c.loop-at.invariant in
    let low = before.low in
    let read = c.read_marks-cell in
    let more = g.met.A.ReadWords.keeps c.loop-at.access read.new.access read.ensures.reads in
    record {
      low = omega arith;
      high = omega (arith, c.loop-at-test.true);
      reads = g.met.A.ReadWords.joins c.args.access.now c.loop-at.access read.new.access before.reads read.ensures.reads;
      count = read.ensures.words;
      row = λ words agrees i a b. ⊎_elim
          (λ (less : i < at). before.row words (earlier (g.A.ReadWords.reached c.loop-at.access) (g.A.ReadWords.reached read.new.access) words more.1 agrees) i a less)
          (λ (from : at ≤ i). ap (λ (m : ℕ). (cell_at c.args.sizes.now words m).change) (omega arith) ∙ ap (λ (x : CellMarks). x.change) (read.ensures.value words agrees) ∙ c.if-cell.false)
          (cases_lt i at);
      near = onward (g.A.ReadWords.reached c.args.access.now) (g.A.ReadWords.reached c.loop-at.access) (g.A.ReadWords.reached read.new.access) c.args.sizes.now c.args.from (at + 1)
          (widen (g.A.ReadWords.reached c.args.access.now) (g.A.ReadWords.reached c.loop-at.access) c.args.sizes.now c.args.from at c.args.from (at + 1) (omega arith) (omega arith) before.near)
          (widen (g.A.ReadWords.reached c.loop-at.access) (g.A.ReadWords.reached read.new.access) c.args.sizes.now at (suc at) c.args.from (at + 1) (omega arith) (omega arith) read.ensures.near);
    }

pub returns-then-cell-clause-near : goal.returns-then-cell-clause-near
returns-then-cell-clause-near g c =
    let at : ℕ = c.loop-at.at in
    let before = c.loop-at.invariant in
    let low = before.low in
    let read = c.read_marks-cell in
    onward (g.A.ReadWords.reached c.args.access.now) (g.A.ReadWords.reached c.loop-at.access) (g.A.ReadWords.reached read.new.access) c.args.sizes.now c.args.from (at + 1)
    (widen (g.A.ReadWords.reached c.args.access.now) (g.A.ReadWords.reached c.loop-at.access) c.args.sizes.now c.args.from at c.args.from (at + 1) (omega arith) (omega arith) before.near)
    (widen (g.A.ReadWords.reached c.loop-at.access) (g.A.ReadWords.reached read.new.access) c.args.sizes.now at (suc at) c.args.from (at + 1) (omega arith) (omega arith) read.ensures.near)
