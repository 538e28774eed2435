use Rattle.std.proofs.Common.{◌<◌, ◌≤◌, ◌∙◌, ℕ, sym, ap, ⊎_elim, arith, suc, ◌+◌}
use Rattle.std.proofs.lemmas.Bool.{cases_lt}
use Rattle.cleary_core.specs.Access.{HasReached}
use Rattle.cleary_core.specs.Cells.{cell_at}
use Rattle.cleary_core.specs.declared.cells.Cell.{Cell}
use Rattle.cleary_core.proofs.Reaching.{earlier, onward, widen}
use Rattle.cleary_core.proofs.reading.group_seek.Goals as goal

pub returns-then-here-clause-sought : goal.returns-then-here-clause-sought
returns-then-here-clause-sought g c = λ words agrees has.
    let at : ℕ = c.loop-at.at in
    let before = c.loop-at.invariant in
    let old : HasReached (g.A.ReadWords.reached c.loop-at.access) words = λ j m h. agrees j m ((g.met.A.ReadWords.keeps c.loop-at.access c.read_cell-here.new.access c.read_cell-here.ensures.reads).1 j m h) in (
      at,
      before.low,
      c.loop-at-test.true,
      before.row words old,
      ap (λ (x : Cell). x.change) (c.read_cell-here.ensures.value words agrees) ∙ c.if-here.true,
      (λ j a b e. ⊎_elim
          (λ (less : j < at). before.none words old j a less e)
          (λ (from : at ≤ j). c.if-here-quotient.false (ap (λ (x : Cell). x.quotient) (sym (c.read_cell-here.ensures.value words agrees)) ∙ ap (λ (m : ℕ). (cell_at c.args.sizes.now words m).quotient) (omega arith) ∙ e))
          (cases_lt j at)),
    )

pub loop-at-preserved : goal.loop-at-preserved
loop-at-preserved g c =
    let at : ℕ = c.loop-at.at in
    let before = c.loop-at.invariant in
    let low = before.low in
    let more = g.met.A.ReadWords.keeps c.loop-at.access c.read_cell-here.new.access c.read_cell-here.ensures.reads in
    record {
      low = omega arith;
      reads = g.met.A.ReadWords.joins c.args.access.now c.loop-at.access c.read_cell-here.new.access before.reads c.read_cell-here.ensures.reads;
      count = c.read_cell-here.ensures.words;
      row = λ words agrees i a b. ⊎_elim
          (λ (less : i < at). before.row words (λ j m h. agrees j m (more.1 j m h)) i a less)
          (λ (from : at ≤ i). ap (λ (m : ℕ). (cell_at c.args.sizes.now words m).change) (omega arith) ∙ ap (λ (x : Cell). x.change) (c.read_cell-here.ensures.value words agrees) ∙ c.if-here.false)
          (cases_lt i at);
      none = λ words agrees j a b e. ⊎_elim
          (λ (less : j < at). before.none words (λ i m h. agrees i m (more.1 i m h)) j a less e)
          (λ (from : at ≤ j). c.if-here-quotient.false (ap (λ (x : Cell). x.quotient) (sym (c.read_cell-here.ensures.value words agrees)) ∙ ap (λ (m : ℕ). (cell_at c.args.sizes.now words m).quotient) (omega arith) ∙ e))
          (cases_lt j at);
      high = omega (arith, c.loop-at-test.true);
      near = onward (g.A.ReadWords.reached c.args.access.now) (g.A.ReadWords.reached c.loop-at.access) (g.A.ReadWords.reached c.read_cell-here.new.access) c.args.sizes.now c.args.from (at + 1)
          (widen (g.A.ReadWords.reached c.args.access.now) (g.A.ReadWords.reached c.loop-at.access) c.args.sizes.now c.args.from at c.args.from (at + 1) (omega arith) (omega arith) before.near)
          (widen (g.A.ReadWords.reached c.loop-at.access) (g.A.ReadWords.reached c.read_cell-here.new.access) c.args.sizes.now at (suc at) c.args.from (at + 1) (omega arith) (omega arith) c.read_cell-here.ensures.near);
    }

pub returns-then-here-quotient-clause-near : goal.returns-then-here-quotient-clause-near
returns-then-here-quotient-clause-near g c =
    let at : ℕ = c.loop-at.at in
    let before = c.loop-at.invariant in
    let low = before.low in
    let more = g.met.A.ReadWords.keeps c.loop-at.access c.read_cell-here.new.access c.read_cell-here.ensures.reads in
    record {
      high = at + 1;
      span = (omega arith, omega (arith, c.loop-at-test.true));
      row = λ words agrees i a b. before.row words (earlier (g.A.ReadWords.reached c.loop-at.access) (g.A.ReadWords.reached c.read_cell-here.new.access) words more.1 agrees) i a (omega arith);
      reach = onward (g.A.ReadWords.reached c.args.access.now) (g.A.ReadWords.reached c.loop-at.access) (g.A.ReadWords.reached c.read_cell-here.new.access) c.args.sizes.now c.args.from (at + 1)
          (widen (g.A.ReadWords.reached c.args.access.now) (g.A.ReadWords.reached c.loop-at.access) c.args.sizes.now c.args.from at c.args.from (at + 1) (omega arith) (omega arith) before.near)
          (widen (g.A.ReadWords.reached c.loop-at.access) (g.A.ReadWords.reached c.read_cell-here.new.access) c.args.sizes.now at (suc at) c.args.from (at + 1) (omega arith) (omega arith) c.read_cell-here.ensures.near);
    }

pub returns-then-here-clause-near : goal.returns-then-here-clause-near
returns-then-here-clause-near g c =
    let at : ℕ = c.loop-at.at in
    let before = c.loop-at.invariant in
    let low = before.low in
    let more = g.met.A.ReadWords.keeps c.loop-at.access c.read_cell-here.new.access c.read_cell-here.ensures.reads in
    record {
      high = at + 1;
      span = (omega arith, omega (arith, c.loop-at-test.true));
      row = λ words agrees i a b. before.row words (earlier (g.A.ReadWords.reached c.loop-at.access) (g.A.ReadWords.reached c.read_cell-here.new.access) words more.1 agrees) i a (omega arith);
      reach = onward (g.A.ReadWords.reached c.args.access.now) (g.A.ReadWords.reached c.loop-at.access) (g.A.ReadWords.reached c.read_cell-here.new.access) c.args.sizes.now c.args.from (at + 1)
          (widen (g.A.ReadWords.reached c.args.access.now) (g.A.ReadWords.reached c.loop-at.access) c.args.sizes.now c.args.from at c.args.from (at + 1) (omega arith) (omega arith) before.near)
          (widen (g.A.ReadWords.reached c.loop-at.access) (g.A.ReadWords.reached c.read_cell-here.new.access) c.args.sizes.now at (suc at) c.args.from (at + 1) (omega arith) (omega arith) c.read_cell-here.ensures.near);
    }

pub returns-clause-near : goal.returns-clause-near
returns-clause-near g c =
    let before = c.loop-at.invariant in
    record {
      high = c.loop-at.at;
      span = (before.low, before.high);
      row = λ words agrees i a b. before.row words agrees i a (omega arith);
      reach = before.near;
    }
