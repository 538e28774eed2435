use Rattle.std.proofs.Common.{Bool, ◌≡◌, ◌≢◌, ◌-◌, ◌∙◌, ℕ, suc, sym, ap, ⊎_elim, arith}
use Rattle.cleary_core.specs.Cells.{cell_at, carried}
use Rattle.cleary_core.specs.declared.cells.Cell.{Cell}
use Rattle.cleary_core.specs.declared.cells.CellMarks.{CellMarks}
use Rattle.cleary_core.proofs.Reaching.{onward, widen}
use Rattle.cleary_core.proofs.Slots.{cases_same}
use Rattle.cleary_core.proofs.writing.shift_up.Goals as goal

pub loop-at-init : goal.loop-at-init
loop-at-init g c = record {
  low = c.requires.inside.0;
  high = omega arith;
  words = c.own_marks-virgin.ensures.words;
  writes = c.own_marks-virgin.ensures.writes;
  virgin = ap (λ (m : CellMarks). m.virgin) c.own_marks-virgin.ensures.value ∙ ap (λ w. (cell_at c.args.sizes.now w c.args.free).virgin) (sym c.own_marks-virgin.ensures.same);
  below = λ j a. ap (λ w. cell_at c.args.sizes.now w j) c.own_marks-virgin.ensures.same;
  moved = λ j a b. absurd (omega arith);
  above = λ j a. ap (λ w. cell_at c.args.sizes.now w j) c.own_marks-virgin.ensures.same;
  near = widen (g.A.ReadWords.reached c.args.access.now) (g.A.ReadWords.reached c.own_marks-virgin.new.access) c.args.sizes.now c.args.free (suc c.args.free) c.args.place (suc c.args.free) c.requires.inside.0 (omega arith) c.own_marks-virgin.ensures.near;
}

pub loop-at-preserved : goal.loop-at-preserved
loop-at-preserved g c =
    let at : ℕ = c.loop-at.at in
    let before = c.loop-at.invariant in
    let low = before.low in
    let high = before.high in
    let read = c.own_cell-left in
    let put = c.write_cell in
    let off : (j : ℕ) → j ≢ c.loop-at.at → cell_at c.args.sizes.now (g.A.WriteWords.words put.new.access) j ≡ cell_at c.args.sizes.now (g.A.WriteWords.words c.loop-at.access) j
    = λ j ne. put.ensures.others j ne ∙ ap (λ w. cell_at c.args.sizes.now w j) read.ensures.same in
    record {
      low = omega (arith, c.loop-at-test.true);
      high = omega arith;
      words = put.ensures.words;
      writes = g.met.A.WriteWords.links c.args.access.now read.new.access put.new.access (g.met.A.WriteWords.links c.args.access.now c.loop-at.access read.new.access before.writes read.ensures.writes) put.ensures.writes;
      virgin = ap (λ (x : Cell). x.virgin) (read.ensures.value ∙ sym (off (at - 1) (λ e. omega (arith, c.loop-at-test.true))));
      below = λ j a. off j (λ e. omega (arith, c.loop-at-test.true)) ∙ before.below j (omega arith);
      moved = λ j a b. ⊎_elim
          (λ (first : suc j ≡ at).
          ap (λ m. cell_at c.args.sizes.now (g.A.WriteWords.words put.new.access) m) first ∙ put.ensures.here
          ∙ ap (λ (v : Bool). carried v c.own_cell-left.result) (before.virgin ∙ ap (λ (x : Cell). x.virgin) (before.below at (omega arith) ∙ ap (λ m. cell_at c.args.sizes.now (g.A.WriteWords.words c.args.access.now) m) (sym first)))
          ∙ ap (λ (x : Cell). carried (cell_at c.args.sizes.now (g.A.WriteWords.words c.args.access.now) (suc j)).virgin x)
          (read.ensures.value ∙ before.below (at - 1) (omega arith) ∙ ap (λ m. cell_at c.args.sizes.now (g.A.WriteWords.words c.args.access.now) m) (omega arith)))
          (λ (later : suc j ≢ at). off (suc j) later ∙ before.moved j (omega arith) b)
          (cases_same (suc j) at);
      above = λ j a. off j (λ e. omega arith) ∙ before.above j a;
      near = onward (g.A.ReadWords.reached c.args.access.now) (g.A.ReadWords.reached read.new.access) (g.A.ReadWords.reached put.new.access) c.args.sizes.now c.args.place (suc c.args.free)
          (onward (g.A.ReadWords.reached c.args.access.now) (g.A.ReadWords.reached c.loop-at.access) (g.A.ReadWords.reached read.new.access) c.args.sizes.now c.args.place (suc c.args.free) before.near
          (widen (g.A.ReadWords.reached c.loop-at.access) (g.A.ReadWords.reached read.new.access) c.args.sizes.now (at - 1) (suc (at - 1)) c.args.place (suc c.args.free) (omega (arith, c.loop-at-test.true)) (omega arith) read.ensures.near))
          (widen (g.A.ReadWords.reached read.new.access) (g.A.ReadWords.reached put.new.access) c.args.sizes.now at (suc at) c.args.place (suc c.args.free) low (omega arith) put.ensures.near);
    }
