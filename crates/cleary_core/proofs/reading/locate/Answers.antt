use Rattle.std.proofs.Common.{◌≡◌, ◌∙◌, ℕ, true, ap, arith, suc, ◌+◌, ◌-◌, ◌<◌, ◌≤◌, max, ⊎_elim}
use Rattle.std.proofs.lemmas.Bool.{not-false, cases_lt}
use Rattle.cleary_core.specs.Access.{HasReached}
use Rattle.cleary_core.specs.Cells.{cell_at}
use Rattle.cleary_core.specs.declared.cells.Cell.{Cell}
use Rattle.cleary_core.specs.declared.cells.CellMarks.{CellMarks}
use Rattle.cleary_core.proofs.Fronting.{in_run, home_occupied, on_the_way}
use Rattle.cleary_core.proofs.Placing.{group_ends, searched, first_of, along_to}
use Rattle.cleary_core.proofs.Reaching.{earlier, onward, widen}
use Rattle.cleary_core.proofs.reading.locate.Goals as goal

pub returns-clause-found : goal.returns-clause-found
returns-clause-found g c = λ words keys agrees k.
    let n : ℕ = c.args.sizes.now.cells in
    let home : ℕ = c.args.home in
    let cells : ℕ → Cell = cell_at c.args.sizes.now words in
    let front = c.run_front-front in
    let place = c.group_place-place in
    let seek = c.group_seek in
    let placed_agrees : HasReached (g.A.ReadWords.reached place.new.access) words
    = earlier (g.A.ReadWords.reached place.new.access) (g.A.ReadWords.reached seek.new.access) words (g.met.A.ReadWords.keeps place.new.access seek.new.access seek.ensures.reads).1 agrees in
    let front_agrees : HasReached (g.A.ReadWords.reached front.new.access) words
    = earlier (g.A.ReadWords.reached front.new.access) (g.A.ReadWords.reached place.new.access) words (g.met.A.ReadWords.keeps front.new.access place.new.access place.ensures.reads).1 placed_agrees in
    let here_agrees : HasReached (g.A.ReadWords.reached c.read_marks-here.new.access) words
    = earlier (g.A.ReadWords.reached c.read_marks-here.new.access) (g.A.ReadWords.reached front.new.access) words (g.met.A.ReadWords.keeps c.read_marks-here.new.access front.new.access front.ensures.reads).1 front_agrees in
    let virgin : (cell_at c.args.sizes.now words c.args.home).virgin ≡ true
    = ap (λ (x : CellMarks). x.virgin) (c.read_marks-here.ensures.value words here_agrees) ∙ not-false c.read_marks-here.result.virgin c.if-not-here.false in
    let start = front.ensures.front words front_agrees in
    let run = in_run n cells keys k front.result.start front.result.from front.result.groups home front.ensures.low c.requires.inside (home_occupied n cells keys k home c.requires.inside virgin) start in
    let placed = place.ensures.place words k.slots front.result.start home placed_agrees run (on_the_way n cells k.slots front.result.start home run front.result.from front.result.groups start) in
    searched n cells keys k home c.args.quotient seek.result front.result.start place.result c.requires.inside placed run.row virgin
    (seek.ensures.sought words agrees (group_ends n k.slots k.laid cells k.drawn front.result.start place.result home home placed (omega arith) c.requires.inside run.row virgin))

pub returns-then-not-here-clause-near : goal.returns-then-not-here-clause-near
returns-then-not-here-clause-near g c = λ words keys agrees k. record {
  low = c.args.home;
  high = c.args.home;
  span = (omega arith, omega arith, omega (arith, c.requires.inside));
  row = λ i a b. absurd (omega arith);
  reach = widen (g.A.ReadWords.reached c.args.access.now) (g.A.ReadWords.reached c.read_marks-here.new.access) c.args.sizes.now c.args.home (suc c.args.home) (c.args.home - 1) (suc c.args.home) (omega arith) (omega arith) c.read_marks-here.ensures.near;
}

pub returns-clause-near : goal.returns-clause-near
returns-clause-near g c = λ words keys agrees k.
    let n : ℕ = c.args.sizes.now.cells in
    let home : ℕ = c.args.home in
    let cells : ℕ → Cell = cell_at c.args.sizes.now words in
    let front = c.run_front-front in
    let place = c.group_place-place in
    let seek = c.group_seek in
    let placed_agrees : HasReached (g.A.ReadWords.reached place.new.access) words
    = earlier (g.A.ReadWords.reached place.new.access) (g.A.ReadWords.reached seek.new.access) words (g.met.A.ReadWords.keeps place.new.access seek.new.access seek.ensures.reads).1 agrees in
    let front_agrees : HasReached (g.A.ReadWords.reached front.new.access) words
    = earlier (g.A.ReadWords.reached front.new.access) (g.A.ReadWords.reached place.new.access) words (g.met.A.ReadWords.keeps front.new.access place.new.access place.ensures.reads).1 placed_agrees in
    let here_agrees : HasReached (g.A.ReadWords.reached c.read_marks-here.new.access) words
    = earlier (g.A.ReadWords.reached c.read_marks-here.new.access) (g.A.ReadWords.reached front.new.access) words (g.met.A.ReadWords.keeps c.read_marks-here.new.access front.new.access front.ensures.reads).1 front_agrees in
    let virgin : (cell_at c.args.sizes.now words c.args.home).virgin ≡ true
    = ap (λ (x : CellMarks). x.virgin) (c.read_marks-here.ensures.value words here_agrees) ∙ not-false c.read_marks-here.result.virgin c.if-not-here.false in
    let start = front.ensures.front words front_agrees in
    let run = in_run n cells keys k front.result.start front.result.from front.result.groups home front.ensures.low c.requires.inside (home_occupied n cells keys k home c.requires.inside virgin) start in
    let placed = place.ensures.place words k.slots front.result.start home placed_agrees run (on_the_way n cells k.slots front.result.start home run front.result.from front.result.groups start) in
    let s = seek.ensures.near in
    let first = first_of n k.slots k.laid cells k.drawn front.result.start place.result home home placed (omega arith) c.requires.inside run.row virgin in
    let top : ℕ = max (home + 1) s.high in
    let low = front.ensures.low in
    let begun = front.ensures.from in
    let behind = place.ensures.bounds in
    let until = s.span in
    record {
      low = front.result.start;
      high = max (c.args.home + 1) s.high;
      span = (low, omega arith, omega (arith, c.requires.inside));
      row = λ i a b. ⊎_elim
          (λ (less : i < home + 1). run.row i a (omega arith))
          (λ (past : home + 1 ≤ i). ⊎_elim
          (λ (before : i < place.result). let t = placed.row i a before in k.drawn.occupied i t.0 t.1)
          (λ (from : place.result ≤ i).
          let t = along_to n k.slots k.laid cells k.drawn place.result i first.0 first.1 from (λ m x y. s.row words agrees m x (omega arith)) in k.drawn.occupied i t.0 t.1)
          (cases_lt i place.result))
          (cases_lt i (home + 1));
      reach =
          let base : ℕ = front.result.start - 1 in
          let end : ℕ = suc (max (c.args.home + 1) s.high) in
          let here = c.read_marks-here in
          onward (g.A.ReadWords.reached c.args.access.now) (g.A.ReadWords.reached place.new.access) (g.A.ReadWords.reached seek.new.access) c.args.sizes.now base end
          (onward (g.A.ReadWords.reached c.args.access.now) (g.A.ReadWords.reached front.new.access) (g.A.ReadWords.reached place.new.access) c.args.sizes.now base end
          (onward (g.A.ReadWords.reached c.args.access.now) (g.A.ReadWords.reached here.new.access) (g.A.ReadWords.reached front.new.access) c.args.sizes.now base end
          (widen (g.A.ReadWords.reached c.args.access.now) (g.A.ReadWords.reached here.new.access) c.args.sizes.now home (suc home) base end (omega arith) (omega arith) here.ensures.near)
          (widen (g.A.ReadWords.reached here.new.access) (g.A.ReadWords.reached front.new.access) c.args.sizes.now (front.result.start - 1) home base end (omega arith) (omega arith) front.ensures.near))
          (widen (g.A.ReadWords.reached front.new.access) (g.A.ReadWords.reached place.new.access) c.args.sizes.now front.result.from place.result base end (omega arith) (omega arith) place.ensures.near))
          (widen (g.A.ReadWords.reached place.new.access) (g.A.ReadWords.reached seek.new.access) c.args.sizes.now place.result s.high base end (omega arith) (omega arith) s.reach);
    }
