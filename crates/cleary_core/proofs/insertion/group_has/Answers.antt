use Rattle.std.proofs.Common.{◌≡◌, ◌∙◌, ℕ, true, Some, None, arith}
use Rattle.cleary_core.specs.Cells.{cell_at}
use Rattle.cleary_core.proofs.Placing.{group_ends, searched, found_here, first_of, along_to}
use Rattle.cleary_core.proofs.Reaching.{nowhere}
use Rattle.cleary_core.proofs.insertion.group_has.Goals as goal

pub returns-in-Some-clause-tells : goal.returns-in-Some-clause-tells
returns-in-Some-clause-tells g c = λ words keys start home agrees k at.
    let run = at.run in
    let placed = at.placed in
    let n : ℕ = c.args.sizes.now.cells in
    let cells : ℕ → _ = cell_at c.args.sizes.now words in
    let virgin : (cell_at c.args.sizes.now words home).virgin ≡ true = at.mark ∙ c.if-not-virgin.false in
    let ends = group_ends n k.slots k.laid cells k.drawn start c.args.place home home placed (omega arith) run.inside.1 run.row virgin in
    found_here n cells keys k home c.args.quotient c.in-Some.field-0
    (searched n cells keys k home c.args.quotient (Some c.in-Some.field-0) start c.args.place run.inside.1 placed run.row virgin (c.in-Some.ensures.sought words agrees ends))

pub returns-in-None-clause-tells : goal.returns-in-None-clause-tells
returns-in-None-clause-tells g c = λ words keys start home agrees k at.
    let run = at.run in
    let placed = at.placed in
    let n : ℕ = c.args.sizes.now.cells in
    let cells : ℕ → _ = cell_at c.args.sizes.now words in
    let virgin : (cell_at c.args.sizes.now words home).virgin ≡ true = at.mark ∙ c.if-not-virgin.false in
    let ends = group_ends n k.slots k.laid cells k.drawn start c.args.place home home placed (omega arith) run.inside.1 run.row virgin in
    searched n cells keys k home c.args.quotient None start c.args.place run.inside.1 placed run.row virgin (c.in-None.ensures.sought words agrees ends)

pub returns-then-not-virgin-clause-near : goal.returns-then-not-virgin-clause-near
returns-then-not-virgin-clause-near g c = λ words keys start home agrees k at. record {
  high = c.args.place;
  span = (omega arith, c.requires.inside);
  row = λ i a b. absurd (omega arith);
  reach = nowhere (g.A.ReadWords.reached c.args.access.now) c.args.sizes.now c.args.place c.args.place;
}

pub returns-in-Some-clause-near : goal.returns-in-Some-clause-near
returns-in-Some-clause-near g c = λ words keys start home agrees k at.
    let run = at.run in
    let placed = at.placed in
    let n : ℕ = c.args.sizes.now.cells in
    let cells : ℕ → _ = cell_at c.args.sizes.now words in
    let virgin : (cell_at c.args.sizes.now words home).virgin ≡ true = at.mark ∙ c.if-not-virgin.false in
    let first = first_of n k.slots k.laid cells k.drawn start c.args.place home home placed (omega arith) run.inside.1 run.row virgin in
    let s = c.in-Some.ensures.near in
    record {
      high = s.high;
      span = s.span;
      row = λ i a b. let t = along_to n k.slots k.laid cells k.drawn c.args.place i first.0 first.1 a (λ m x y. s.row words agrees m x (omega arith)) in k.drawn.occupied i t.0 t.1;
      reach = s.reach;
    }

pub returns-in-None-clause-near : goal.returns-in-None-clause-near
returns-in-None-clause-near g c = λ words keys start home agrees k at.
    let run = at.run in
    let placed = at.placed in
    let n : ℕ = c.args.sizes.now.cells in
    let cells : ℕ → _ = cell_at c.args.sizes.now words in
    let virgin : (cell_at c.args.sizes.now words home).virgin ≡ true = at.mark ∙ c.if-not-virgin.false in
    let first = first_of n k.slots k.laid cells k.drawn start c.args.place home home placed (omega arith) run.inside.1 run.row virgin in
    let s = c.in-None.ensures.near in
    record {
      high = s.high;
      span = s.span;
      row = λ i a b. let t = along_to n k.slots k.laid cells k.drawn c.args.place i first.0 first.1 a (λ m x y. s.row words agrees m x (omega arith)) in k.drawn.occupied i t.0 t.1;
      reach = s.reach;
    }
