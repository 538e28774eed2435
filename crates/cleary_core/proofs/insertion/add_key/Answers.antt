use Rattle.std.proofs.Common.{◌-◌, ℕ, Bool, List, sym, subst, arith, suc}
use Rattle.cleary_core.specs.Access.{HasReached}
use Rattle.cleary_core.specs.Cells.{cell_at, word_count}
use Rattle.cleary_core.specs.declared.cells.Cell.{Cell}
use Rattle.cleary_core.specs.Map.{KeepsMap}
use Rattle.cleary_core.specs.Change.{InOneRun, Put, ShiftedUp, ShiftedDown}
use Rattle.cleary_core.proofs.Answering.{near_up, near_down, near_still, keeps_up, keeps_down, full, row_on}
use Rattle.cleary_core.proofs.Reaching.{onward, widen}
use Rattle.cleary_core.proofs.insertion.add_key.Goals as goal

pub returns-then-end-sizes-clause-answer : goal.returns-then-end-sizes-clause-answer
returns-then-end-sizes-clause-answer g c = λ keys k.
    let n : ℕ = c.args.sizes.now.cells in
    let old : ℕ → Cell = cell_at c.args.sizes.now (g.A.WriteWords.words c.args.access.now) in
    let mid : ℕ → Cell = cell_at c.args.sizes.now (g.A.WriteWords.words c.shift_up.new.access) in
    let new : ℕ → Cell = cell_at c.args.sizes.now (g.A.WriteWords.words c.put_key.new.access) in
    let same = (g.met.A.WriteWords.same c.args.access.now c.run_end-end.new.access c.run_end-end.ensures.reads).0 in
    let gap = c.args.gap.now in
    let there = c.requires.gap keys k in
    let e = c.run_end-end.ensures.end (g.A.WriteWords.words c.args.access.now)
    (subst (λ (w : List ℕ). HasReached (g.A.ReadWords.reached c.run_end-end.new.access) w) same (g.met.A.WriteWords.stands c.run_end-end.new.access (word_count c.args.sizes.now) c.run_end-end.ensures.words).1) in
    let bounds = c.run_end-end.ensures.bounds in (
      there.absent,
      keeps_up n old keys k c.args.home c.args.quotient c.requires.inside.0 there.absent gap.start gap.place c.run_end-end.result there.run.inside.0 there.run.row (omega (arith, bounds, c.max.ensures), bounds.1)
          (row_on n old keys k gap.start gap.place c.args.home c.max.result c.run_end-end.result there.run there.placed c.max.ensures e) there.placed mid new c.if-end-sizes.true (e.edge c.if-end-sizes.true)
          (subst (λ (w : List ℕ). ShiftedUp (cell_at c.args.sizes.now w) mid gap.place c.run_end-end.result) same c.shift_up.ensures.shifted)
          (subst (λ (b : Bool). Put mid new gap.place c.args.home c.args.quotient b) there.first c.put_key.ensures.put),
    )

pub overflow_sub-gap-then-gap-gt0 : goal.overflow_sub-gap-then-gap-gt0
overflow_sub-gap-then-gap-gt0 g c = let from = (c.requires.gap c.requires.kept.0 c.requires.kept.1).placed.from in omega (arith, c.if-gap-gt0.true)

pub shift_down-requires-clause-inside : goal.shift_down-requires-clause-inside
shift_down-requires-clause-inside g c =
    let from = (c.requires.gap c.requires.kept.0 c.requires.kept.1).placed.from in
    (omega arith, omega (arith, c.if-gap-gt0.true, c.requires.inside))

pub overflow_sub-gap-then-gap-gt0-2 : goal.overflow_sub-gap-then-gap-gt0-2
overflow_sub-gap-then-gap-gt0-2 g c = let from = (c.requires.gap c.requires.kept.0 c.requires.kept.1).placed.from in omega (arith, c.if-gap-gt0.true)

pub returns-then-gap-gt0-clause-answer : goal.returns-then-gap-gt0-clause-answer
returns-then-gap-gt0-clause-answer g c = λ keys k.
    let n : ℕ = c.args.sizes.now.cells in
    let old : ℕ → Cell = cell_at c.args.sizes.now (g.A.WriteWords.words c.args.access.now) in
    let mid : ℕ → Cell = cell_at c.args.sizes.now (g.A.WriteWords.words c.shift_down.new.access) in
    let new : ℕ → Cell = cell_at c.args.sizes.now (g.A.WriteWords.words c.put_key-then-gap-gt0.new.access) in
    let same = (g.met.A.WriteWords.same c.args.access.now c.run_end-end.new.access c.run_end-end.ensures.reads).0 in
    let gap = c.args.gap.now in
    let there = c.requires.gap keys k in
    let e = c.run_end-end.ensures.end (g.A.WriteWords.words c.args.access.now)
    (subst (λ (w : List ℕ). HasReached (g.A.ReadWords.reached c.run_end-end.new.access) w) same (g.met.A.WriteWords.stands c.run_end-end.new.access (word_count c.args.sizes.now) c.run_end-end.ensures.words).1) in
    let bounds = c.run_end-end.ensures.bounds in (
      there.absent,
      keeps_down n old keys k c.args.home c.args.quotient c.requires.inside.0 there.absent gap.start gap.place c.run_end-end.result there.run.inside.0 there.run.row (omega (arith, bounds, c.max.ensures), bounds.1)
          (row_on n old keys k gap.start gap.place c.args.home c.max.result c.run_end-end.result there.run there.placed c.max.ensures e) there.placed mid new c.if-end-sizes.false c.if-gap-gt0.true (there.run.edge c.if-gap-gt0.true)
          (subst (λ (w : List ℕ). ShiftedDown (cell_at c.args.sizes.now w) mid (gap.start - 1) (gap.place - 1)) same c.shift_down.ensures.shifted)
          (subst (λ (b : Bool). Put mid new (gap.place - 1) c.args.home c.args.quotient b) there.first c.put_key-then-gap-gt0.ensures.put),
    )

pub returns-clause-answer : goal.returns-clause-answer
returns-clause-answer g c = λ keys k.
    let n : ℕ = c.args.sizes.now.cells in
    let old : ℕ → Cell = cell_at c.args.sizes.now (g.A.WriteWords.words c.args.access.now) in
    let same = (g.met.A.WriteWords.same c.args.access.now c.run_end-end.new.access c.run_end-end.ensures.reads).0 in
    let gap = c.args.gap.now in
    let there = c.requires.gap keys k in
    let e = c.run_end-end.ensures.end (g.A.WriteWords.words c.args.access.now)
    (subst (λ (w : List ℕ). HasReached (g.A.ReadWords.reached c.run_end-end.new.access) w) same (g.met.A.WriteWords.stands c.run_end-end.new.access (word_count c.args.sizes.now) c.run_end-end.ensures.words).1) in
    let bounds = c.run_end-end.ensures.bounds in (
      there.absent,
      full n old keys k c.args.home c.args.quotient c.requires.inside.0 there.absent gap.start gap.place c.run_end-end.result there.run.inside.0 there.run.row (omega (arith, bounds, c.max.ensures), bounds.1)
          (row_on n old keys k gap.start gap.place c.args.home c.max.result c.run_end-end.result there.run there.placed c.max.ensures e) there.placed c.if-end-sizes.false c.if-gap-gt0.false,
      subst (λ (w : List ℕ). KeepsMap c.args.sizes.now w keys) (sym same) k,
    )

pub returns-then-end-sizes-clause-others : goal.returns-then-end-sizes-clause-others
returns-then-end-sizes-clause-others g c =
    let keys = c.requires.kept.0 in
    let k = c.requires.kept.1 in
    let n : ℕ = c.args.sizes.now.cells in
    let old : ℕ → Cell = cell_at c.args.sizes.now (g.A.WriteWords.words c.args.access.now) in
    let same = (g.met.A.WriteWords.same c.args.access.now c.run_end-end.new.access c.run_end-end.ensures.reads).0 in
    let gap = c.args.gap.now in
    let there = c.requires.gap keys k in
    let bounds = c.run_end-end.ensures.bounds in
    let e = c.run_end-end.ensures.end (g.A.WriteWords.words c.args.access.now)
    (subst (λ (w : List ℕ). HasReached (g.A.ReadWords.reached c.run_end-end.new.access) w) same
    (g.met.A.WriteWords.stands c.run_end-end.new.access (word_count c.args.sizes.now) c.run_end-end.ensures.words).1) in
    let back = row_on n old keys k gap.start gap.place c.args.home c.max.result c.run_end-end.result there.run there.placed c.max.ensures e in
    let mid : ℕ → Cell = cell_at c.args.sizes.now (g.A.WriteWords.words c.shift_up.new.access) in
    let new : ℕ → Cell = cell_at c.args.sizes.now (g.A.WriteWords.words c.put_key.new.access) in
    near_up n old mid new gap.start gap.place c.args.home c.run_end-end.result c.args.quotient gap.fresh there.run.inside.0 there.placed.from there.run.row back (omega (arith, bounds, c.max.ensures))
    (omega (arith, bounds, c.max.ensures)) c.if-end-sizes.true (subst (λ (w : List ℕ). ShiftedUp (cell_at c.args.sizes.now w) mid gap.place c.run_end-end.result) same c.shift_up.ensures.shifted) c.put_key.ensures.put

pub returns-then-gap-gt0-clause-others : goal.returns-then-gap-gt0-clause-others
returns-then-gap-gt0-clause-others g c =
    let keys = c.requires.kept.0 in
    let k = c.requires.kept.1 in
    let n : ℕ = c.args.sizes.now.cells in
    let old : ℕ → Cell = cell_at c.args.sizes.now (g.A.WriteWords.words c.args.access.now) in
    let same = (g.met.A.WriteWords.same c.args.access.now c.run_end-end.new.access c.run_end-end.ensures.reads).0 in
    let gap = c.args.gap.now in
    let there = c.requires.gap keys k in
    let bounds = c.run_end-end.ensures.bounds in
    let e = c.run_end-end.ensures.end (g.A.WriteWords.words c.args.access.now)
    (subst (λ (w : List ℕ). HasReached (g.A.ReadWords.reached c.run_end-end.new.access) w) same
    (g.met.A.WriteWords.stands c.run_end-end.new.access (word_count c.args.sizes.now) c.run_end-end.ensures.words).1) in
    let back = row_on n old keys k gap.start gap.place c.args.home c.max.result c.run_end-end.result there.run there.placed c.max.ensures e in
    let mid : ℕ → Cell = cell_at c.args.sizes.now (g.A.WriteWords.words c.shift_down.new.access) in
    let new : ℕ → Cell = cell_at c.args.sizes.now (g.A.WriteWords.words c.put_key-then-gap-gt0.new.access) in
    near_down n old mid new gap.start gap.place c.args.home c.run_end-end.result c.args.quotient gap.fresh there.run.inside.0 there.placed.from there.run.row back (omega (arith, bounds, c.max.ensures))
    c.if-gap-gt0.true (omega (arith, bounds, c.max.ensures)) (omega (arith, bounds, c.if-end-sizes.false))
    (subst (λ (w : List ℕ). ShiftedDown (cell_at c.args.sizes.now w) mid (gap.start - 1) (gap.place - 1)) same c.shift_down.ensures.shifted) c.put_key-then-gap-gt0.ensures.put

pub returns-clause-others : goal.returns-clause-others
returns-clause-others g c =
    let keys = c.requires.kept.0 in
    let k = c.requires.kept.1 in
    let n : ℕ = c.args.sizes.now.cells in
    let old : ℕ → Cell = cell_at c.args.sizes.now (g.A.WriteWords.words c.args.access.now) in
    let same = (g.met.A.WriteWords.same c.args.access.now c.run_end-end.new.access c.run_end-end.ensures.reads).0 in
    let gap = c.args.gap.now in
    let there = c.requires.gap keys k in
    let bounds = c.run_end-end.ensures.bounds in
    subst (λ (w : List ℕ). InOneRun n old (cell_at c.args.sizes.now w) c.args.home) (sym same) (near_still n old c.args.home c.requires.inside.0 (there.run.row c.args.home there.run.inside.0 (omega arith)))

pub returns-then-end-sizes-clause-near : goal.returns-then-end-sizes-clause-near
returns-then-end-sizes-clause-near g c =
    let keys = c.requires.kept.0 in
    let k = c.requires.kept.1 in
    let n : ℕ = c.args.sizes.now.cells in
    let old : ℕ → Cell = cell_at c.args.sizes.now (g.A.WriteWords.words c.args.access.now) in
    let same = (g.met.A.WriteWords.same c.args.access.now c.run_end-end.new.access c.run_end-end.ensures.reads).0 in
    let gap = c.args.gap.now in
    let there = c.requires.gap keys k in
    let bounds = c.run_end-end.ensures.bounds in
    let e = c.run_end-end.ensures.end (g.A.WriteWords.words c.args.access.now)
    (subst (λ (w : List ℕ). HasReached (g.A.ReadWords.reached c.run_end-end.new.access) w) same
    (g.met.A.WriteWords.stands c.run_end-end.new.access (word_count c.args.sizes.now) c.run_end-end.ensures.words).1) in
    let back = row_on n old keys k gap.start gap.place c.args.home c.max.result c.run_end-end.result there.run there.placed c.max.ensures e in
    let low = there.run.inside.0 in
    let from = there.placed.from in
    let base : ℕ = gap.start - 1 in
    let top : ℕ = suc c.run_end-end.result in
    let over = c.if-end-sizes.true in
    record {
      high = c.run_end-end.result;
      span = (omega (arith, bounds, c.max.ensures), bounds.1);
      row = back;
      reach = onward (g.A.ReadWords.reached c.args.access.now) (g.A.ReadWords.reached c.shift_up.new.access) (g.A.ReadWords.reached c.put_key.new.access) c.args.sizes.now base top
          (onward (g.A.ReadWords.reached c.args.access.now) (g.A.ReadWords.reached c.run_end-end.new.access) (g.A.ReadWords.reached c.shift_up.new.access) c.args.sizes.now base top
          (widen (g.A.ReadWords.reached c.args.access.now) (g.A.ReadWords.reached c.run_end-end.new.access) c.args.sizes.now c.max.result (suc c.run_end-end.result) base top (omega (arith, low, from)) (omega (arith, bounds, c.max.ensures, over)) c.run_end-end.ensures.near)
          (widen (g.A.ReadWords.reached c.run_end-end.new.access) (g.A.ReadWords.reached c.shift_up.new.access) c.args.sizes.now gap.place (suc c.run_end-end.result) base top (omega (arith, low, from)) (omega (arith, bounds, c.max.ensures, over)) c.shift_up.ensures.near))
          (c.put_key.ensures.near base top (omega (arith, from)) (omega (arith, bounds, c.max.ensures)) (omega (arith, low)) (omega (arith, bounds, c.max.ensures)));
    }

pub returns-then-gap-gt0-clause-near : goal.returns-then-gap-gt0-clause-near
returns-then-gap-gt0-clause-near g c =
    let keys = c.requires.kept.0 in
    let k = c.requires.kept.1 in
    let n : ℕ = c.args.sizes.now.cells in
    let old : ℕ → Cell = cell_at c.args.sizes.now (g.A.WriteWords.words c.args.access.now) in
    let same = (g.met.A.WriteWords.same c.args.access.now c.run_end-end.new.access c.run_end-end.ensures.reads).0 in
    let gap = c.args.gap.now in
    let there = c.requires.gap keys k in
    let bounds = c.run_end-end.ensures.bounds in
    let e = c.run_end-end.ensures.end (g.A.WriteWords.words c.args.access.now)
    (subst (λ (w : List ℕ). HasReached (g.A.ReadWords.reached c.run_end-end.new.access) w) same
    (g.met.A.WriteWords.stands c.run_end-end.new.access (word_count c.args.sizes.now) c.run_end-end.ensures.words).1) in
    let back = row_on n old keys k gap.start gap.place c.args.home c.max.result c.run_end-end.result there.run there.placed c.max.ensures e in
    let low = there.run.inside.0 in
    let from = there.placed.from in
    let base : ℕ = gap.start - 1 in
    let top : ℕ = suc c.run_end-end.result in
    let over = c.if-end-sizes.false in
    record {
      high = c.run_end-end.result;
      span = (omega (arith, bounds, c.max.ensures), bounds.1);
      row = back;
      reach = onward (g.A.ReadWords.reached c.args.access.now) (g.A.ReadWords.reached c.shift_down.new.access) (g.A.ReadWords.reached c.put_key-then-gap-gt0.new.access) c.args.sizes.now base top
          (onward (g.A.ReadWords.reached c.args.access.now) (g.A.ReadWords.reached c.run_end-end.new.access) (g.A.ReadWords.reached c.shift_down.new.access) c.args.sizes.now base top
          (widen (g.A.ReadWords.reached c.args.access.now) (g.A.ReadWords.reached c.run_end-end.new.access) c.args.sizes.now c.max.result (suc c.run_end-end.result) base top (omega (arith, low, from)) (omega (arith, bounds, c.max.ensures, over)) c.run_end-end.ensures.near)
          (widen (g.A.ReadWords.reached c.run_end-end.new.access) (g.A.ReadWords.reached c.shift_down.new.access) c.args.sizes.now (gap.start - 1) (suc (gap.place - 1)) base top (omega (arith, low, from)) (omega (arith, bounds, c.max.ensures, over)) c.shift_down.ensures.near))
          (c.put_key-then-gap-gt0.ensures.near base top (omega (arith, from)) (omega (arith, bounds, c.max.ensures, from, c.if-gap-gt0.true)) (omega (arith, low)) (omega (arith, bounds, c.max.ensures)));
    }

pub returns-clause-near : goal.returns-clause-near
returns-clause-near g c =
    let keys = c.requires.kept.0 in
    let k = c.requires.kept.1 in
    let n : ℕ = c.args.sizes.now.cells in
    let old : ℕ → Cell = cell_at c.args.sizes.now (g.A.WriteWords.words c.args.access.now) in
    let same = (g.met.A.WriteWords.same c.args.access.now c.run_end-end.new.access c.run_end-end.ensures.reads).0 in
    let gap = c.args.gap.now in
    let there = c.requires.gap keys k in
    let bounds = c.run_end-end.ensures.bounds in
    let e = c.run_end-end.ensures.end (g.A.WriteWords.words c.args.access.now)
    (subst (λ (w : List ℕ). HasReached (g.A.ReadWords.reached c.run_end-end.new.access) w) same
    (g.met.A.WriteWords.stands c.run_end-end.new.access (word_count c.args.sizes.now) c.run_end-end.ensures.words).1) in
    let back = row_on n old keys k gap.start gap.place c.args.home c.max.result c.run_end-end.result there.run there.placed c.max.ensures e in
    let low = there.run.inside.0 in
    let from = there.placed.from in
    let base : ℕ = gap.start - 1 in
    let top : ℕ = suc c.run_end-end.result in
    let over = c.if-end-sizes.false in
    record {
      high = c.run_end-end.result;
      span = (omega (arith, bounds, c.max.ensures), bounds.1);
      row = back;
      reach = (widen (g.A.ReadWords.reached c.args.access.now) (g.A.ReadWords.reached c.run_end-end.new.access) c.args.sizes.now c.max.result (suc c.run_end-end.result) base top (omega (arith, low, from)) (omega (arith, bounds, c.max.ensures, over)) c.run_end-end.ensures.near);
    }
