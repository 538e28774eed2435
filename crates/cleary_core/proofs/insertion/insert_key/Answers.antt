use Rattle.std.proofs.Common.{◌≡◌, ◌∙◌, ℕ, List, not, false, true, sym, ap, subst, suc, ◌≤◌, ◌<◌, ◌+◌, ◌-◌, max, ⊎_elim, arith}
use Rattle.std.proofs.lemmas.Bool.{not-true, not-false, cases_lt}
use Rattle.cleary_core.specs.Access.{HasReached}
use Rattle.cleary_core.specs.Cells.{cell_at, word_count}
use Rattle.cleary_core.specs.declared.cells.Cell.{Cell}
use Rattle.cleary_core.specs.declared.cells.CellMarks.{CellMarks}
use Rattle.cleary_core.specs.Map.{KeepsMap}
use Rattle.cleary_core.specs.Change.{InOneRun, Put}
use Rattle.cleary_core.proofs.Answering.{near_alone, near_still, keeps_still, none_at}
use Rattle.cleary_core.proofs.Fronting.{found}
use Rattle.cleary_core.proofs.Reaching.{all_earlier, onward, widen}
use Rattle.cleary_core.specs.Search.{ReachesRun}
use Rattle.cleary_core.proofs.insertion.insert_key.Goals as goal

pub returns-then-not-here-clause-answer : goal.returns-then-not-here-clause-answer
returns-then-not-here-clause-answer g c = λ keys k.
    let n : ℕ = c.args.sizes.now.cells in
    let old_words : List ℕ = g.A.WriteWords.words c.args.access.now in
    let old : ℕ → Cell = cell_at c.args.sizes.now (g.A.WriteWords.words c.args.access.now) in
    let new : ℕ → Cell = cell_at c.args.sizes.now (g.A.WriteWords.words c.put_alone.new.access) in
    let same = (g.met.A.WriteWords.same c.args.access.now c.read_marks-here.new.access c.read_marks-here.ensures.reads).0 in
    let agrees : HasReached (g.A.ReadWords.reached c.read_marks-here.new.access) old_words
    = subst (λ (w : List ℕ). HasReached (g.A.ReadWords.reached c.read_marks-here.new.access) w) same (g.met.A.WriteWords.stands c.read_marks-here.new.access (word_count c.args.sizes.now) c.read_marks-here.ensures.words).1 in
    let empty : (cell_at c.args.sizes.now (g.A.WriteWords.words c.args.access.now) c.args.home).occupied ≡ false
    = ap (λ (x : CellMarks). x.occupied) (c.read_marks-here.ensures.value old_words agrees) ∙ not-true c.read_marks-here.result.occupied c.if-not-here.true in
    let absent = none_at n old keys k c.args.home c.args.quotient c.requires.inside empty in (
      absent,
      keeps_still n old keys k c.args.home c.args.quotient c.requires.inside absent new empty
          (subst (λ (w : List ℕ). Put (cell_at c.args.sizes.now w) new c.args.home c.args.home c.args.quotient true) same c.put_alone.ensures.put),
    )

pub returns-then-not-here-clause-others : goal.returns-then-not-here-clause-others
returns-then-not-here-clause-others g c =
    let old : ℕ → Cell = cell_at c.args.sizes.now (g.A.WriteWords.words c.args.access.now) in
    let new : ℕ → Cell = cell_at c.args.sizes.now (g.A.WriteWords.words c.put_alone.new.access) in
    let same = (g.met.A.WriteWords.same c.args.access.now c.read_marks-here.new.access c.read_marks-here.ensures.reads).0 in
    near_alone c.args.sizes.now.cells old new c.args.home c.args.quotient c.requires.inside
    (subst (λ (w : List ℕ). Put (cell_at c.args.sizes.now w) new c.args.home c.args.home c.args.quotient true) same c.put_alone.ensures.put)

pub returns-then-group_has-clause-answer : goal.returns-then-group_has-clause-answer
returns-then-group_has-clause-answer g c = λ keys old.
    let same = (g.met.A.WriteWords.same c.args.access.now c.group_has.new.access
    (g.met.A.ReadWords.joins c.args.access.now c.read_marks-here.new.access c.group_has.new.access c.read_marks-here.ensures.reads
    (g.met.A.ReadWords.joins c.read_marks-here.new.access c.run_front-front.new.access c.group_has.new.access c.run_front-front.ensures.reads
    (g.met.A.ReadWords.joins c.run_front-front.new.access c.group_place-place.new.access c.group_has.new.access c.group_place-place.ensures.reads c.group_has.ensures.reads)))).0 in
    let k : KeepsMap c.args.sizes.now (g.A.WriteWords.words c.group_has.new.access) keys = subst (λ (w : List ℕ). KeepsMap c.args.sizes.now w keys) (sym same) old in
    let n : ℕ = c.args.sizes.now.cells in
    let cells : ℕ → Cell = cell_at c.args.sizes.now (g.A.WriteWords.words c.group_has.new.access) in
    let words : List ℕ = g.A.WriteWords.words c.group_has.new.access in
    let here = c.read_marks-here in
    let front = c.run_front-front in
    let place = c.group_place-place in
    let has = c.group_has in
    let agrees = (g.met.A.WriteWords.stands has.new.access (word_count c.args.sizes.now) has.ensures.words).1 in
    let agree = all_earlier (g.A.ReadWords.reached here.new.access) (g.A.ReadWords.reached front.new.access) (g.A.ReadWords.reached place.new.access) (g.A.ReadWords.reached has.new.access) words
    (g.met.A.ReadWords.keeps here.new.access front.new.access front.ensures.reads).1 (g.met.A.ReadWords.keeps front.new.access place.new.access place.ensures.reads).1
    (g.met.A.ReadWords.keeps place.new.access has.new.access has.ensures.reads).1 agrees in
    let f = found n cells keys k front.result.start front.result.from front.result.groups place.result c.args.home here.result front.ensures.low c.requires.inside (not-false here.result.occupied c.if-not-here.false)
    (here.ensures.value words agree.0) (front.ensures.front words agree.1) (λ run on. place.ensures.place words k.slots front.result.start c.args.home agree.2 run on) in
    (c.if-group_has.ensures.tells words keys front.result.start c.args.home agrees k f, k)

pub add_key-requires-clause-gap : goal.add_key-requires-clause-gap
add_key-requires-clause-gap g c = λ keys k.
    let n : ℕ = c.args.sizes.now.cells in
    let cells : ℕ → Cell = cell_at c.args.sizes.now (g.A.WriteWords.words c.group_has.new.access) in
    let words : List ℕ = g.A.WriteWords.words c.group_has.new.access in
    let here = c.read_marks-here in
    let front = c.run_front-front in
    let place = c.group_place-place in
    let has = c.group_has in
    let agrees = (g.met.A.WriteWords.stands has.new.access (word_count c.args.sizes.now) has.ensures.words).1 in
    let agree = all_earlier (g.A.ReadWords.reached here.new.access) (g.A.ReadWords.reached front.new.access) (g.A.ReadWords.reached place.new.access) (g.A.ReadWords.reached has.new.access) words
    (g.met.A.ReadWords.keeps here.new.access front.new.access front.ensures.reads).1 (g.met.A.ReadWords.keeps front.new.access place.new.access place.ensures.reads).1
    (g.met.A.ReadWords.keeps place.new.access has.new.access has.ensures.reads).1 agrees in
    let f = found n cells keys k front.result.start front.result.from front.result.groups place.result c.args.home here.result front.ensures.low c.requires.inside (not-false here.result.occupied c.if-not-here.false)
    (here.ensures.value words agree.0) (front.ensures.front words agree.1) (λ run on. place.ensures.place words k.slots front.result.start c.args.home agree.2 run on) in
    record {
      run = f.run;
      placed = f.placed;
      absent = c.if-group_has.ensures.tells words keys front.result.start c.args.home agrees k f;
      first = ap not (sym f.mark);
    }

pub returns-clause-writes : goal.returns-clause-writes
returns-clause-writes g c =
    g.met.A.WriteWords.links c.args.access.now c.group_has.new.access c.add_key.new.access (g.met.A.WriteWords.same c.args.access.now c.group_has.new.access
    (g.met.A.ReadWords.joins c.args.access.now c.read_marks-here.new.access c.group_has.new.access c.read_marks-here.ensures.reads
    (g.met.A.ReadWords.joins c.read_marks-here.new.access c.run_front-front.new.access c.group_has.new.access c.run_front-front.ensures.reads
    (g.met.A.ReadWords.joins c.run_front-front.new.access c.group_place-place.new.access c.group_has.new.access c.group_place-place.ensures.reads c.group_has.ensures.reads)))).1 c.add_key.ensures.writes

pub returns-then-group_has-clause-others : goal.returns-then-group_has-clause-others
returns-then-group_has-clause-others g c =
    let same = (g.met.A.WriteWords.same c.args.access.now c.group_has.new.access
    (g.met.A.ReadWords.joins c.args.access.now c.read_marks-here.new.access c.group_has.new.access c.read_marks-here.ensures.reads
    (g.met.A.ReadWords.joins c.read_marks-here.new.access c.run_front-front.new.access c.group_has.new.access c.run_front-front.ensures.reads
    (g.met.A.ReadWords.joins c.run_front-front.new.access c.group_place-place.new.access c.group_has.new.access c.group_place-place.ensures.reads c.group_has.ensures.reads)))).0 in
    let here = (g.met.A.WriteWords.same c.args.access.now c.read_marks-here.new.access c.read_marks-here.ensures.reads).0 in
    let old_words : List ℕ = g.A.WriteWords.words c.args.access.now in
    let agrees : HasReached (g.A.ReadWords.reached c.read_marks-here.new.access) old_words
    = subst (λ (w : List ℕ). HasReached (g.A.ReadWords.reached c.read_marks-here.new.access) w) here
    (g.met.A.WriteWords.stands c.read_marks-here.new.access (word_count c.args.sizes.now) c.read_marks-here.ensures.words).1 in
    let taken : (cell_at c.args.sizes.now (g.A.WriteWords.words c.args.access.now) c.args.home).occupied ≡ true
    = ap (λ (x : CellMarks). x.occupied) (c.read_marks-here.ensures.value old_words agrees) ∙ not-false c.read_marks-here.result.occupied c.if-not-here.false in
    subst (λ (w : List ℕ). InOneRun c.args.sizes.now.cells (cell_at c.args.sizes.now (g.A.WriteWords.words c.args.access.now)) (cell_at c.args.sizes.now w) c.args.home) (sym same)
    (near_still c.args.sizes.now.cells (cell_at c.args.sizes.now (g.A.WriteWords.words c.args.access.now)) c.args.home c.requires.inside taken)

pub returns-clause-others : goal.returns-clause-others
returns-clause-others g c =
    let same = (g.met.A.WriteWords.same c.args.access.now c.group_has.new.access
    (g.met.A.ReadWords.joins c.args.access.now c.read_marks-here.new.access c.group_has.new.access c.read_marks-here.ensures.reads
    (g.met.A.ReadWords.joins c.read_marks-here.new.access c.run_front-front.new.access c.group_has.new.access c.run_front-front.ensures.reads
    (g.met.A.ReadWords.joins c.run_front-front.new.access c.group_place-place.new.access c.group_has.new.access c.group_place-place.ensures.reads c.group_has.ensures.reads)))).0 in
    subst (λ (w : List ℕ). InOneRun c.args.sizes.now.cells (cell_at c.args.sizes.now w) (cell_at c.args.sizes.now (g.A.WriteWords.words c.add_key.new.access)) c.args.home) same c.add_key.ensures.others

pub returns-then-not-here-clause-near : goal.returns-then-not-here-clause-near
returns-then-not-here-clause-near g c = record {
  low = c.args.home;
  high = c.args.home;
  span = (omega arith, omega arith, omega (arith, c.requires.inside));
  row = λ i a b. absurd (omega arith);
  reach = onward (g.A.ReadWords.reached c.args.access.now) (g.A.ReadWords.reached c.read_marks-here.new.access) (g.A.ReadWords.reached c.put_alone.new.access) c.args.sizes.now (c.args.home - 1) (suc c.args.home)
      (widen (g.A.ReadWords.reached c.args.access.now) (g.A.ReadWords.reached c.read_marks-here.new.access) c.args.sizes.now c.args.home (suc c.args.home) (c.args.home - 1) (suc c.args.home) (omega arith) (omega arith) c.read_marks-here.ensures.near)
      (widen (g.A.ReadWords.reached c.read_marks-here.new.access) (g.A.ReadWords.reached c.put_alone.new.access) c.args.sizes.now c.args.home (suc c.args.home) (c.args.home - 1) (suc c.args.home) (omega arith) (omega arith) c.put_alone.ensures.near);
}

pub returns-then-group_has-clause-near : goal.returns-then-group_has-clause-near
returns-then-group_has-clause-near g c =
    let same = (g.met.A.WriteWords.same c.args.access.now c.group_has.new.access
    (g.met.A.ReadWords.joins c.args.access.now c.read_marks-here.new.access c.group_has.new.access c.read_marks-here.ensures.reads
    (g.met.A.ReadWords.joins c.read_marks-here.new.access c.run_front-front.new.access c.group_has.new.access c.run_front-front.ensures.reads
    (g.met.A.ReadWords.joins c.run_front-front.new.access c.group_place-place.new.access c.group_has.new.access c.group_place-place.ensures.reads c.group_has.ensures.reads)))).0 in
    let keys = c.requires.kept.0 in
    let k : KeepsMap c.args.sizes.now (g.A.WriteWords.words c.group_has.new.access) c.requires.kept.0 = subst (λ (w : List ℕ). KeepsMap c.args.sizes.now w c.requires.kept.0) (sym same) c.requires.kept.1 in
    let n : ℕ = c.args.sizes.now.cells in
    let cells : ℕ → Cell = cell_at c.args.sizes.now (g.A.WriteWords.words c.group_has.new.access) in
    let words : List ℕ = g.A.WriteWords.words c.group_has.new.access in
    let here = c.read_marks-here in
    let front = c.run_front-front in
    let place = c.group_place-place in
    let has = c.group_has in
    let agrees = (g.met.A.WriteWords.stands has.new.access (word_count c.args.sizes.now) has.ensures.words).1 in
    let agree = all_earlier (g.A.ReadWords.reached here.new.access) (g.A.ReadWords.reached front.new.access) (g.A.ReadWords.reached place.new.access) (g.A.ReadWords.reached has.new.access) words
    (g.met.A.ReadWords.keeps here.new.access front.new.access front.ensures.reads).1 (g.met.A.ReadWords.keeps front.new.access place.new.access place.ensures.reads).1
    (g.met.A.ReadWords.keeps place.new.access has.new.access has.ensures.reads).1 agrees in
    let f = found n cells keys k front.result.start front.result.from front.result.groups place.result c.args.home here.result front.ensures.low c.requires.inside (not-false here.result.occupied c.if-not-here.false)
    (here.ensures.value words agree.0) (front.ensures.front words agree.1) (λ run on. place.ensures.place words k.slots front.result.start c.args.home agree.2 run on) in
    let r = has.ensures.near words keys front.result.start c.args.home agrees k f in
    let low = front.ensures.low in
    let begun = front.ensures.from in
    let behind = place.ensures.bounds in
    let until = r.span in
    subst (λ (w : List ℕ). ReachesRun (g.A.ReadWords.reached c.args.access.now) (g.A.ReadWords.reached c.group_has.new.access) c.args.sizes.now (cell_at c.args.sizes.now w) c.args.home) same record {
      low = front.result.start;
      high = max (c.args.home + 1) r.high;
      span = (low, omega arith, omega (arith, c.requires.inside));
      row = λ i a b. ⊎_elim
          (λ (less : i < c.args.home + 1). f.run.row i a (omega arith))
          (λ (past : c.args.home + 1 ≤ i). ⊎_elim
          (λ (before : i < place.result). let t = f.placed.row i a before in k.drawn.occupied i t.0 t.1)
          (λ (from : place.result ≤ i). r.row i from (omega arith))
          (cases_lt i place.result))
          (cases_lt i (c.args.home + 1));
      reach =
          let base : ℕ = front.result.start - 1 in
          let top : ℕ = suc (max (c.args.home + 1) r.high) in
          onward (g.A.ReadWords.reached c.args.access.now) (g.A.ReadWords.reached place.new.access) (g.A.ReadWords.reached has.new.access) c.args.sizes.now base top
          (onward (g.A.ReadWords.reached c.args.access.now) (g.A.ReadWords.reached front.new.access) (g.A.ReadWords.reached place.new.access) c.args.sizes.now base top
          (onward (g.A.ReadWords.reached c.args.access.now) (g.A.ReadWords.reached here.new.access) (g.A.ReadWords.reached front.new.access) c.args.sizes.now base top
          (widen (g.A.ReadWords.reached c.args.access.now) (g.A.ReadWords.reached here.new.access) c.args.sizes.now c.args.home (suc c.args.home) base top (omega arith) (omega arith) here.ensures.near)
          (widen (g.A.ReadWords.reached here.new.access) (g.A.ReadWords.reached front.new.access) c.args.sizes.now (front.result.start - 1) c.args.home base top (omega arith) (omega arith) front.ensures.near))
          (widen (g.A.ReadWords.reached front.new.access) (g.A.ReadWords.reached place.new.access) c.args.sizes.now front.result.from place.result base top (omega arith) (omega arith) place.ensures.near))
          (widen (g.A.ReadWords.reached place.new.access) (g.A.ReadWords.reached has.new.access) c.args.sizes.now place.result r.high base top (omega arith) (omega arith) r.reach);
    }

pub returns-clause-near : goal.returns-clause-near
returns-clause-near g c =
    let same = (g.met.A.WriteWords.same c.args.access.now c.group_has.new.access
    (g.met.A.ReadWords.joins c.args.access.now c.read_marks-here.new.access c.group_has.new.access c.read_marks-here.ensures.reads
    (g.met.A.ReadWords.joins c.read_marks-here.new.access c.run_front-front.new.access c.group_has.new.access c.run_front-front.ensures.reads
    (g.met.A.ReadWords.joins c.run_front-front.new.access c.group_place-place.new.access c.group_has.new.access c.group_place-place.ensures.reads c.group_has.ensures.reads)))).0 in
    let keys = c.requires.kept.0 in
    let k : KeepsMap c.args.sizes.now (g.A.WriteWords.words c.group_has.new.access) c.requires.kept.0 = subst (λ (w : List ℕ). KeepsMap c.args.sizes.now w c.requires.kept.0) (sym same) c.requires.kept.1 in
    let n : ℕ = c.args.sizes.now.cells in
    let cells : ℕ → Cell = cell_at c.args.sizes.now (g.A.WriteWords.words c.group_has.new.access) in
    let words : List ℕ = g.A.WriteWords.words c.group_has.new.access in
    let here = c.read_marks-here in
    let front = c.run_front-front in
    let place = c.group_place-place in
    let has = c.group_has in
    let agrees = (g.met.A.WriteWords.stands has.new.access (word_count c.args.sizes.now) has.ensures.words).1 in
    let agree = all_earlier (g.A.ReadWords.reached here.new.access) (g.A.ReadWords.reached front.new.access) (g.A.ReadWords.reached place.new.access) (g.A.ReadWords.reached has.new.access) words
    (g.met.A.ReadWords.keeps here.new.access front.new.access front.ensures.reads).1 (g.met.A.ReadWords.keeps front.new.access place.new.access place.ensures.reads).1
    (g.met.A.ReadWords.keeps place.new.access has.new.access has.ensures.reads).1 agrees in
    let f = found n cells keys k front.result.start front.result.from front.result.groups place.result c.args.home here.result front.ensures.low c.requires.inside (not-false here.result.occupied c.if-not-here.false)
    (here.ensures.value words agree.0) (front.ensures.front words agree.1) (λ run on. place.ensures.place words k.slots front.result.start c.args.home agree.2 run on) in
    let r = has.ensures.near words keys front.result.start c.args.home agrees k f in
    let low = front.ensures.low in
    let begun = front.ensures.from in
    let behind = place.ensures.bounds in
    let until = r.span in
    let add = c.add_key.ensures.near in
    let further = add.span in
    subst (λ (w : List ℕ). ReachesRun (g.A.ReadWords.reached c.args.access.now) (g.A.ReadWords.reached c.add_key.new.access) c.args.sizes.now (cell_at c.args.sizes.now w) c.args.home) same record {
      low = front.result.start;
      high = max (max (c.args.home + 1) r.high) add.high;
      span = (low, omega arith, omega (arith, c.requires.inside));
      row = λ i a b. ⊎_elim
          (λ (less : i < c.args.home + 1). f.run.row i a (omega arith))
          (λ (past : c.args.home + 1 ≤ i). ⊎_elim
          (λ (on : i < add.high). add.row i (omega arith) on)
          (λ (beyond : add.high ≤ i). ⊎_elim
          (λ (before : i < place.result). let t = f.placed.row i a before in k.drawn.occupied i t.0 t.1)
          (λ (from : place.result ≤ i). r.row i from (omega arith))
          (cases_lt i place.result))
          (cases_lt i add.high))
          (cases_lt i (c.args.home + 1));
      reach =
          let base : ℕ = front.result.start - 1 in
          let top : ℕ = suc (max (max (c.args.home + 1) r.high) add.high) in
          onward (g.A.ReadWords.reached c.args.access.now) (g.A.ReadWords.reached has.new.access) (g.A.ReadWords.reached c.add_key.new.access) c.args.sizes.now base top
          (onward (g.A.ReadWords.reached c.args.access.now) (g.A.ReadWords.reached place.new.access) (g.A.ReadWords.reached has.new.access) c.args.sizes.now base top
          (onward (g.A.ReadWords.reached c.args.access.now) (g.A.ReadWords.reached front.new.access) (g.A.ReadWords.reached place.new.access) c.args.sizes.now base top
          (onward (g.A.ReadWords.reached c.args.access.now) (g.A.ReadWords.reached here.new.access) (g.A.ReadWords.reached front.new.access) c.args.sizes.now base top
          (widen (g.A.ReadWords.reached c.args.access.now) (g.A.ReadWords.reached here.new.access) c.args.sizes.now c.args.home (suc c.args.home) base top (omega arith) (omega arith) here.ensures.near)
          (widen (g.A.ReadWords.reached here.new.access) (g.A.ReadWords.reached front.new.access) c.args.sizes.now (front.result.start - 1) c.args.home base top (omega arith) (omega arith) front.ensures.near))
          (widen (g.A.ReadWords.reached front.new.access) (g.A.ReadWords.reached place.new.access) c.args.sizes.now front.result.from place.result base top (omega arith) (omega arith) place.ensures.near))
          (widen (g.A.ReadWords.reached place.new.access) (g.A.ReadWords.reached has.new.access) c.args.sizes.now place.result r.high base top (omega arith) (omega arith) r.reach))
          (widen (g.A.ReadWords.reached has.new.access) (g.A.ReadWords.reached c.add_key.new.access) c.args.sizes.now (front.result.start - 1) (suc add.high) base top (omega arith) (omega arith) add.reach);
    }
