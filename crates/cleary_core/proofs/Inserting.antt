-- A key put into its place, and the keys between there and a free cell moved by one.
use Rattle.std.proofs.Common.{◌≡◌, ◌≢◌, ◌⊎◌, ℕ, suc, ◌+◌, ◌-◌, ◌<◌, ◌≤◌, min, Bool, true, false, eqb, cond, List, ◌∷◌, Some, None, refl, sym, ap, ◌∙◌, subst, inl, inr, ⊎_elim, arith}
use Rattle.std.proofs.lemmas.Bool.{cases_lt, eq-eqb, ne_eqb}
use Rattle.cleary_core.specs.declared.cells.Cell.{Cell}
use Rattle.cleary_core.specs.Cells.{carried}
use Rattle.cleary_core.specs.Map.{Key, Has, Slots, Taken, Laid, Drawn, Holds, Keeps, empty_cell, occupied_count}
use Rattle.cleary_core.specs.Search.{Splits}
use Rattle.cleary_core.specs.Answers.{new_key}
use Rattle.cleary_core.proofs.Slots.{cases_same, cases_bool, cases_le, none_some, same_key, clash, home_inside, taken_of, virgin_taken, count_more}

-- cell j gets the key of cell `from j`; `place` gets the new one, and the cells moved lie from `low` up to `high`
pub record Moves (n low high split place free : ℕ) (from : ℕ → ℕ) : Type 0 where
  pub inside : (place < n) × (free < n)
  pub row : (low ≤ place) × (place < high) × (low ≤ free) × (free < high)
  pub up : (j : ℕ) → j ≤ suc (from j)
  pub down : (j : ℕ) → from j ≤ suc j
  pub mono : (i j : ℕ) → i < j → i ≢ place → j ≢ place → from i < from j
  pub below : (j : ℕ) → j < place → from j < split
  pub above : (j : ℕ) → place < j → split ≤ from j
  pub misses : (j : ℕ) → j ≢ place → from j ≢ free
  pub onto : (i : ℕ) → i ≢ free → (j : ℕ) × (j ≢ place) × (from j ≡ i)
  pub past : (j : ℕ) → from j < n → j < n
  pub within : (j : ℕ) → j < n → j ≢ place → from j < n
  pub range : (j : ℕ) → j ≢ place → from j ≢ j → (low ≤ j) × (j < high) × (low ≤ from j) × (from j < high)

-- what the cells are afterwards
pub record Inserted (n : ℕ) (old new : ℕ → Cell) (from : ℕ → ℕ) (place home quotient : ℕ) (fresh : Bool) : Type 0 where
  pub occupied : (new place).occupied ≡ true
  pub change : (new place).change ≡ fresh
  pub flags : (new place).flags ≡ 0
  pub quotient_is : (new place).quotient ≡ quotient
  pub moved : (j : ℕ) → j < n → j ≢ place → new j ≡ carried (new j).virgin (old (from j))
  pub marked : (new home).virgin ≡ true
  pub others : (j : ℕ) → j < n → j ≢ home → (new j).virgin ≡ (old j).virgin

module _ (n : ℕ) (ps : Slots) (laid : Laid n ps) (home quotient : ℕ) (low high split place free : ℕ) (from : ℕ → ℕ) (moves : Moves n low high split place free from)
    (splits : Splits ps split home) (empty : ps free ≡ None) (row : (i : ℕ) → low ≤ i → i < high → i ≢ free → Taken ps i) (span : (low ≤ home) × (home < high))
    (absent : (i : ℕ) (k : Key) → ps i ≡ Some k → k.home ≡ home → k.quotient ≡ quotient → ⊥) where
  key : Key
  key = new_key home quotient

  pub ns : Slots
  ns j = cond (eqb j place) (Some (new_key home quotient)) (ps (from j))

  ns_here : ns place ≡ Some (new_key home quotient)
  unfolding ns
  ns_here = ap (λ b. cond b (Some (new_key home quotient)) (ps (from place))) (eq-eqb place place refl)

  ns_else : (j : ℕ) → j ≢ place → ns j ≡ ps (from j)
  unfolding ns
  ns_else j h = ap (λ b. cond b (Some (new_key home quotient)) (ps (from j))) (ne_eqb j place h)

  of_ns : (j : ℕ) (k : Key) → ns j ≡ Some k → ((j ≡ place) × (k ≡ new_key home quotient)) ⊎ ((j ≢ place) × (ps (from j) ≡ Some k))
  of_ns j k e = ⊎_elim
      (λ (same : j ≡ place). inl (same, same_key (ns j) k (new_key home quotient) e (ap (λ m. ns m) same ∙ ns_here)))
      (λ (ne : j ≢ place). inr (ne, sym (ns_else j ne) ∙ e))
      (cases_same j place)

  -- a key that stood somewhere stands somewhere
  still : (i : ℕ) (k : Key) → ps i ≡ Some k → (j : ℕ) × (j ≢ place) × (from j ≡ i) × (ns j ≡ Some k)
  still i k e =
      let o = moves.onto i (λ (same : i ≡ free). none_some (ps i) k (ap ps same ∙ empty) e) in
      (o.0, o.1, o.2, ns_else o.0 o.1 ∙ ap ps o.2 ∙ e)

  taken_else : (j : ℕ) → j ≢ place → Taken ps (from j) → Taken ns j
  taken_else j ne t = (t.0, ns_else j ne ∙ t.1)

  taken_free : Taken ns free
  taken_free = ⊎_elim
      (λ (same : free ≡ place). let t : Taken ns free = (new_key home quotient, ap (λ m. ns m) same ∙ ns_here) in t)
      (λ (ne : free ≢ place). let r = moves.range free ne (moves.misses free ne) in taken_else free ne (row (from free) r.2 r.3 (moves.misses free ne)))
      (cases_same free place)

  taken_ns : (j : ℕ) → Taken ps j → Taken ns j
  taken_ns j t = ⊎_elim
      (λ (same : j ≡ place). let t : Taken ns j = (new_key home quotient, ap (λ m. ns m) same ∙ ns_here) in t)
      (λ (ne : j ≢ place). ⊎_elim
      (λ (stays : from j ≡ j). taken_else j ne (t.0, ap ps stays ∙ t.1))
      (λ (goes : from j ≢ j). let r = moves.range j ne goes in taken_else j ne (row (from j) r.2 r.3 (moves.misses j ne)))
      (cases_same (from j) j))
      (cases_same j place)

  taken_row : (j : ℕ) → low ≤ j → j < high → Taken ns j
  taken_row j a b = ⊎_elim
      (λ (same : j ≡ free). subst (λ (m : ℕ). Taken ns m) (sym same) taken_free)
      (λ (ne : j ≢ free). taken_ns j (row j a b ne))
      (cases_same j free)

  -- nothing else is new
  was_taken : (j : ℕ) → j ≢ free → Taken ns j → Taken ps j
  was_taken j other t = ⊎_elim
      (λ (same : j ≡ place). row j (omega (arith, moves.row.0)) (omega (arith, moves.row.1)) other)
      (λ (ne : j ≢ place). ⊎_elim
      (λ (stays : from j ≡ j). let u : Taken ps j = (t.0, sym (ap ps stays) ∙ sym (ns_else j ne) ∙ t.1) in u)
      (λ (goes : from j ≢ j). let r = moves.range j ne goes in row j r.0 r.1 other)
      (cases_same (from j) j))
      (cases_same j place)

  -- the order of two moved keys
  back : (i j : ℕ) → i ≢ place → j ≢ place → from i < from j → i < j
  back i j a b h = ⊎_elim
      (λ (less : i < j). less)
      (λ (up : j ≤ i). ⊎_elim
      (λ (more : j < i). let m = moves.mono j i more b a in absurd (omega arith))
      (λ (both : i ≤ j). let e : from i ≡ from j = ap from (omega arith) in absurd (omega arith))
      (cases_lt j i))
      (cases_lt i j)

  one_from : (i j : ℕ) → i ≢ place → j ≢ place → from i ≡ from j → i ≡ j
  one_from i j a b e = ⊎_elim
      (λ (less : i < j). let m = moves.mono i j less a b in absurd (omega arith))
      (λ (up : j ≤ i). ⊎_elim
      (λ (more : j < i). let m = moves.mono j i more b a in absurd (omega arith))
      (λ (both : i ≤ j). omega arith)
      (cases_lt j i))
      (cases_lt i j)

  not_place : (j : ℕ) → j ≢ place → (j < place) ⊎ (place < j)
  not_place j ne = ⊎_elim (λ (a : j < place). inl a) (λ (b : place ≤ j). inr (omega arith)) (cases_lt j place)

  pub laid_after : Laid n ns
  laid_after = record {
    past = λ i k e. ⊎_elim
        (λ (new : (i ≡ place) × (k ≡ new_key home quotient)). omega (arith, moves.inside.0, new.0))
        (λ (old : (i ≢ place) × (ps (from i) ≡ Some k)). moves.past i (laid.past (from i) k old.1))
        (of_ns i k e);
    once = λ i j k l e f h q. ⊎_elim
        (λ (a : (i ≡ place) × (k ≡ new_key home quotient)). ⊎_elim
        (λ (b : (j ≡ place) × (l ≡ new_key home quotient)). a.0 ∙ sym b.0)
        (λ (b : (j ≢ place) × (ps (from j) ≡ Some l)). absurd (absent (from j) l b.1 (sym h ∙ ap (λ (x : Key). x.home) a.1) (sym q ∙ ap (λ (x : Key). x.quotient) a.1)))
        (of_ns j l f))
        (λ (a : (i ≢ place) × (ps (from i) ≡ Some k)). ⊎_elim
        (λ (b : (j ≡ place) × (l ≡ new_key home quotient)). absurd (absent (from i) k a.1 (h ∙ ap (λ (x : Key). x.home) b.1) (q ∙ ap (λ (x : Key). x.quotient) b.1)))
        (λ (b : (j ≢ place) × (ps (from j) ≡ Some l)). one_from i j a.0 b.0 (laid.once (from i) (from j) k l a.1 b.1 h q))
        (of_ns j l f))
        (of_ns i k e);
    rising = λ i j k l h e f. ⊎_elim
        (λ (a : (i ≡ place) × (k ≡ new_key home quotient)). ⊎_elim
        (λ (b : (j ≡ place) × (l ≡ new_key home quotient)). absurd (omega (arith, a.0, b.0)))
        (λ (b : (j ≢ place) × (ps (from j) ≡ Some l)). let s = splits.after (from j) l (moves.above j (omega (arith, a.0))) b.1 in let d : k.home ≡ home = ap (λ (x : Key). x.home) a.1 in omega arith)
        (of_ns j l f))
        (λ (a : (i ≢ place) × (ps (from i) ≡ Some k)). ⊎_elim
        (λ (b : (j ≡ place) × (l ≡ new_key home quotient)). let s = splits.before (from i) k (moves.below i (omega (arith, b.0))) a.1 in let d : l.home ≡ home = ap (λ (x : Key). x.home) b.1 in omega arith)
        (λ (b : (j ≢ place) × (ps (from j) ≡ Some l)). laid.rising (from i) (from j) k l (moves.mono i j h a.0 b.0) a.1 b.1)
        (of_ns j l f))
        (of_ns i k e);
    run_up = λ i j k e a b. ⊎_elim
        (λ (new : (i ≡ place) × (k ≡ new_key home quotient)). let d : k.home ≡ home = ap (λ (x : Key). x.home) new.1 in taken_row j (omega (arith, span.0)) (omega (arith, moves.row.1, new.0)))
        (λ (old : (i ≢ place) × (ps (from i) ≡ Some k)). ⊎_elim
        (λ (near : j ≤ from i). taken_ns j (laid.run_up (from i) j k old.1 a near))
        (λ (far : from i < j). let same : i ≡ j = omega (arith, moves.up i) in subst (λ (m : ℕ). Taken ns m) same (k, e))
        (cases_le j (from i)))
        (of_ns i k e);
    run_down = λ i j k e a b. ⊎_elim
        (λ (new : (i ≡ place) × (k ≡ new_key home quotient)). let d : k.home ≡ home = ap (λ (x : Key). x.home) new.1 in taken_row j (omega (arith, moves.row.0, new.0)) (omega (arith, span.1)))
        (λ (old : (i ≢ place) × (ps (from i) ≡ Some k)). ⊎_elim
        (λ (far : j < from i). let same : i ≡ j = omega (arith, moves.down i) in subst (λ (m : ℕ). Taken ns m) same (k, e))
        (λ (near : from i ≤ j). taken_ns j (laid.run_down (from i) j k old.1 near b))
        (cases_lt j (from i)))
        (of_ns i k e);
  }

  module _ (old new : ℕ → Cell) (drawn : Drawn n old ps) (fresh : Bool) (done : Inserted n old new from place home quotient fresh)
      (fresh_if : fresh ≡ true → (old home).virgin ≡ false) (if_fresh : (old home).virgin ≡ false → fresh ≡ true) where
    -- what a moved key's cell shows
    moved_at : (i : ℕ) (k : Key) → i ≢ place → ps (from i) ≡ Some k → new i ≡ carried (new i).virgin (old (from i))
    moved_at i k ne e = done.moved i (moves.past i (laid.past (from i) k e)) ne

    home_is_inside : home < n
    home_is_inside = let t = taken_row home span.0 span.1 in laid_after.past home t.0 t.1

    -- a key of that home stands after the new one
    same_home_after : (j : ℕ) (k : Key) → j ≢ place → ps (from j) ≡ Some k → k.home ≡ home → place < j
    same_home_after j k ne e h = ⊎_elim
        (λ (less : j < place). let s = splits.before (from j) k (moves.below j less) e in absurd (omega arith))
        (λ (more : place < j). more)
        (not_place j ne)

    shows_empty : (i : ℕ) → i < n → ns i ≡ None → new i ≡ empty_cell
    shows_empty i h e =
        let ne : i ≢ place = (λ same. none_some (ns i) (new_key home quotient) e (ap (λ m. ns m) same ∙ ns_here)) in
        let away : i ≢ home = (λ same. let t = taken_row home span.0 span.1 in none_some (ns i) t.0 e (ap (λ m. ns m) same ∙ t.1)) in
        let was : ps (from i) ≡ None = sym (ns_else i ne) ∙ e in
        let v : (new i).virgin ≡ false = done.others i h away ∙ ⊎_elim
        (λ (t : (old i).virgin ≡ true). let u = taken_ns i (virgin_taken n ps laid old drawn i h t) in absurd (none_some (ns i) u.0 e u.1))
        (λ (f : (old i).virgin ≡ false). f)
        (cases_bool (old i).virgin) in
        done.moved i h ne ∙ ap (λ c. carried (new i).virgin c) (drawn.empty (from i) (moves.within i h ne) was) ∙ ap (λ b. carried b empty_cell) v

    drawn_after : Drawn n new ns
    drawn_after = record {
      empty = shows_empty;
      occupied = λ i k e. ⊎_elim
          (λ (a : (i ≡ place) × (k ≡ new_key home quotient)). ap (λ m. (new m).occupied) a.0 ∙ done.occupied)
          (λ (a : (i ≢ place) × (ps (from i) ≡ Some k)). ap (λ (c : Cell). c.occupied) (moved_at i k a.0 a.1) ∙ drawn.occupied (from i) k a.1)
          (of_ns i k e);
      quotient = λ i k e. ⊎_elim
          (λ (a : (i ≡ place) × (k ≡ new_key home quotient)). ap (λ m. (new m).quotient) a.0 ∙ done.quotient_is ∙ sym (ap (λ (x : Key). x.quotient) a.1))
          (λ (a : (i ≢ place) × (ps (from i) ≡ Some k)). ap (λ (c : Cell). c.quotient) (moved_at i k a.0 a.1) ∙ drawn.quotient (from i) k a.1)
          (of_ns i k e);
      flags = λ i k e. ⊎_elim
          (λ (a : (i ≡ place) × (k ≡ new_key home quotient)). ap (λ m. (new m).flags) a.0 ∙ done.flags ∙ sym (ap (λ (x : Key). x.flags) a.1))
          (λ (a : (i ≢ place) × (ps (from i) ≡ Some k)). ap (λ (c : Cell). c.flags) (moved_at i k a.0 a.1) ∙ drawn.flags (from i) k a.1)
          (of_ns i k e);
      virgin = λ i h t. ⊎_elim
          (λ (same : i ≡ home). let x : (j : ℕ) × (k : Key) × (ns j ≡ Some k) × (k.home ≡ i) = (place, new_key home quotient, ns_here, sym same) in x)
          (λ (ne : i ≢ home). let v = drawn.virgin i h (sym (done.others i h ne) ∙ t) in let s = still v.0 v.1 v.2 in
          let x : (j : ℕ) × (k : Key) × (ns j ≡ Some k) × (k.home ≡ i) = (s.0, v.1, s.3, v.3) in x)
          (cases_same i home);
      home = λ j k e. ⊎_elim
          (λ (a : (j ≡ place) × (k ≡ new_key home quotient)). ap (λ (x : Key). (new x.home).virgin) a.1 ∙ done.marked)
          (λ (a : (j ≢ place) × (ps (from j) ≡ Some k)). ⊎_elim
          (λ (same : k.home ≡ home). ap (λ m. (new m).virgin) same ∙ done.marked)
          (λ (ne : k.home ≢ home). done.others k.home (home_inside n ps laid (from j) k a.1) ne ∙ drawn.home (from j) k a.1)
          (cases_same k.home home))
          (of_ns j k e);
      change = λ i k e t. ⊎_elim
          (λ (a : (i ≡ place) × (k ≡ new_key home quotient)). λ j l h f same. ⊎_elim
          (λ (b : (j ≡ place) × (l ≡ new_key home quotient)). absurd (omega (arith, a.0, b.0)))
          (λ (b : (j ≢ place) × (ps (from j) ≡ Some l)).
          let none = fresh_if (sym done.change ∙ ap (λ m. (new m).change) (sym a.0) ∙ t) in
          clash (old home).virgin none (ap (λ m. (old m).virgin) (sym (same ∙ ap (λ (x : Key). x.home) a.1)) ∙ drawn.home (from j) l b.1))
          (of_ns j l f))
          (λ (a : (i ≢ place) × (ps (from i) ≡ Some k)). λ j l h f same. ⊎_elim
          (λ (b : (j ≡ place) × (l ≡ new_key home quotient)).
          let s = splits.before (from i) k (moves.below i (omega (arith, b.0))) a.1 in
          let d : l.home ≡ home = ap (λ (x : Key). x.home) b.1 in absurd (omega arith))
          (λ (b : (j ≢ place) × (ps (from j) ≡ Some l)).
          drawn.change (from i) k a.1 (sym (ap (λ (c : Cell). c.change) (moved_at i k a.0 a.1)) ∙ t) (from j) l (moves.mono i j h a.0 b.0) b.1 same)
          (of_ns j l f))
          (of_ns i k e);
      last = λ i k e none. ⊎_elim
          (λ (a : (i ≡ place) × (k ≡ new_key home quotient)). ap (λ m. (new m).change) a.0 ∙ done.change ∙ if_fresh (⊎_elim
          (λ (t : (old home).virgin ≡ true).
          let v = drawn.virgin home home_is_inside t in
          let s = still v.0 v.1 v.2 in
          let after = same_home_after s.0 v.1 s.1 (ap ps s.2 ∙ v.2) v.3 in
          absurd (none s.0 v.1 (omega (arith, a.0)) s.3 (v.3 ∙ sym (ap (λ (x : Key). x.home) a.1))))
          (λ (f : (old home).virgin ≡ false). f)
          (cases_bool (old home).virgin)))
          (λ (a : (i ≢ place) × (ps (from i) ≡ Some k)). ap (λ (c : Cell). c.change) (moved_at i k a.0 a.1) ∙ drawn.last (from i) k a.1
          (λ j l h f same. let s = still j l f in none s.0 l (back i s.0 a.0 s.1 (omega (arith, s.2))) s.3 same))
          (of_ns i k e);
    }

    count_after : occupied_count new n ≡ suc (occupied_count old n)
    count_after =
        count_more old new free n moves.inside.1 (ap (λ (c : Cell). c.occupied) (drawn.empty free moves.inside.1 empty)) (drawn_after.occupied free taken_free.0 taken_free.1)
        (λ i h ne. ⊎_elim
        (λ (t : (old i).occupied ≡ true). let u = taken_ns i (taken_of n ps laid old drawn i h t) in drawn_after.occupied i u.0 u.1 ∙ sym t)
        (λ (f : (old i).occupied ≡ false). ⊎_elim
        (λ (t : (new i).occupied ≡ true). let u = was_taken i ne (taken_of n ns laid_after new drawn_after i h t) in absurd (clash (old i).occupied f (drawn.occupied i u.0 u.1)))
        (λ (g : (new i).occupied ≡ false). g ∙ sym f)
        (cases_bool (new i).occupied))
        (cases_bool (old i).occupied))

    pub keeps_after : (keys : List Key) → Holds n old ps keys → Keeps n new (new_key home quotient ∷ keys)
    keeps_after keys holds = record {
      slots = ns;
      laid = laid_after;
      drawn = drawn_after;
      holds = record {
        map = (λ l has same q. let a = holds.all l has in absent a.0 l a.1 same q, holds.map);
        number = count_after ∙ ap suc holds.number;
        all = λ k has. ⊎_elim
            (λ (same : k ≡ new_key home quotient). let x : (i : ℕ) × (ns i ≡ Some k) = (place, ns_here ∙ ap (λ y. Some y) (sym same)) in x)
            (λ (old_one : Has k keys). let a = holds.all k old_one in let s = still a.0 k a.1 in let x : (i : ℕ) × (ns i ≡ Some k) = (s.0, s.3) in x)
            has;
        only = λ i k e. ⊎_elim
            (λ (a : (i ≡ place) × (k ≡ new_key home quotient)). inl a.1)
            (λ (a : (i ≢ place) × (ps (from i) ≡ Some k)). inr (holds.only (from i) k a.1))
            (of_ns i k e);
      };
    }

-- the three ways to move: nothing moves, up to a free cell on the right, down to one on the left
abbrev pub stays : ℕ → ℕ
stays j = j

abbrev pub from_left : ℕ → ℕ → ℕ → ℕ
from_left place free j = (j - min 1 (j - place)) + min 1 (j - free)

abbrev pub from_right : ℕ → ℕ → ℕ → ℕ
from_right free place j = (j + min 1 (suc j - free)) - min 1 (suc j - place)

pub moves_none : (n home : ℕ) → home < n → Moves n home (suc home) home home home stays
moves_none n home h = record {
  inside = (h, h);
  row = (omega arith, omega arith, omega arith, omega arith);
  up = λ j. omega arith;
  down = λ j. omega arith;
  mono = λ i j k a b. k;
  below = λ j k. k;
  above = λ j k. omega arith;
  misses = λ j a. a;
  onto = λ i a. (i, a, refl);
  past = λ j k. k;
  within = λ j k a. k;
  range = λ j a b. absurd (b refl);
}

pub moves_right : (n low place free : ℕ) → low ≤ place → place ≤ free → free < n → Moves n low (suc free) place place free (from_left place free)
moves_right n low place free a b h = record {
  inside = (omega arith, h);
  row = (a, omega arith, omega arith, omega arith);
  up = λ j. omega arith;
  down = λ j. omega arith;
  mono = λ i j k x y. omega arith;
  below = λ j k. omega arith;
  above = λ j k. omega arith;
  misses = λ j x. λ e. omega arith;
  onto = λ i x. ⊎_elim
      (λ (less : i < place). (i, (λ e. omega arith), omega arith))
      (λ (from : place ≤ i). ⊎_elim
      (λ (below : i < free). (suc i, (λ e. omega arith), omega arith))
      (λ (above : free ≤ i). (i, (λ e. omega arith), omega arith))
      (cases_lt i free))
      (cases_lt i place);
  past = λ j k. omega arith;
  within = λ j k x. omega arith;
  range = λ j x y. (omega arith, omega arith, omega arith, omega arith);
}

pub moves_left : (n free place high : ℕ) → free ≤ place → place < high → high ≤ n → Moves n free high (suc place) place free (from_right free place)
moves_left n free place high a b h = record {
  inside = (omega arith, omega arith);
  row = (a, b, omega arith, omega arith);
  up = λ j. omega arith;
  down = λ j. omega arith;
  mono = λ i j k x y. omega arith;
  below = λ j k. omega arith;
  above = λ j k. omega arith;
  misses = λ j x. λ e. omega arith;
  onto = λ i x. ⊎_elim
      (λ (less : i < free). (i, (λ e. omega arith), omega arith))
      (λ (from : free ≤ i). ⊎_elim
      (λ (above : place < i). (i, (λ e. omega arith), omega arith))
      (λ (below : i ≤ place). (i - 1, (λ e. omega arith), omega arith))
      (cases_lt place i))
      (cases_lt i free);
  past = λ j k. omega arith;
  within = λ j k x. omega arith;
  range = λ j x y. (omega arith, omega arith, omega arith, omega arith);
}
