-- What `insert` answers.
use Rattle.std.proofs.Common.{◌≡◌, ◌≢◌, ℕ, suc, ◌-◌, ◌<◌, ◌≤◌, max, ◌+◌, Bool, true, false, not, List, ◌∷◌, length, Some, None, refl, sym, ap, ◌∙◌, subst, inl, inr, ⊎_elim, arith}
use Rattle.std.proofs.lemmas.Bool.{cases_lt, not-true}
use Rattle.cleary_core.specs.declared.cells.Cell.{Cell}
use Rattle.cleary_core.specs.Cells.{carried}
use Rattle.cleary_core.specs.Map.{Key, Taken, Keeps}
use Rattle.cleary_core.specs.Search.{InRun, RunEnd, Splits, Placed, Row}
use Rattle.cleary_core.specs.Answers.{Present, new_key}
use Rattle.cleary_core.specs.Change.{InOneRun, Put, ShiftedUp, ShiftedDown}
use Rattle.cleary_core.proofs.Placing.{not_virgin}
use Rattle.cleary_core.proofs.Slots.{cases_same, none_some, taken_of, none_of, count_full}
use Rattle.cleary_core.proofs.Inserting.{Inserted, keeps_after, stays, from_left, from_right, moves_none, moves_right, moves_left}

inserted_by : (n : ℕ) (old mid new : ℕ → Cell) (from : ℕ → ℕ) (place home quotient : ℕ) (fresh : Bool) → ((j : ℕ) → j ≢ place → mid j ≡ carried (old j).virgin (old (from j))) → (mid place).virgin ≡ (old place).virgin
    → Put mid new place home quotient fresh → Inserted n old new from place home quotient fresh
inserted_by n old mid new from place home quotient fresh shift virgin put = record {
  occupied = ap (λ (c : Cell). c.occupied) put.here;
  change = ap (λ (c : Cell). c.change) put.here;
  flags = ap (λ (c : Cell). c.flags) put.here;
  quotient_is = ap (λ (c : Cell). c.quotient) put.here;
  moved = λ j h ne. put.others j ne ∙ ap (λ c. carried (new j).virgin c) (shift j ne);
  marked = put.marked;
  others = λ j h ne. put.unmarked j ne ∙ ⊎_elim
      (λ (same : j ≡ place). subst (λ (m : ℕ). (mid m).virgin ≡ (old m).virgin) (sym same) virgin)
      (λ (else : j ≢ place). ap (λ (c : Cell). c.virgin) (shift j else))
      (cases_same j place);
}

up_at : (old mid : ℕ → Cell) (place free : ℕ) → ShiftedUp old mid place free → place ≤ free → (j : ℕ) → j ≢ place → mid j ≡ carried (old j).virgin (old (from_left place free j))
up_at old mid place free s le j ne = ⊎_elim
    (λ (less : j < place). s.below j (omega arith) ∙ ap (λ m. carried (old j).virgin (old m)) (omega arith))
    (λ (from : place ≤ j). ⊎_elim
    (λ (past : free < j). s.above j past ∙ ap (λ m. carried (old j).virgin (old m)) (omega arith))
    (λ (within : j ≤ free). subst (λ (m : ℕ). mid m ≡ carried (old m).virgin (old (j - 1))) (omega arith) (s.moved (j - 1) (omega arith) (omega arith)) ∙ ap (λ m. carried (old j).virgin (old m)) (omega arith))
    (cases_lt free j))
    (cases_lt j place)

down_at : (old mid : ℕ → Cell) (free place : ℕ) → ShiftedDown old mid free place → free ≤ place → (j : ℕ) → j ≢ place → mid j ≡ carried (old j).virgin (old (from_right free place j))
down_at old mid free place s le j ne = ⊎_elim
    (λ (less : j < free). s.below j less ∙ ap (λ m. carried (old j).virgin (old m)) (omega arith))
    (λ (from : free ≤ j). ⊎_elim
    (λ (within : j < place). s.moved j from within ∙ ap (λ m. carried (old j).virgin (old m)) (omega arith))
    (λ (past : place ≤ j). s.above j past ∙ ap (λ m. carried (old j).virgin (old m)) (omega arith))
    (cases_lt j place))
    (cases_lt j free)

module _ (n : ℕ) (old : ℕ → Cell) (keys : List Key) (kept : Keeps n old keys) (home quotient : ℕ) (inside : home < n) (new_one : Present keys home quotient → ⊥) where
  absent : (i : ℕ) (k : Key) → kept.slots i ≡ Some k → k.home ≡ home → k.quotient ≡ quotient → ⊥
  absent i k e h q = new_one (k, kept.holds.only i k e, h, q)

  taken : (i : ℕ) → i < n → (old i).occupied ≡ true → Taken kept.slots i
  taken i h t = taken_of n kept.slots kept.laid old kept.drawn i h t

  none : (i : ℕ) → (old i).occupied ≡ false → kept.slots i ≡ None
  none i f = none_of n kept.slots kept.laid old kept.drawn i f

  splits_empty : (old home).occupied ≡ false → Splits kept.slots home home
  splits_empty f = record {
    before = λ j k h e. ⊎_elim
        (λ (less : k.home < home). less)
        (λ (from : home ≤ k.home). let t = kept.laid.run_down j home k e (omega arith) from in absurd (none_some (kept.slots home) t.0 (none home f) t.1))
        (cases_lt k.home home);
    after = λ j k h e. ⊎_elim
        (λ (less : k.home < home). let t = kept.laid.run_up j home k e (omega arith) h in absurd (none_some (kept.slots home) t.0 (none home f) t.1))
        (λ (from : home ≤ k.home). from)
        (cases_lt k.home home);
  }

  pub keeps_still : (new : ℕ → Cell) → (old home).occupied ≡ false → Put old new home home quotient true → Keeps n new (new_key home quotient ∷ keys)
  keeps_still new f put =
      keeps_after n kept.slots kept.laid home quotient home (suc home) home home home stays (moves_none n home inside) (splits_empty f) (none home f)
      (λ i a b ne. absurd (omega arith)) (omega arith, omega arith) absent old new kept.drawn true
      (inserted_by n old old new stays home home quotient true (λ j ne. refl) refl put)
      (λ t. ap (λ (c : Cell). c.virgin) (kept.drawn.empty home inside (none home f))) (λ v. refl) keys kept.holds

  -- the run's keys stand from `start` to `end`
  module _ (start at end : ℕ) (low : start ≤ home) (front : Row old start (suc home)) (bounds : (home ≤ end) × (end ≤ n)) (back : Row old home end) (placed : Placed n kept.slots start at home) where
    run : (i : ℕ) → start ≤ i → i < end → Taken kept.slots i
    run i a b = ⊎_elim
        (λ (less : i < home). taken i (omega arith) (front i a (omega arith)))
        (λ (from : home ≤ i). taken i (omega (arith, bounds.1)) (back i from b))
        (cases_lt i home)

    pub at_least : start ≤ at
    at_least = placed.from

    pub at_inside : at ≤ n
    at_inside = ⊎_elim
        (λ (less : start < at). let t = placed.row (at - 1) (omega arith) (omega arith) in let p = kept.laid.past (at - 1) t.0 t.1 in omega arith)
        (λ (from : at ≤ start). omega arith)
        (cases_lt start at)

    pub at_most : (old end).occupied ≡ false → at ≤ end
    at_most f = ⊎_elim
        (λ (less : end < at). let t = placed.row end (omega (arith, bounds.0)) less in absurd (none_some (kept.slots end) t.0 (none end f) t.1))
        (λ (from : at ≤ end). from)
        (cases_lt end at)

    pub keeps_up : (mid new : ℕ → Cell) → end < n → (old end).occupied ≡ false → ShiftedUp old mid at end → Put mid new at home quotient (not (old home).virgin) → Keeps n new (new_key home quotient ∷ keys)
    keeps_up mid new room f shift put =
        let le : at ≤ end = at_most f in
        keeps_after n kept.slots kept.laid home quotient start (suc end) at at end (from_left at end) (moves_right n start at end placed.from le room) placed.splits (none end f)
        (λ i a b ne. run i a (omega arith)) (low, omega (arith, bounds.0)) absent old new kept.drawn (not (old home).virgin)
        (inserted_by n old mid new (from_left at end) at home quotient (not (old home).virgin) (up_at old mid at end shift le) (ap (λ (c : Cell). c.virgin) (shift.below at (omega arith))) put)
        (λ t. not-true (old home).virgin t) (λ v. ap not v) keys kept.holds

    pub keeps_down : (mid new : ℕ → Cell) → n ≤ end → 0 < start → (old (start - 1)).occupied ≡ false → ShiftedDown old mid (start - 1) (at - 1) → Put mid new (at - 1) home quotient (not (old home).virgin)
        → Keeps n new (new_key home quotient ∷ keys)
    keeps_down mid new over some f shift put =
        let from : start ≤ at = placed.from in
        let in_cells : at ≤ n = at_inside in
        let le : start - 1 ≤ at - 1 = omega arith in
        keeps_after n kept.slots kept.laid home quotient (start - 1) n (suc (at - 1)) (at - 1) (start - 1) (from_right (start - 1) (at - 1)) (moves_left n (start - 1) (at - 1) n le (omega arith) (omega arith))
        (subst (λ (m : ℕ). Splits kept.slots m home) (omega arith) placed.splits) (none (start - 1) f)
        (λ i a b ne. run i (omega arith) (omega arith)) (omega arith, inside) absent old new kept.drawn (not (old home).virgin)
        (inserted_by n old mid new (from_right (start - 1) (at - 1)) (at - 1) home quotient (not (old home).virgin) (down_at old mid (start - 1) (at - 1) shift le) (ap (λ (c : Cell). c.virgin) (shift.above (at - 1) (omega arith))) put)
        (λ t. not-true (old home).virgin t) (λ v. ap not v) keys kept.holds

    pub full : n ≤ end → start ≤ 0 → length keys ≡ n
    full over none_left = sym kept.holds.number ∙ count_full old n (λ i h. let t = run i (omega arith) (omega arith) in kept.drawn.occupied i t.0 t.1)

-- the run goes on from its home to where it ends
pub row_on : (n : ℕ) (cells : ℕ → Cell) (keys : List Key) (k : Keeps n cells keys) (start place home from end : ℕ) → InRun n cells k.slots start home → Placed n k.slots start place home → from ≡ max place (home + 1) → RunEnd n cells from end → Row cells home end
row_on n cells keys k start place home from end run placed e stop = λ i a b. ⊎_elim
    (λ (same : i ≡ home). run.row i (omega (arith, run.inside)) (omega arith))
    (λ (ne : i ≢ home). ⊎_elim
    (λ (less : i < from). let t = placed.row i (omega (arith, run.inside)) (omega arith) in k.drawn.occupied i t.0 t.1)
    (λ (past : from ≤ i). stop.row i past b)
    (cases_lt i from))
    (cases_same i home)

-- an empty cell is the home of no key
pub none_at : (n : ℕ) (cells : ℕ → Cell) (keys : List Key) (k : Keeps n cells keys) (home quotient : ℕ) → home < n → (cells home).occupied ≡ false → Present keys home quotient → ⊥
none_at n cells keys k home quotient inside f = not_virgin n cells keys k home quotient (ap (λ (c : Cell). c.virgin) (k.drawn.empty home inside (none_of n k.slots k.laid cells k.drawn home f)))

-- a cell that only its virgin mark could tell from another is this one where the marks are the same
same_mark : (a b : Cell) → a ≡ carried a.virgin b → a.virgin ≡ b.virgin → a ≡ b
same_mark a b e v = e ∙ ap (λ m. carried m b) v

-- a cell away from the place and the home, put or moved
same_off : (mid new : ℕ → Cell) (place home quotient : ℕ) (fresh : Bool) → Put mid new place home quotient fresh → (j : ℕ) → j ≢ place → j ≢ home → new j ≡ mid j
same_off mid new place home quotient fresh put j a b = same_mark (new j) (mid j) (put.others j a) (put.unmarked j b)

-- a moved cell is occupied where its key's cell was
occupied_from : (old mid new : ℕ → Cell) (place home quotient j from : ℕ) (fresh v : Bool) → Put mid new place home quotient fresh → j ≢ place → mid j ≡ carried v (old from) → (old from).occupied ≡ true → (new j).occupied ≡ true
occupied_from old mid new place home quotient j from fresh v put ne e t = ap (λ (c : Cell). c.occupied) (put.others j ne) ∙ ap (λ (c : Cell). c.occupied) e ∙ t

pub near_alone : (n : ℕ) (old new : ℕ → Cell) (home quotient : ℕ) → home < n → Put old new home home quotient true → InOneRun n old new home
near_alone n old new home quotient inside put = record {
  low = home;
  high = suc home;
  span = (omega arith, omega arith, inside);
  row = λ i a b. ap (λ m. (new m).occupied) (omega arith) ∙ ap (λ (c : Cell). c.occupied) put.here;
  was = inl (λ i a b. absurd (omega arith));
  others = λ j away. ⊎_elim
      (λ (less : j < home). same_off old new home home quotient true put j (λ e. omega arith) (λ e. omega arith))
      (λ (past : suc home ≤ j). same_off old new home home quotient true put j (λ e. omega arith) (λ e. omega arith))
      away;
}

pub near_still : (n : ℕ) (cells : ℕ → Cell) (home : ℕ) → home < n → (cells home).occupied ≡ true → InOneRun n cells cells home
near_still n cells home inside t = record {
  low = home;
  high = suc home;
  span = (omega arith, omega arith, inside);
  row = λ i a b. ap (λ m. (cells m).occupied) (omega arith) ∙ t;
  was = inl (λ i a b. absurd (omega arith));
  others = λ j away. refl;
}

module _ (n : ℕ) (old mid new : ℕ → Cell) (start place home end quotient : ℕ) (fresh : Bool) (low : start ≤ home) (from : start ≤ place) (front : Row old start (suc home)) (back : Row old home end) (over : home < end) where
  whole : (i : ℕ) → start ≤ i → i < end → (old i).occupied ≡ true
  whole i a b = ⊎_elim (λ (less : i < home). front i a (omega arith)) (λ (past : home ≤ i). back i past b) (cases_lt i home)

  pub near_up : place ≤ end → end < n → ShiftedUp old mid place end → Put mid new place home quotient fresh → InOneRun n old new home
  near_up most inside shift put = record {
    low = start;
    high = suc end;
    span = (low, omega arith, inside);
    row = λ i a b. ⊎_elim
        (λ (same : i ≡ place). ap (λ m. (new m).occupied) same ∙ ap (λ (c : Cell). c.occupied) put.here)
        (λ (ne : i ≢ place). occupied_from old mid new place home quotient i (from_left place end i) fresh (old i).virgin put ne (up_at old mid place end shift most i ne) (whole (from_left place end i) (omega arith) (omega arith)))
        (cases_same i place);
    was = inl (λ i a b. whole i a (omega arith));
    others = λ j away. ⊎_elim
        (λ (less : j < start). same_off mid new place home quotient fresh put j (λ e. omega arith) (λ e. omega arith) ∙ shift.below j (omega arith))
        (λ (past : suc end ≤ j). same_off mid new place home quotient fresh put j (λ e. omega arith) (λ e. omega arith) ∙ shift.above j past)
        away;
  }

  pub near_down : 0 < start → place ≤ end → end ≡ n → ShiftedDown old mid (start - 1) (place - 1) → Put mid new (place - 1) home quotient fresh → InOneRun n old new home
  near_down some most is shift put = record {
    low = start - 1;
    high = end;
    span = (omega arith, over, omega arith);
    row = λ i a b. ⊎_elim
        (λ (same : i ≡ place - 1). ap (λ m. (new m).occupied) same ∙ ap (λ (c : Cell). c.occupied) put.here)
        (λ (ne : i ≢ place - 1). occupied_from old mid new (place - 1) home quotient i (from_right (start - 1) (place - 1) i) fresh (old i).virgin put ne (down_at old mid (start - 1) (place - 1) shift (omega arith) i ne)
        (whole (from_right (start - 1) (place - 1) i) (omega arith) (omega arith)))
        (cases_same i (place - 1));
    was = inr (λ i a b. whole i (omega arith) b);
    others = λ j away. ⊎_elim
        (λ (less : j < start - 1). same_off mid new (place - 1) home quotient fresh put j (λ e. omega arith) (λ e. omega arith) ∙ shift.below j less)
        (λ (past : end ≤ j). same_off mid new (place - 1) home quotient fresh put j (λ e. omega arith) (λ e. omega arith) ∙ shift.above j (omega arith))
        away;
  }
