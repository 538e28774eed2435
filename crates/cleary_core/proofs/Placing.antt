-- How the place of a group is found.
use Rattle.std.proofs.Common.{◌≡◌, ◌≢◌, ℕ, zero, suc, ◌+◌, ◌-◌, ◌<◌, ◌≤◌, true, false, List, Option, Some, None, refl, sym, ap, ◌∙◌, ⊎_elim, arith}
use Rattle.std.proofs.lemmas.Bool.{cases_lt}
use Rattle.cleary_core.specs.declared.cells.Cell.{Cell}
use Rattle.cleary_core.specs.Map.{Key, Slots, Taken, Laid, Drawn, Keeps}
use Rattle.cleary_core.specs.Search.{Splits, Placed, Row, Unbroken, HasChange, Searched, Located}
use Rattle.cleary_core.specs.Answers.{Present}
use Rattle.cleary_core.proofs.Slots.{cases_same, cases_bool, cases_option, cases_le, none_some, same_key, clash, together, taken_of, none_of}

module _ (n : ℕ) (slots : Slots) (laid : Laid n slots) (cells : ℕ → Cell) (drawn : Drawn n cells slots) where
  -- a group goes on after a cell with no change
  pub next : (i : ℕ) (k : Key) → slots i ≡ Some k → (cells i).change ≡ false → (l : Key) × (slots (suc i) ≡ Some l) × (l.home ≡ k.home)
  next i k e f = ⊎_elim
      (λ (none : slots (suc i) ≡ None). absurd (clash (cells i).change f (drawn.last i k e (λ j l h g same.
      let t = together n slots laid i j (suc i) k l e g (sym same) (omega arith) (omega arith) in none_some (slots (suc i)) t.0 none t.1))))
      (λ (t : Taken slots (suc i)). ⊎_elim
      (λ (same : t.0.home ≡ k.home). let x : (l : Key) × (slots (suc i) ≡ Some l) × (l.home ≡ k.home) = (t.0, t.1, same) in x)
      (λ (ne : t.0.home ≢ k.home). absurd (clash (cells i).change f (drawn.last i k e (λ j l h g same. ⊎_elim
      (λ (here : j ≡ suc i). ne (ap (λ (x : Key). x.home) (same_key (slots (suc i)) t.0 l t.1 (ap slots (sym here) ∙ g)) ∙ same))
      (λ (far : j ≢ suc i).
      let a = laid.rising i (suc i) k t.0 (omega arith) e t.1 in
      let b = laid.rising (suc i) j t.0 l (omega arith) t.1 g in
      ne (omega arith))
      (cases_same j (suc i))))))
      (cases_same t.0.home k.home))
      (cases_option (slots (suc i)))

  -- along a stretch with no change
  pub along : (count i : ℕ) (k : Key) → slots i ≡ Some k → Unbroken cells i (i + count) → (l : Key) × (slots (i + count) ≡ Some l) × (l.home ≡ k.home)
  along zero i k e un = (k, ap slots (omega arith) ∙ e, refl)
  along (suc count) i k e un =
      let h = along count i k e (λ j a b. un j a (omega arith)) in
      let m = next (i + count) h.0 h.1 (un (i + count) (omega arith) (omega arith)) in
      (m.0, ap slots (omega arith) ∙ m.1, m.2 ∙ h.2)

  pub along_to : (i j : ℕ) (k : Key) → slots i ≡ Some k → i ≤ j → Unbroken cells i j → (l : Key) × (slots j ≡ Some l) × (l.home ≡ k.home)
  along_to i j k e h un =
      let a = along (j - i) i k e (λ m x y. un m x (omega arith)) in
      (a.0, ap slots (omega arith) ∙ a.1, a.2)

  -- a group ends
  ends_by : (fuel i : ℕ) (k : Key) → n ≤ i + fuel → slots i ≡ Some k → HasChange n cells i
  ends_by zero i k h e = let p = laid.past i k e in absurd (omega arith)
  ends_by (suc fuel) i k h e = ⊎_elim
      (λ (t : (cells i).change ≡ true). let x : HasChange n cells i = (i, omega arith, laid.past i k e, t) in x)
      (λ (f : (cells i).change ≡ false).
      let m = next i k e f in
      let r = ends_by fuel (suc i) m.0 (omega arith) m.1 in
      let low = r.1 in
      let x : HasChange n cells i = (r.0, omega arith, r.2, r.3) in x)
      (cases_bool (cells i).change)

  pub ends : (i : ℕ) (k : Key) → slots i ≡ Some k → HasChange n cells i
  ends i k e = ends_by n i k (omega arith) e

  -- no key before a run's start has its home after it, and none after it before
  pub splits_start : (start : ℕ) → (0 < start → (cells (start - 1)).occupied ≡ false) → Splits slots start start
  splits_start start edge = record {
    before = λ j k h e. ⊎_elim
        (λ (less : k.home < start). less)
        (λ (from : start ≤ k.home).
        let t = laid.run_down j (start - 1) k e (omega arith) (omega arith) in
        absurd (none_some (slots (start - 1)) t.0 (none_of n slots laid cells drawn (start - 1) (edge (omega arith))) t.1))
        (cases_lt k.home start);
    after = λ j k h e. ⊎_elim
        (λ (less : k.home < start).
        let t = laid.run_up j (start - 1) k e (omega arith) (omega arith) in
        absurd (none_some (slots (start - 1)) t.0 (none_of n slots laid cells drawn (start - 1) (edge (omega arith))) t.1))
        (λ (from : start ≤ k.home). from)
        (cases_lt k.home start);
  }

  pub placed_start : (start : ℕ) → (0 < start → (cells (start - 1)).occupied ≡ false) → Placed n slots start start start
  placed_start start edge = record { splits = splits_start start edge; from = omega arith; row = λ i a b. absurd (omega arith) }

  -- the first key of a home's group
  pub first_of : (start at home top : ℕ) → Placed n slots start at home → home ≤ top → top < n → Row cells start (suc top) → (cells home).virgin ≡ true → (k : Key) × (slots at ≡ Some k) × (k.home ≡ home)
  first_of start at home top placed h inside row t =
      let v = drawn.virgin home (omega arith) t in
      let j : ℕ = v.0 in
      let l : Key = v.1 in
      let low : at ≤ j = ⊎_elim (λ (less : j < at). let b = placed.splits.before j l less v.2 in absurd (omega (arith, v.3))) (λ (from : at ≤ j). from) (cases_lt j at) in
      let taken : Taken slots at = ⊎_elim
      (λ (less : at < home). taken_of n slots laid cells drawn at (omega arith) (row at placed.from (omega arith)))
      (λ (from : home ≤ at). laid.run_up j at l v.2 (omega (arith, v.3)) low)
      (cases_lt at home) in
      let a = placed.splits.after at taken.0 (omega arith) taken.1 in
      let b : taken.0.home ≤ home = ⊎_elim
      (λ (here : at ≡ j). omega (arith, v.3, ap (λ (x : Key). x.home) (same_key (slots j) taken.0 l (ap slots (sym here) ∙ taken.1) v.2)))
      (λ (ne : at ≢ j). omega (arith, v.3, laid.rising at j taken.0 l (omega arith) taken.1 v.2))
      (cases_same at j) in
      (taken.0, taken.1, omega arith)

  pub group_ends : (start at home top : ℕ) → Placed n slots start at home → home ≤ top → top < n → Row cells start (suc top) → (cells home).virgin ≡ true → HasChange n cells at
  group_ends start at home top placed h inside row t = let f = first_of start at home top placed h inside row t in ends at f.0 f.1

  -- past a group
  pub placed_more : (start at home top last : ℕ) → Placed n slots start at home → home ≤ top → top < n → Row cells start (suc top) → (cells home).virgin ≡ true
      → at ≤ last → Unbroken cells at last → (cells last).change ≡ true → Placed n slots start (last + 1) (home + 1)
  placed_more start at home top last placed h inside row t low un change =
      let f = first_of start at home top placed h inside row t in
      let z = along_to at last f.0 f.1 low un in
      record {
        splits = record {
          before = λ j k less e. ⊎_elim
              (λ (below : j < at). let b = placed.splits.before j k below e in omega arith)
              (λ (from : at ≤ j).
              let y = along_to at j f.0 f.1 from (λ m a b. un m a (omega arith)) in
              let d = ap (λ (x : Key). x.home) (same_key (slots j) k y.0 e y.1) in
              omega (arith, y.2, f.2))
              (cases_lt j at);
          after = λ j k more e.
              let a = placed.splits.after j k (omega arith) e in
              let b : k.home ≢ z.0.home = drawn.change last z.0 z.1 change j k (omega arith) e in
              omega (arith, z.2, f.2);
        };
        from = omega (arith, placed.from);
        row = λ i a b. ⊎_elim
            (λ (below : i < at). placed.row i a below)
            (λ (from : at ≤ i). let y = along_to at i f.0 f.1 from (λ m x w. un m x (omega arith)) in let u : Taken slots i = (y.0, y.1) in u)
            (cases_lt i at);
      }

  -- past a home that nothing has
  pub placed_on : (start at home : ℕ) → Placed n slots start at home → (cells home).virgin ≡ false → Placed n slots start at (home + 1)
  placed_on start at home placed f = record {
    splits = record {
      before = λ j k less e. let b = placed.splits.before j k less e in omega arith;
      after = λ j k more e.
          let a = placed.splits.after j k more e in
          let b : k.home ≢ home = (λ same. clash (cells home).virgin f (ap (λ m. (cells m).virgin) (sym same) ∙ drawn.home j k e)) in
          omega arith;
    };
    from = placed.from;
    row = placed.row;
  }

-- what a search of the group says of the map
module _ (n : ℕ) (cells : ℕ → Cell) (keys : List Key) (kept : Keeps n cells keys) (home quotient : ℕ) where
  pub not_virgin : (cells home).virgin ≡ false → Present keys home quotient → ⊥
  not_virgin f p = let a = kept.holds.all p.0 p.1 in clash (cells home).virgin f (ap (λ m. (cells m).virgin) (sym p.2) ∙ kept.drawn.home a.0 p.0 a.1)

  pub searched : (found : Option ℕ) (start at : ℕ) → home < n → Placed n kept.slots start at home → Row cells start (suc home) → (cells home).virgin ≡ true → Searched found n cells at quotient → Located found kept.slots keys home quotient
  searched (Some i) start at inside placed row t s =
      let f = first_of n kept.slots kept.laid cells kept.drawn start at home home placed (omega arith) inside row t in
      let y = along_to n kept.slots kept.laid cells kept.drawn at i f.0 f.1 s.0 s.2 in
      (y.0, y.1, y.2 ∙ f.2, sym (kept.drawn.quotient i y.0 y.1) ∙ s.3)
  searched None start at inside placed row t s = λ p.
      let a = kept.holds.all p.0 p.1 in
      let j : ℕ = a.0 in
      let k : Key = p.0 in
      let f = first_of n kept.slots kept.laid cells kept.drawn start at home home placed (omega arith) inside row t in
      let z = along_to n kept.slots kept.laid cells kept.drawn at s.0 f.0 f.1 s.1 s.3 in
      ⊎_elim
      (λ (less : j < at). let b = placed.splits.before j k less a.1 in absurd (omega (arith, p.2)))
      (λ (from : at ≤ j). ⊎_elim
      (λ (within : j ≤ s.0). s.5 j from within (kept.drawn.quotient j k a.1 ∙ p.3))
      (λ (past : s.0 < j). kept.drawn.change s.0 z.0 z.1 s.4 j k past a.1 (p.2 ∙ sym (z.2 ∙ f.2)))
      (cases_le j s.0))
      (cases_lt j at)

  pub found_here : (i : ℕ) → (k : Key) × (kept.slots i ≡ Some k) × (k.home ≡ home) × (k.quotient ≡ quotient) → Present keys home quotient
  found_here i f = (f.0, kept.holds.only i f.0 f.1, f.2, f.3)
