-- Each group's cells are a stretch.
use Rattle.std.proofs.Common.{◌≡◌, ◌≢◌, ℕ, zero, suc, ◌+◌, ◌-◌, ◌<◌, ◌≤◌, Bool, true, false, not, eqb, List, Option, Some, None, refl, sym, ap, ◌∙◌, subst, ⊎_elim, arith}
use Rattle.std.specs.Prelude.{if◌then◌else◌}
use Rattle.std.proofs.lemmas.Bool.{cases_lt, eqb-true, eq-eqb, not-true, not-false}
use Rattle.cleary_core.specs.declared.cells.Cell.{Cell}
use Rattle.cleary_core.specs.Map.{Key, Has, Taken, Keeps}
use Rattle.cleary_core.specs.Sentences.{Sentences}
use Rattle.cleary_core.proofs.Slots.{cases_same, cases_bool, cases_option, same_key, clash, none_of, follow, home_inside}
use Rattle.cleary_core.proofs.Flags.{chosen, refused}

scan : (ℕ → Bool) → ℕ → ℕ → ℕ
scan p zero i = i
scan p (suc fuel) i = if p i then i else scan p fuel (suc i)

scan_finds : (p : ℕ → Bool) (fuel i j : ℕ) → i ≤ j → j < i + fuel → p j ≡ true → (p (scan p fuel i) ≡ true) × (i ≤ scan p fuel i) × (scan p fuel i ≤ j)
unfolding scan
scan_finds p zero i j a b t = absurd (omega arith)
scan_finds p (suc fuel) i j a b t = ⊎_elim
    (λ (yes : p i ≡ true). subst (λ (m : ℕ). (p m ≡ true) × (i ≤ m) × (m ≤ j)) (sym (chosen (p i) i (scan p fuel (suc i)) yes)) (yes, omega arith, a))
    (λ (no : p i ≡ false).
    let ne : i ≢ j = (λ same. clash (p i) no (ap p same ∙ t)) in
    let r = scan_finds p fuel (suc i) j (omega arith) (omega arith) t in
    let low = r.1 in
    subst (λ (m : ℕ). (p m ≡ true) × (i ≤ m) × (m ≤ j)) (sym (refused (p i) i (scan p fuel (suc i)) no)) (r.0, omega arith, r.2))
    (cases_bool (p i))

scan_before : (p : ℕ → Bool) (fuel i m : ℕ) → i ≤ m → m < scan p fuel i → p m ≡ false
unfolding scan
scan_before p zero i m a b = absurd (omega arith)
scan_before p (suc fuel) i m a b = ⊎_elim
    (λ (yes : p i ≡ true). let h : m < i = subst (λ (x : ℕ). m < x) (chosen (p i) i (scan p fuel (suc i)) yes) b in absurd (omega arith))
    (λ (no : p i ≡ false). ⊎_elim
    (λ (same : i ≡ m). ap p (sym same) ∙ no)
    (λ (ne : i ≢ m). scan_before p fuel (suc i) m (omega arith) (subst (λ (x : ℕ). m < x) (refused (p i) i (scan p fuel (suc i)) no) b))
    (cases_same i m))
    (cases_bool (p i))

scan_from : (p : ℕ → Bool) (fuel i : ℕ) → i ≤ scan p fuel i
unfolding scan
scan_from p zero i = omega arith
scan_from p (suc fuel) i = let r = scan_from p fuel (suc i) in ⊎_elim
    (λ (yes : p i ≡ true). subst (λ (x : ℕ). i ≤ x) (sym (chosen (p i) i (scan p fuel (suc i)) yes)) (omega arith))
    (λ (no : p i ≡ false). subst (λ (x : ℕ). i ≤ x) (sym (refused (p i) i (scan p fuel (suc i)) no)) (omega arith))
    (cases_bool (p i))

has_home : ℕ → Option Key → Bool
has_home home None = false
has_home home (Some k) = eqb k.home home

of_home : (home : ℕ) (o : Option Key) → has_home home o ≡ true → (k : Key) × (o ≡ Some k) × (k.home ≡ home)
unfolding has_home
of_home home None e = absurd (clash false refl e)
of_home home (Some k) e = (k, refl, eqb-true k.home home e)

to_home : (home : ℕ) (o : Option Key) (k : Key) → o ≡ Some k → k.home ≡ home → has_home home o ≡ true
unfolding has_home
to_home home o k e h = ap (has_home home) e ∙ eq-eqb k.home home h

module _ (n : ℕ) (cells : ℕ → Cell) (keys : List Key) (kept : Keeps n cells keys) where
  inside : ℕ → ℕ → Bool
  inside home i = has_home home (kept.slots i)

  first : ℕ → ℕ
  first home = scan (inside home) n 0

  stop : ℕ → ℕ
  stop home = scan (λ i. not (inside home i)) (suc n) (first home)

  in_key : (home i : ℕ) → inside home i ≡ true → (k : Key) × (kept.slots i ≡ Some k) × (k.home ≡ home)
  unfolding inside
  in_key home i t = of_home home (kept.slots i) t

  key_in : (home i : ℕ) (k : Key) → kept.slots i ≡ Some k → k.home ≡ home → inside home i ≡ true
  unfolding inside
  key_in home i k e h = to_home home (kept.slots i) k e h

  first_is : (i : ℕ) (k : Key) → kept.slots i ≡ Some k → (inside k.home (first k.home) ≡ true) × (first k.home ≤ i)
  unfolding first
  first_is i k e = let r = scan_finds (inside k.home) n 0 i (omega arith) (omega (arith, kept.laid.past i k e)) (key_in k.home i k e refl) in (r.0, r.2)

  within : (home i : ℕ) → first home ≤ i → i < stop home → (k : Key) × (kept.slots i ≡ Some k) × (k.home ≡ home)
  unfolding stop
  within home i a b = in_key home i (not-false (inside home i) (scan_before (λ m. not (inside home m)) (suc n) (first home) i a b))

  out_at : (home : ℕ) → inside home n ≡ false
  out_at home = ⊎_elim
      (λ (t : inside home n ≡ true). let k = in_key home n t in let p = kept.laid.past n k.0 k.1 in absurd (omega arith))
      (λ (f : inside home n ≡ false). f)
      (cases_bool (inside home n))

  stop_is : (i : ℕ) (k : Key) → kept.slots i ≡ Some k → inside k.home (stop k.home) ≡ false
  unfolding stop
  stop_is i k e =
      let f = first_is i k e in
      let p = kept.laid.past i k e in
      let low = f.1 in
      not-true (inside k.home (scan (λ m. not (inside k.home m)) (suc n) (first k.home)))
      (scan_finds (λ m. not (inside k.home m)) (suc n) (first k.home) n (omega arith) (omega arith) (ap not (out_at k.home))).0

  stop_from : (home : ℕ) → first home ≤ stop home
  unfolding stop
  stop_from home = scan_from (λ m. not (inside home m)) (suc n) (first home)

  places : (i : ℕ) (k : Key) → kept.slots i ≡ Some k → (first k.home ≤ i) × (i < stop k.home)
  places i k e =
      let f = first_is i k e in
      let s = in_key k.home (first k.home) f.0 in (
        f.1,
        ⊎_elim
            (λ (less : i < stop k.home). less)
            (λ (past : stop k.home ≤ i).
            let from : first k.home ≤ stop k.home = stop_from k.home in
            let t = follow n kept.slots kept.laid (first k.home) i (stop k.home) s.0 k s.1 e s.2 from past in
            absurd (clash (inside k.home (stop k.home)) (stop_is i k e) (key_in k.home (stop k.home) t.0 t.1 (t.2 ∙ s.2))))
            (cases_lt i (stop k.home)),
      )

  pub sentences : Sentences n cells keys
  sentences = record {
    map = kept.holds.map;
    inside = λ k has. let a = kept.holds.all k has in home_inside n kept.slots kept.laid a.0 k a.1;
    first = first;
    stop = stop;
    number = kept.holds.number;
    stands = λ k has. let a = kept.holds.all k has in let p = places a.0 k a.1 in
        let x : (i : ℕ) × (first k.home ≤ i) × (i < stop k.home) × ((cells i).quotient ≡ k.quotient) × ((cells i).flags ≡ k.flags) = (a.0, p.0, p.1, kept.drawn.quotient a.0 k a.1, kept.drawn.flags a.0 k a.1) in x;
    group = λ k i has a b. let s = within k.home i a b in
        let x : (l : Key) × Has l keys × (l.home ≡ k.home) × ((cells i).quotient ≡ l.quotient) × ((cells i).flags ≡ l.flags)
        = (s.0, kept.holds.only i s.0 s.1, s.2, kept.drawn.quotient i s.0 s.1, kept.drawn.flags i s.0 s.1) in
        (kept.laid.past i s.0 s.1, kept.drawn.occupied i s.0 s.1, x);
    once = λ k i j has a b x y e. let s = within k.home i a b in let t = within k.home j x y in
        kept.laid.once i j s.0 t.0 s.1 t.1 (s.2 ∙ sym t.2) (sym (kept.drawn.quotient i s.0 s.1) ∙ e ∙ kept.drawn.quotient j t.0 t.1);
    rising = λ k l has too less. ⊎_elim
        (λ (bad : first l.home < stop k.home).
        let a = kept.holds.all k has in
        let b = kept.holds.all l too in
        let p = places a.0 k a.1 in
        let f = first_is b.0 l b.1 in
        let x = in_key l.home (first l.home) f.0 in
        let y = within k.home (stop k.home - 1) (omega (arith, p.0, p.1)) (omega arith) in
        ⊎_elim
        (λ (same : first l.home ≡ stop k.home - 1). absurd (omega (arith, x.2, y.2, ap (λ (z : Key). z.home) (same_key (kept.slots (stop k.home - 1)) x.0 y.0 (ap kept.slots (sym same) ∙ x.1) y.1))))
        (λ (ne : first l.home ≢ stop k.home - 1). let r = kept.laid.rising (first l.home) (stop k.home - 1) x.0 y.0 (omega arith) x.1 y.1 in absurd (omega (arith, x.2, y.2)))
        (cases_same (first l.home) (stop k.home - 1)))
        (λ (good : stop k.home ≤ first l.home). good)
        (cases_lt (first l.home) (stop k.home));
    virgin = λ i h. (
      (λ t. let v = kept.drawn.virgin i h t in let x : (k : Key) × Has k keys × (k.home ≡ i) = (v.1, kept.holds.only v.0 v.1 v.2, v.3) in x),
      (λ p. let a = kept.holds.all p.0 p.1 in ap (λ m. (cells m).virgin) (sym p.2) ∙ kept.drawn.home a.0 p.0 a.1),
    );
    change = λ i h. (
      (λ t. ⊎_elim
          (λ (none : kept.slots i ≡ None). absurd (clash (cells i).change (ap (λ (c : Cell). c.change) (kept.drawn.empty i h none)) t))
          (λ (k : Taken kept.slots i).
          let p = places i k.0 k.1 in
          let end : suc i ≡ stop k.0.home = ⊎_elim
          (λ (more : suc i < stop k.0.home). let s = within k.0.home (suc i) (omega (arith, p.0)) more in absurd (kept.drawn.change i k.0 k.1 t (suc i) s.0 (omega arith) s.1 s.2))
          (λ (here : stop k.0.home ≤ suc i). omega (arith, p.1))
          (cases_lt (suc i) (stop k.0.home)) in
          let x : (l : Key) × Has l keys × (suc i ≡ stop l.home) = (k.0, kept.holds.only i k.0 k.1, end) in x)
          (cases_option (kept.slots i))),
      (λ p.
          let a = kept.holds.all p.0 p.1 in
          let q = places a.0 p.0 a.1 in
          let s = within p.0.home i (omega (arith, q.0, q.1, p.2)) (omega (arith, p.2)) in
          kept.drawn.last i s.0 s.1 (λ j l less f same.
          let z = places j l f in
          let e : stop l.home ≡ stop p.0.home = ap stop (same ∙ s.2) in
          omega (arith, z.1, p.2))),
    );
    run = λ k i m has a b way. let s = within k.home i a b in ⊎_elim
        (λ (up : (k.home ≤ m) × (m ≤ i)). let t = kept.laid.run_up i m s.0 s.1 (omega (arith, s.2, up.0)) up.1 in kept.drawn.occupied m t.0 t.1)
        (λ (down : (i ≤ m) × (m ≤ k.home)). let t = kept.laid.run_down i m s.0 s.1 down.0 (omega (arith, s.2, down.1)) in kept.drawn.occupied m t.0 t.1)
        way;
    clear = λ i h f. kept.drawn.empty i h (none_of n kept.slots kept.laid cells kept.drawn i f);
  }
