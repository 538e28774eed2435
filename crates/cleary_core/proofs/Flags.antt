-- One key's flags set.
use Rattle.std.proofs.Common.{◌≡◌, ◌≢◌, ℕ, suc, Bool, true, false, eqb, List, [], ◌∷◌, length, Option, Some, None, refl, sym, ap, ◌∙◌, subst, inl, inr, ⊎_elim, arith}
use Rattle.std.proofs.lemmas.Bool.{eqb-true, eq-eqb}
use Rattle.std.specs.Prelude.{◌&&◌, if◌then◌else◌}
use Rattle.cleary_core.specs.declared.cells.Cell.{Cell}
use Rattle.cleary_core.specs.Map.{Key, Has, IsMap, Slots, Taken, Laid, Drawn, Keeps}
use Rattle.cleary_core.specs.Answers.{Present, flag, flagged}
use Rattle.cleary_core.proofs.Slots.{cases_same, cases_bool, none_some, same_key, clash, count_same}

abbrev pub lift : (Key → Key) → Option Key → Option Key
lift f None = None
lift f (Some k) = Some (f k)

of_lift : (f : Key → Key) (o : Option Key) (k : Key) → lift f o ≡ Some k → (l : Key) × (o ≡ Some l) × (k ≡ f l)
of_lift f None k e = absurd (none_some None k refl e)
of_lift f (Some l) k e = (l, refl, same_key (Some (f l)) k (f l) e refl)

none_lift : (f : Key → Key) (o : Option Key) → lift f o ≡ None → o ≡ None
none_lift f None e = refl
none_lift f (Some l) e = absurd (none_some (Some (f l)) (f l) e refl)

and_true : (a b : Bool) → (a && b) ≡ true → (a ≡ true) × (b ≡ true)
and_true true b e = (refl, e)
and_true false b e = absurd (clash false refl e)

pub chosen : (b : Bool) (x y : ℕ) → b ≡ true → (if b then x else y) ≡ x
chosen b x y e = ap (λ t. if t then x else y) e

pub refused : (b : Bool) (x y : ℕ) → b ≡ false → (if b then x else y) ≡ y
refused b x y e = ap (λ t. if t then x else y) e

length_flagged : (home quotient value : ℕ) (keys : List Key) → length (flagged home quotient value keys) ≡ length keys
length_flagged home quotient value [] = refl
length_flagged home quotient value (k ∷ keys) = ap suc (length_flagged home quotient value keys)

has_flagged : (home quotient value : ℕ) (k : Key) (keys : List Key) → Has k keys → Has (flag home quotient value k) (flagged home quotient value keys)
has_flagged home quotient value k [] has = has
has_flagged home quotient value k (x ∷ keys) has = ⊎_elim (λ (e : k ≡ x). inl (ap (λ y. flag home quotient value y) e)) (λ (h : Has k keys). inr (has_flagged home quotient value k keys h)) has

flagged_has : (home quotient value : ℕ) (k : Key) (keys : List Key) → Has k (flagged home quotient value keys) → (l : Key) × Has l keys × (k ≡ flag home quotient value l)
flagged_has home quotient value k [] has = absurd has
flagged_has home quotient value k (x ∷ keys) has = ⊎_elim
    (λ (e : k ≡ flag home quotient value x). let r : (l : Key) × Has l (x ∷ keys) × (k ≡ flag home quotient value l) = (x, inl refl, e) in r)
    (λ (h : Has k (flagged home quotient value keys)). let t = flagged_has home quotient value k keys h in let r : (l : Key) × Has l (x ∷ keys) × (k ≡ flag home quotient value l) = (t.0, inr t.1, t.2) in r)
    has

map_flagged : (home quotient value : ℕ) (keys : List Key) → IsMap keys → IsMap (flagged home quotient value keys)
map_flagged home quotient value [] map = map
map_flagged home quotient value (k ∷ keys) map = (
  (λ l has same q. let t = flagged_has home quotient value l keys has in map.0 t.0 t.1 (sym (ap (λ (x : Key). x.home) t.2) ∙ same) (sym (ap (λ (x : Key). x.quotient) t.2) ∙ q)),
  map_flagged home quotient value keys map.1,
)

module _ (n : ℕ) (old : ℕ → Cell) (keys : List Key) (kept : Keeps n old keys) (home quotient at : ℕ) (key : Key) (here : kept.slots at ≡ Some key) (h : key.home ≡ home) (q : key.quotient ≡ quotient) where
  pub flags_here : (k : Key) → Has k keys → k.home ≡ home → k.quotient ≡ quotient → (old at).flags ≡ k.flags
  flags_here k has kh kq =
      let a = kept.holds.all k has in
      let same : a.0 ≡ at = kept.laid.once a.0 at k key a.1 here (kh ∙ sym h) (kq ∙ sym q) in
      kept.drawn.flags at k (ap kept.slots (sym same) ∙ a.1)

  module _ (new : ℕ → Cell) (value : ℕ) (put : new at ≡ record (old at) { flags = value }) (others : (j : ℕ) → j ≢ at → new j ≡ old j) where
    fs : Slots
    fs j = lift (flag home quotient value) (kept.slots j)

    of_fs : (j : ℕ) (k : Key) → fs j ≡ Some k → (l : Key) × (kept.slots j ≡ Some l) × (k ≡ flag home quotient value l)
    unfolding fs
    of_fs j k e = of_lift (flag home quotient value) (kept.slots j) k e

    to_fs : (j : ℕ) (k : Key) → kept.slots j ≡ Some k → fs j ≡ Some (flag home quotient value k)
    unfolding fs
    to_fs j k e = ap (lift (flag home quotient value)) e

    none_fs : (j : ℕ) → fs j ≡ None → kept.slots j ≡ None
    unfolding fs
    none_fs j e = none_lift (flag home quotient value) (kept.slots j) e

    home_of : (k l : Key) → k ≡ flag home quotient value l → k.home ≡ l.home
    home_of k l e = ap (λ (x : Key). x.home) e

    quotient_of : (k l : Key) → k ≡ flag home quotient value l → k.quotient ≡ l.quotient
    quotient_of k l e = ap (λ (x : Key). x.quotient) e

    taken_fs : (j : ℕ) → Taken kept.slots j → Taken fs j
    taken_fs j t = (flag home quotient value t.0, to_fs j t.0 t.1)

    laid_flags : Laid n fs
    laid_flags = record {
      past = λ i k e. let a = of_fs i k e in kept.laid.past i a.0 a.1;
      once = λ i j k l e f hh qq. let a = of_fs i k e in let b = of_fs j l f in
          kept.laid.once i j a.0 b.0 a.1 b.1 (sym (home_of k a.0 a.2) ∙ hh ∙ home_of l b.0 b.2) (sym (quotient_of k a.0 a.2) ∙ qq ∙ quotient_of l b.0 b.2);
      rising = λ i j k l less e f. let a = of_fs i k e in let b = of_fs j l f in
          omega (arith, home_of k a.0 a.2, home_of l b.0 b.2, kept.laid.rising i j a.0 b.0 less a.1 b.1);
      run_up = λ i j k e low high. let a = of_fs i k e in taken_fs j (kept.laid.run_up i j a.0 a.1 (omega (arith, home_of k a.0 a.2)) high);
      run_down = λ i j k e low high. let a = of_fs i k e in taken_fs j (kept.laid.run_down i j a.0 a.1 low (omega (arith, home_of k a.0 a.2)));
    }

    all_but_flags : (j : ℕ) → new j ≡ record (old j) { flags = (new j).flags }
    all_but_flags j = ⊎_elim
        (λ (same : j ≡ at). subst (λ (m : ℕ). new m ≡ record (old m) { flags = (new m).flags }) (sym same) (put ∙ ap (λ v. let c : Cell = record (old at) { flags = v } in c) (sym (ap (λ (c : Cell). c.flags) put))))
        (λ (ne : j ≢ at). others j ne ∙ ap (λ v. let c : Cell = record (old j) { flags = v } in c) (sym (ap (λ (c : Cell). c.flags) (others j ne))))
        (cases_same j at)

    flags_are : (i : ℕ) (k : Key) → fs i ≡ Some k → (new i).flags ≡ k.flags
    flags_are i k e =
        let a = of_fs i k e in
        let test : Bool = eqb a.0.home home && eqb a.0.quotient quotient in
        ⊎_elim
        (λ (same : i ≡ at).
        let is : a.0 ≡ key = same_key (kept.slots i) a.0 key a.1 (ap kept.slots same ∙ here) in
        let one : eqb a.0.home home ≡ true = eq-eqb a.0.home home (ap (λ (x : Key). x.home) is ∙ h) in
        let two : eqb a.0.quotient quotient ≡ true = eq-eqb a.0.quotient quotient (ap (λ (x : Key). x.quotient) is ∙ q) in
        let both : test ≡ true = ap (λ b. b && eqb a.0.quotient quotient) one ∙ two in
        ap (λ m. (new m).flags) same ∙ ap (λ (c : Cell). c.flags) put ∙ sym (chosen test value a.0.flags both) ∙ sym (ap (λ (x : Key). x.flags) a.2))
        (λ (ne : i ≢ at).
        ap (λ (c : Cell). c.flags) (others i ne) ∙ kept.drawn.flags i a.0 a.1 ∙ sym (refused test value a.0.flags (⊎_elim
        (λ (t : test ≡ true). let b = and_true (eqb a.0.home home) (eqb a.0.quotient quotient) t in
        absurd (ne (kept.laid.once i at a.0 key a.1 here (eqb-true a.0.home home b.0 ∙ sym h) (eqb-true a.0.quotient quotient b.1 ∙ sym q))))
        (λ (f : test ≡ false). f)
        (cases_bool test))) ∙ sym (ap (λ (x : Key). x.flags) a.2))
        (cases_same i at)

    drawn_flags : Drawn n new fs
    drawn_flags = record {
      empty = λ i less e. others i (λ same. none_some (kept.slots i) key (none_fs i e) (ap kept.slots same ∙ here)) ∙ kept.drawn.empty i less (none_fs i e);
      occupied = λ i k e. let a = of_fs i k e in ap (λ (c : Cell). c.occupied) (all_but_flags i) ∙ kept.drawn.occupied i a.0 a.1;
      quotient = λ i k e. let a = of_fs i k e in ap (λ (c : Cell). c.quotient) (all_but_flags i) ∙ kept.drawn.quotient i a.0 a.1 ∙ sym (quotient_of k a.0 a.2);
      flags = flags_are;
      virgin = λ i less t. let v = kept.drawn.virgin i less (sym (ap (λ (c : Cell). c.virgin) (all_but_flags i)) ∙ t) in
          let x : (j : ℕ) × (k : Key) × (fs j ≡ Some k) × (k.home ≡ i) = (v.0, flag home quotient value v.1, to_fs v.0 v.1 v.2, v.3) in x;
      home = λ j k e. let a = of_fs j k e in
          ap (λ m. (new m).virgin) (home_of k a.0 a.2) ∙ ap (λ (c : Cell). c.virgin) (all_but_flags a.0.home) ∙ kept.drawn.home j a.0 a.1;
      change = λ i k e t. let a = of_fs i k e in λ j l less f same. let b = of_fs j l f in
          kept.drawn.change i a.0 a.1 (sym (ap (λ (c : Cell). c.change) (all_but_flags i)) ∙ t) j b.0 less b.1 (sym (home_of l b.0 b.2) ∙ same ∙ home_of k a.0 a.2);
      last = λ i k e none. let a = of_fs i k e in ap (λ (c : Cell). c.change) (all_but_flags i)
          ∙ kept.drawn.last i a.0 a.1 (λ j l less f same. none j (flag home quotient value l) less (to_fs j l f) (same ∙ sym (home_of k a.0 a.2)));
    }

    pub keeps_flags : Keeps n new (flagged home quotient value keys)
    keeps_flags = record {
      slots = fs;
      laid = laid_flags;
      drawn = drawn_flags;
      holds = record {
        map = map_flagged home quotient value keys kept.holds.map;
        number = count_same old new n (λ i less. ap (λ (c : Cell). c.occupied) (all_but_flags i)) ∙ kept.holds.number ∙ sym (length_flagged home quotient value keys);
        all = λ k has. let t = flagged_has home quotient value k keys has in let a = kept.holds.all t.0 t.1 in
            let x : (i : ℕ) × (fs i ≡ Some k) = (a.0, to_fs a.0 t.0 a.1 ∙ ap (λ y. Some y) (sym t.2)) in x;
        only = λ i k e. let a = of_fs i k e in subst (λ (y : Key). Has y (flagged home quotient value keys)) (sym a.2) (has_flagged home quotient value a.0 keys (kept.holds.only i a.0 a.1));
      };
    }

-- to set the flags of a key that the map hasn't changes nothing
flag_same : (home quotient value : ℕ) (k : Key) → ((eqb k.home home && eqb k.quotient quotient) ≡ false) → flag home quotient value k ≡ k
flag_same home quotient value k f = ap (λ m. let x : Key = record k { flags = m } in x) (refused (eqb k.home home && eqb k.quotient quotient) value k.flags f)

pub flagged_absent : (home quotient value : ℕ) (keys : List Key) → (Present keys home quotient → ⊥) → flagged home quotient value keys ≡ keys
flagged_absent home quotient value [] absent = refl
flagged_absent home quotient value (k ∷ keys) absent =
    let test : Bool = eqb k.home home && eqb k.quotient quotient in
    let first : flag home quotient value k ≡ k = flag_same home quotient value k (⊎_elim
    (λ (t : test ≡ true). let b = and_true (eqb k.home home) (eqb k.quotient quotient) t in absurd (absent (k, inl refl, eqb-true k.home home b.0, eqb-true k.quotient quotient b.1)))
    (λ (f : test ≡ false). f)
    (cases_bool test)) in
    let rest : flagged home quotient value keys ≡ keys = flagged_absent home quotient value keys (λ p. absent (p.0, inr p.1, p.2, p.3)) in
    ap (λ x. x ∷ flagged home quotient value keys) first ∙ ap (λ l. k ∷ l) rest
