-- Keys in slots, and the cells that show them.
use Rattle.std.proofs.Common.{◌≡◌, ◌≢◌, ◌⊎◌, ℕ, zero, suc, ◌<◌, ◌≤◌, Bool, true, false, Option, Some, None, refl, sym, ap, ◌∙◌, subst, inl, inr, ⊎_elim, arith}
use Rattle.std.proofs.lemmas.Bool.{cases_lt}
use Rattle.cleary_core.specs.declared.cells.Cell.{Cell}
use Rattle.cleary_core.specs.Cells.{mark_of}
use Rattle.cleary_core.specs.Map.{Key, Slots, Taken, Laid, Drawn, occupied_count}

pub cases_same : (i j : ℕ) → (i ≡ j) ⊎ (i ≢ j)
cases_same i j = ⊎_elim
    (λ (less : i < j). inr (λ e. omega arith))
    (λ (from : j ≤ i). ⊎_elim (λ (more : j < i). inr (λ e. omega arith)) (λ (up : i ≤ j). inl (omega arith)) (cases_lt j i))
    (cases_lt i j)

pub cases_bool : (b : Bool) → (b ≡ true) ⊎ (b ≡ false)
cases_bool true = inl refl
cases_bool false = inr refl

pub cases_option : (o : Option Key) → (o ≡ None) ⊎ ((k : Key) × (o ≡ Some k))
cases_option None = inl refl
cases_option (Some k) = inr (k, refl)

pub none_some : (o : Option Key) (k : Key) → o ≡ None → o ≡ Some k → ⊥
none_some o k e f = cc

pub same_key : (o : Option Key) (k l : Key) → o ≡ Some k → o ≡ Some l → k ≡ l
same_key o k l e f = cc

pub clash : (b : Bool) → b ≡ false → b ≡ true → ⊥
clash b e f = cc

module _ (n : ℕ) (slots : Slots) (laid : Laid n slots) where
  -- where a home is, a key stands
  pub home_taken : (i : ℕ) (k : Key) → slots i ≡ Some k → Taken slots k.home
  home_taken i k e = ⊎_elim
      (λ (less : i < k.home). laid.run_down i k.home k e (omega arith) (omega arith))
      (λ (from : k.home ≤ i). laid.run_up i k.home k e (omega arith) from)
      (cases_lt i k.home)

  pub home_inside : (i : ℕ) (k : Key) → slots i ≡ Some k → k.home < n
  home_inside i k e = let t = home_taken i k e in laid.past k.home t.0 t.1

  -- two keys of one home have only keys between them
  pub together : (i j m : ℕ) (k l : Key) → slots i ≡ Some k → slots j ≡ Some l → k.home ≡ l.home → i ≤ m → m ≤ j → Taken slots m
  together i j m k l e f same low high = ⊎_elim
      (λ (less : m < k.home). laid.run_down i m k e low (omega arith))
      (λ (from : k.home ≤ m). laid.run_up j m l f (omega arith) high)
      (cases_lt m k.home)

  module _ (cells : ℕ → Cell) (drawn : Drawn n cells slots) where
    pub taken_of : (i : ℕ) → i < n → (cells i).occupied ≡ true → Taken slots i
    taken_of i h t = ⊎_elim (λ (e : slots i ≡ None). absurd (clash (cells i).occupied (ap (λ c. c.occupied) (drawn.empty i h e)) t)) (λ (k : Taken slots i). k) (cases_option (slots i))

    pub none_of : (i : ℕ) → (cells i).occupied ≡ false → slots i ≡ None
    none_of i f = ⊎_elim (λ (e : slots i ≡ None). e) (λ (k : Taken slots i). absurd (clash (cells i).occupied f (drawn.occupied i k.0 k.1))) (cases_option (slots i))

    pub virgin_taken : (i : ℕ) → i < n → (cells i).virgin ≡ true → Taken slots i
    virgin_taken i h t = let v = drawn.virgin i h t in subst (λ (m : ℕ). Taken slots m) v.3 (home_taken v.0 v.1 v.2)

    pub free_virgin : (i : ℕ) → i < n → slots i ≡ None → (cells i).virgin ≡ false
    free_virgin i h e = ap (λ c. c.virgin) (drawn.empty i h e)

-- one more occupied cell
pub count_same : (old new : ℕ → Cell) (n : ℕ) → ((i : ℕ) → i < n → (new i).occupied ≡ (old i).occupied) → occupied_count new n ≡ occupied_count old n
count_same old new zero same = refl
count_same old new (suc n) same = let h = count_same old new n (λ i k. same i (omega arith)) in let e = ap mark_of (same n (omega arith)) in omega arith

pub count_more : (old new : ℕ → Cell) (free n : ℕ) → free < n → (old free).occupied ≡ false → (new free).occupied ≡ true → ((i : ℕ) → i < n → i ≢ free → (new i).occupied ≡ (old i).occupied)
    → occupied_count new n ≡ suc (occupied_count old n)
count_more old new free zero h f t same = absurd (omega arith)
count_more old new free (suc n) h f t same = ⊎_elim
    (λ (e : free ≡ n).
    let a : mark_of (old n).occupied ≡ 0 = ap mark_of (subst (λ (m : ℕ). (old m).occupied ≡ false) e f) in
    let b : mark_of (new n).occupied ≡ 1 = ap mark_of (subst (λ (m : ℕ). (new m).occupied ≡ true) e t) in
    let c = count_same old new n (λ i k. same i (omega arith) (omega arith)) in
    omega arith)
    (λ (ne : free ≢ n).
    let c = count_more old new free n (omega arith) f t (λ i k d. same i (omega arith) d) in
    let e = ap mark_of (same n (omega arith) (λ d. ne (sym d))) in
    omega arith)
    (cases_same free n)

pub count_full : (cells : ℕ → Cell) (n : ℕ) → ((i : ℕ) → i < n → (cells i).occupied ≡ true) → occupied_count cells n ≡ n
count_full cells zero all = refl
count_full cells (suc n) all = let h = count_full cells n (λ i k. all i (omega arith)) in let e : mark_of (cells n).occupied ≡ 1 = ap mark_of (all n (omega arith)) in omega arith

pub cases_le : (m n : ℕ) → (m ≤ n) ⊎ (n < m)
cases_le m n = ⊎_elim (λ (less : n < m). inr less) (λ (up : m ≤ n). inl up) (cases_lt n m)

-- the keys of one group stand in cells that follow each other
pub follow : (n : ℕ) (slots : Slots) → Laid n slots → (i j m : ℕ) (k l : Key) → slots i ≡ Some k → slots j ≡ Some l → k.home ≡ l.home → i ≤ m → m ≤ j → (x : Key) × (slots m ≡ Some x) × (x.home ≡ k.home)
follow n slots laid i j m k l e f same low high =
    let t = together n slots laid i j m k l e f same low high in
    let a : k.home ≤ t.0.home = ⊎_elim
    (λ (here : i ≡ m). omega (arith, ap (λ (x : Key). x.home) (same_key (slots m) t.0 k t.1 (ap slots (sym here) ∙ e))))
    (λ (ne : i ≢ m). laid.rising i m k t.0 (omega arith) e t.1)
    (cases_same i m) in
    let b : t.0.home ≤ l.home = ⊎_elim
    (λ (here : m ≡ j). omega (arith, ap (λ (x : Key). x.home) (same_key (slots j) t.0 l (ap slots (sym here) ∙ t.1) f)))
    (λ (ne : m ≢ j). laid.rising m j t.0 l (omega arith) t.1 f)
    (cases_same m j) in
    (t.0, t.1, omega arith)
