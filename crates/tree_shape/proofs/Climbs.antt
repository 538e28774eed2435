-- A climb from a slot's position to the root, that marks each position on its way.
use Rattle.std.proofs.Common.{◌≡◌, ◌⊎◌, ℕ, zero, suc, ◌+◌, ◌-◌, ◌*◌, ◌/◌, ◌^◌, ◌<◌, ◌≤◌, Bool, true, false, cond, inl, inr, List, length, get_or, set, sym, ap, ◌∙◌, subst, ⊎_elim, arith, get_or-set_same, get_or-set_other}
use Rattle.std.proofs.lemmas.Nat.{shr-shr, shr_le, pow-add}
use Rattle.std.proofs.lemmas.Bool.{cases_eq, cases_lt}
use Rattle.std.proofs.lemmas.List.Sums.{sum_by-set}
use Rattle.std.proofs.Math.Pow.{pow_mono}
use Rattle.tree_shape.specs.Positions.{IsAbove}
use Rattle.tree_shape.specs.Changed.{IsMarked, marked_count}
use Rattle.tree_shape.proofs.Places.{halved_after, below_power, next_power}

-- one mark more
marked_same : (marks : List Bool) (p : ℕ) → p < length marks → IsMarked (set marks p true) p
marked_same marks p h = get_or-set_same marks p true false h

marked_other : (marks : List Bool) (p q : ℕ) → (q ≡ p → ⊥) → get_or (set marks p true) q false ≡ get_or marks q false
marked_other marks p q h = get_or-set_other marks p q true false h

count_more : (marks : List Bool) (p : ℕ) → p < length marks → get_or marks p false ≡ false → marked_count (set marks p true) ≡ marked_count marks + 1
count_more marks p h free =
    let e = sum_by-set (λ (mark : Bool). cond mark 1 0) marks p true false h in
    let weight : Bool → ℕ = λ b. cond b 1 0 in
    let none : weight (get_or marks p false) ≡ 0 = ap weight free in
    omega (arith, e, none)

-- All above a marked position is marked.
abbrev pub Upwards : List Bool → Type 0
Upwards marks = (p : ℕ) → IsMarked marks p → 2 ≤ p / 2 → IsMarked marks (p / 2)

pub marked_above : (marks : List Bool) → Upwards marks → (p n : ℕ) → IsMarked marks p → 2 ≤ p / 2 ^ n → IsMarked marks (p / 2 ^ n)
marked_above marks up p zero h big = subst (λ (q : ℕ). IsMarked marks q) (omega arith) h
marked_above marks up p (suc n) h big =
    let e = halved_after p n in
    let low : 2 ≤ p / 2 ^ n / 2 = omega (arith, e) in
    subst (λ (q : ℕ). IsMarked marks q) e (up (p / 2 ^ n) (marked_above marks up p n h (omega arith)) low)

-- after so many steps from the position `start`, the next is the position p
pub record Climbed (first marks : List Bool) (start p added : ℕ) : Type 0 where
  pub at : p ≡ start / 2 ^ added
  pub kept : (q : ℕ) → IsMarked first q → IsMarked marks q
  pub made : (q : ℕ) → IsMarked marks q → IsMarked first q ⊎ ((2 ≤ q) × IsAbove q start)
  pub climbed : (n : ℕ) → n < added → IsMarked marks (start / 2 ^ n)
  pub ahead : (q : ℕ) → q ≤ p → IsMarked marks q → IsMarked first q
  pub tall : 0 < added → 2 ^ added ≤ start
  pub count : marked_count marks ≡ marked_count first + added

pub begins : (marks : List Bool) (start : ℕ) → Climbed marks marks start start 0
begins marks start = record {
  at = omega arith;
  kept = λ q h. h;
  made = λ q h. inl h;
  climbed = λ n h. absurd (omega arith);
  ahead = λ q le h. h;
  tall = λ h. absurd (omega arith);
  count = omega arith;
}

pub inside : (first marks : List Bool) (start p added : ℕ) → Climbed first marks start p added → p ≤ start
inside first marks start p added c = let h = shr_le start added in omega (arith, c.at)

pub few_added : (first marks : List Bool) (start p added : ℕ) → Climbed first marks start p added → added ≤ start
few_added first marks start p added c =
    ⊎_elim (λ (none : added ≡ 0). omega arith) (λ (some : added ≡ 0 → ⊥). let h = c.tall (omega arith) in let g = below_power added in omega arith) (cases_eq added 0)

module _ (first marks : List Bool) (start p added : ℕ) (c : Climbed first marks start p added) (big : 2 ≤ p) (room : p < length marks) (free : get_or marks p false ≡ false) where
  next_kept : (q : ℕ) → IsMarked marks q → IsMarked (set marks p true) q
  next_kept q h = ⊎_elim (λ (here : q ≡ p). subst (λ (n : ℕ). IsMarked (set marks p true) n) (sym here) (marked_same marks p room)) (λ (other : q ≡ p → ⊥). marked_other marks p q other ∙ h) (cases_eq q p)

  next_made : (q : ℕ) → IsMarked (set marks p true) q → IsMarked first q ⊎ ((2 ≤ q) × IsAbove q start)
  next_made q h = ⊎_elim (λ (here : q ≡ p). inr (omega arith, (added, sym c.at ∙ sym here))) (λ (other : q ≡ p → ⊥). c.made q (sym (marked_other marks p q other) ∙ h)) (cases_eq q p)

  next_climbed : (n : ℕ) → n < added + 1 → IsMarked (set marks p true) (start / 2 ^ n)
  next_climbed n lt = ⊎_elim
      (λ (before : n < added). next_kept (start / 2 ^ n) (c.climbed n before))
      (λ (last : added ≤ n). let e : added ≡ n = omega arith in subst (λ (q : ℕ). IsMarked (set marks p true) q) (c.at ∙ ap (λ m. start / 2 ^ m) e) (marked_same marks p room))
      (cases_lt n added)

  pub goes_on : Climbed first (set marks p true) start (p / 2) (added + 1)
  goes_on = record {
    at = ap (λ m. m / 2) c.at ∙ halved_after start added ∙ ap (λ m. start / 2 ^ m) (omega arith);
    kept = λ q h. next_kept q (c.kept q h);
    made = next_made;
    climbed = next_climbed;
    ahead = λ q le h. c.ahead q (omega arith) (sym (marked_other marks p q (omega arith)) ∙ h);
    tall = λ h. subst (λ (m : ℕ). 2 ^ m ≤ start) (omega arith) (next_power start added p big (sym c.at));
    count = let h = count_more marks p room free in omega (arith, h, c.count);
  }

-- a climb ends at the root, or at a position that was marked before
abbrev pub Ends : List Bool → ℕ → Type 0
Ends marks p = (p ≤ 1) ⊎ IsMarked marks p

module _ (first marks : List Bool) (start p added : ℕ) (up : Upwards first) (c : Climbed first marks start p added) (ends : Ends marks p) where
  further : (n : ℕ) → added ≤ n → start / 2 ^ n ≡ p / 2 ^ (n - added)
  further n le = ap (λ m. start / 2 ^ m) (omega arith) ∙ sym (shr-shr start added (n - added)) ∙ ap (λ m. m / 2 ^ (n - added)) (sym c.at)

  all_marked : (q n : ℕ) → 2 ≤ q → start / 2 ^ n ≡ q → IsMarked marks q
  all_marked q n big e = ⊎_elim
      (λ (before : n < added). subst (λ (m : ℕ). IsMarked marks m) e (c.climbed n before))
      (λ (from : added ≤ n).
      let on : p / 2 ^ (n - added) ≡ q = sym (further n from) ∙ e in
      ⊎_elim
      (λ (root : p ≤ 1). let less = shr_le p (n - added) in absurd (omega (arith, on)))
      (λ (met : IsMarked marks p).
      let old = c.ahead p (omega arith) met in
      c.kept q (subst (λ (m : ℕ). IsMarked first m) on (marked_above first up p (n - added) old (omega (arith, on)))))
      ends)
      (cases_lt n added)

  pub climbs : (q : ℕ) → (IsMarked marks q → IsMarked first q ⊎ ((2 ≤ q) × IsAbove q start)) × (IsMarked first q ⊎ ((2 ≤ q) × IsAbove q start) → IsMarked marks q)
  climbs q = (
    c.made q,
    λ h. ⊎_elim (λ (old : IsMarked first q). c.kept q old) (λ (above : (2 ≤ q) × IsAbove q start). all_marked q above.1.0 above.0 above.1.1) h,
  )

pub few_steps : (first marks : List Bool) (from p added d : ℕ) → Climbed first marks (from / 2) p added → from < 2 ^ (d + 1) → added ≤ d - 1
few_steps first marks from p added d c small =
    ⊎_elim (λ (none : added ≡ 0). omega arith)
    (λ (some : added ≡ 0 → ⊥).
    let tall = c.tall (omega arith) in
    ⊎_elim (λ (lt : added < d). omega arith)
    (λ (le : d ≤ added). let more : 2 ^ d ≤ 2 ^ added = pow_mono le in let e : 2 ^ (d + 1) ≡ 2 * 2 ^ d = omega (arith, pow-add 2 d 1) in absurd (omega arith))
    (cases_lt added d))
    (cases_eq added 0)
