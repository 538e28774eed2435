-- A path through all buckets of which each has another pair: then all buckets have one.
use Rattle.std.proofs.Common.{◌≡◌, ◌≢◌, ℕ, zero, suc, ◌<◌, ◌≤◌, List, [], ◌∷◌, length, refl, sym, ap, ◌∙◌, subst, inl, inr, ⊎_elim, arith}
use Rattle.tree_shape.specs.Tree.{Has}
use Rattle.probe_path.proofs.Buckets.{buckets_met, lines_of_8}
use Rattle.pair_rule.specs.Numbers.{NoRepeats}
use Rattle.pair_rule.specs.Paths.{Buckets, size, bucket, reach, Passed}

-- a list without one place of an element
without : (x : ℕ) (xs : List ℕ) → Has x xs → (rest : List ℕ) × (length xs ≡ suc (length rest)) × ((y : ℕ) → y ≢ x → Has y xs → Has y rest)
without x [] h = absurd h
without x (z ∷ xs) h = ⊎_elim
    (λ (e : x ≡ z). (xs, refl, λ y ne a. ⊎_elim (λ (f : y ≡ z). absurd (ne (f ∙ sym e))) (λ (t : Has y xs). t) a))
    (λ (t : Has x xs). let w = without x xs t in (z ∷ w.0, ap suc w.1, λ y ne a. ⊎_elim (λ (f : y ≡ z). inl f) (λ (b : Has y xs). inr (w.2 y ne b)) a))
    h

-- a list that has all numbers below a bound is as long
pub has_all_below : (n : ℕ) (xs : List ℕ) → ((x : ℕ) → x < n → Has x xs) → n ≤ length xs
has_all_below zero xs all = omega arith
has_all_below (suc n) xs all =
    let w = without n xs (all n (omega arith)) in
    let rest = has_all_below n w.0 (λ x lt. w.2 x (λ e. (let no : x ≡ n = e in absurd (omega (arith, lt, no)))) (all x (omega (arith, lt)))) in
    omega (arith, rest, w.1)

-- different numbers that a list has are no more than it is long
pub no_longer : (xs ys : List ℕ) → NoRepeats xs → ((x : ℕ) → Has x xs → Has x ys) → length xs ≤ length ys
no_longer [] ys once all = omega arith
no_longer (x ∷ xs) ys once all =
    let w = without x ys (all x (inl refl)) in
    let rest = no_longer xs w.0 once.1 (λ y has. w.2 y (λ e. once.0 (subst (λ (n : ℕ). Has n xs) e has)) (all y (inr has))) in
    omega (arith, rest, w.1)

module _ (b : Buckets) (deep : 3 ≤ b.d) (all_walked : reach b ≡ size b) where
  -- each bucket is on the pair's path, and so it has a pair
  pub all_are_filled : (In : ℕ → ℕ → Type 0) (pair : ℕ) → Passed b In pair (reach b) → (i : ℕ) → i < size b → (other : ℕ) × In i other
  unfolding size reach bucket
  all_are_filled In pair passed i below =
      let met = buckets_met b.width b.d pair deep i below in
      let within : met.0 < reach b = omega (arith, met.1, lines_of_8 b.d deep, all_walked) in
      let here = passed met.0 within in
      (here.0, subst (λ (n : ℕ). In n here.0) met.2 here.1)
