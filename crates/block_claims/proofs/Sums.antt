-- Sums over lists, and how they change with one element.
use Rattle.std.proofs.Common.{◌≡◌, ℕ, zero, suc, ◌+◌, ◌≤◌, List, [], ◌∷◌, map, sum_by, set, sym, ap, refl, arith}
use Rattle.std.proofs.lemmas.List.Sums.{sum_by-cons}
use mathlib.Core.Option.{some, some-ne-none, some-injective}
use lib.ListN.{get_elem?}

module _ {A : Type 0} where
  pub total_set : (f : A → ℕ) (l : List A) (i : ℕ) (v w : A) → get_elem? l i ≡ some v → sum_by f (set l i w) + f v ≡ sum_by f l + f w
  total_set f [] i v w e = absurd (some-ne-none v (sym e))
  total_set f (x ∷ xs) zero v w e =
      let c : f x ≡ f v = ap f (some-injective x v e) in
      omega (arith, sum_by-cons f w xs, sum_by-cons f x xs, c)
  total_set f (x ∷ xs) (suc i) v w e = omega (arith, total_set f xs i v w e, sum_by-cons f x (set xs i w), sum_by-cons f x xs)

  pub total_one : (f : A → ℕ) (l : List A) (i : ℕ) (v : A) → get_elem? l i ≡ some v → f v ≤ sum_by f l
  total_one f [] i v e = absurd (some-ne-none v (sym e))
  total_one f (x ∷ xs) zero v e = let c : f x ≡ f v = ap f (some-injective x v e) in omega (arith, sum_by-cons f x xs, c)
  total_one f (x ∷ xs) (suc i) v e = omega (arith, total_one f xs i v e, sum_by-cons f x xs)

  pub total_none : (f : A → ℕ) (l : List A) → ((j : ℕ) (v : A) → get_elem? l j ≡ some v → f v ≡ 0) → sum_by f l ≡ 0
  total_none f [] h = refl
  total_none f (x ∷ xs) h = omega (arith, sum_by-cons f x xs, h 0 x refl, total_none f xs (λ j v e. h (suc j) v e))

  pub total_le : (f g : A → ℕ) (l : List A) → ((j : ℕ) (v : A) → get_elem? l j ≡ some v → f v ≤ g v) → sum_by f l ≤ sum_by g l
  total_le f g [] h = omega arith
  total_le f g (x ∷ xs) h = omega (arith, sum_by-cons f x xs, sum_by-cons g x xs, h 0 x refl, total_le f g xs (λ j v e. h (suc j) v e))

module _ {A B : Type 0} where
  pub total_map : (f : A → B) (g : B → ℕ) (l : List A) → sum_by g (map f l) ≡ sum_by (λ x. g (f x)) l
  total_map f g [] = refl
  total_map f g (x ∷ xs) = omega (arith, total_map f g xs, sum_by-cons g (f x) (map f xs), sum_by-cons (λ y. g (f y)) x xs)
