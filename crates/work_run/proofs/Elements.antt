-- What is in a list or not, and lists that are made by numbers.
use Rattle.std.proofs.Common.{◌≡◌, ◌⊎◌, ℕ, ◌<◌, List, [], ◌∷◌, map, Some, sym, ap, ◌∙◌, inl, inr, ⊎_elim, arith}
use Rattle.std.specs.Prelude.{option_map, slice_get}
use Rattle.std.specs.List.{range_with_len}
use Rattle.std.proofs.lemmas.Bool.{cases_eq}
use Rattle.std.proofs.lemmas.List.FromFn.{length-map-range_with_len}
use Rattle.std.proofs.lemmas.Option.{slice_get-map, slice_get_within}
use Rattle.tree_shape.specs.Tree.{Has}
use Rattle.tdb_base.proofs.ListLemmas.{at-range}

-- a number is in a list or not
pub has_or_not : (c : ℕ) (xs : List ℕ) → Has c xs ⊎ (Has c xs → ⊥)
has_or_not c [] = inr (λ h. h)
has_or_not c (x ∷ xs) = ⊎_elim
    (λ (e : c ≡ x). let yes : Has c (x ∷ xs) ⊎ (Has c (x ∷ xs) → ⊥) = inl (inl e) in yes)
    (λ (ne : c ≡ x → ⊥). ⊎_elim
    (λ (t : Has c xs). let yes : Has c (x ∷ xs) ⊎ (Has c (x ∷ xs) → ⊥) = inl (inr t) in yes)
    (λ (no : Has c xs → ⊥). let none : Has c (x ∷ xs) ⊎ (Has c (x ∷ xs) → ⊥) = inr (λ h. ⊎_elim (λ (e : c ≡ x). ne e) (λ (t : Has c xs). no t) h) in none)
    (has_or_not c xs))
    (cases_eq c x)

-- the elements of a list that is made by numbers
pub numbered_at : {A : Type 0} (f : ℕ → A) (n k : ℕ) → k < n → slice_get (map f (range_with_len 0 n)) k ≡ Some (f k)
numbered_at f n k lt = slice_get-map f (range_with_len 0 n) k ∙ (ap (option_map f) (at-range 0 n k lt) ∙ ap (λ (i : ℕ). Some (f i)) (omega arith))

pub at_numbered : {A : Type 0} (f : ℕ → A) (n k : ℕ) (x : A) → slice_get (map f (range_with_len 0 n)) k ≡ Some x → (k < n) × (x ≡ f k)
at_numbered f n k x at =
    let lt : k < n = omega (arith, slice_get_within (map f (range_with_len 0 n)) k x at, length-map-range_with_len f 0 n) in
    let here : Some x ≡ Some (f k) = sym at ∙ numbered_at f n k lt in
    (lt, cc here)
