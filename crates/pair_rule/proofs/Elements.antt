-- Elements of lists, and their places.
use Rattle.std.proofs.Common.{◌≡◌, ℕ, zero, suc, ◌<◌, List, [], ◌∷◌, ◌++◌, length, get_or, map, refl, sym, ap, inl, inr, ⊎_elim, arith}
use Rattle.tree_shape.specs.Tree.{Has}

-- what is in a list, and in the list of what a function gives
pub has_map : {A B : Type 0} (f : A → B) (x : A) (xs : List A) → Has x xs → Has (f x) (map f xs)
has_map f x [] h = absurd h
has_map f x (y ∷ ys) h = ⊎_elim (λ (e : x ≡ y). inl (ap f e)) (λ (t : Has x ys). inr (has_map f x ys t)) h

pub has_unmap : {A B : Type 0} (f : A → B) (y : B) (xs : List A) → Has y (map f xs) → (x : A) × Has x xs × (y ≡ f x)
has_unmap f y [] h = absurd h
has_unmap f y (x ∷ xs) h = ⊎_elim (λ (e : y ≡ f x). (x, inl refl, e)) (λ (t : Has y (map f xs)). let m = has_unmap f y xs t in (m.0, inr m.1, m.2)) h

pub has_place : {A : Type 0} (x : A) (xs : List A) → Has x xs → (j : ℕ) × (j < length xs) × (get_or xs j x ≡ x)
has_place x [] h = absurd h
has_place x (y ∷ ys) h = ⊎_elim
    (λ (e : x ≡ y). let found : (j : ℕ) × (j < suc (length ys)) × (get_or (y ∷ ys) j x ≡ x) = (zero, omega arith, sym e) in found)
    (λ (t : Has x ys). let m = has_place x ys t in let found : (j : ℕ) × (j < suc (length ys)) × (get_or (y ∷ ys) j x ≡ x) = (suc m.0, omega (arith, m.1), m.2) in found)
    h

-- the element at a place
pub record Placed {A : Type 0} (xs : List A) (j : ℕ) : Type 0 where
  pub one : A
  pub there : Has one xs
  pub here : (d : A) → get_or xs j d ≡ one

pub placed : {A : Type 0} (xs : List A) (j : ℕ) → j < length xs → Placed xs j
placed [] j lt = absurd (omega arith)
placed (x ∷ xs) zero lt = record { one = x; there = inl refl; here = λ d. refl }
placed (x ∷ xs) (suc j) lt = let p = placed xs j (omega arith) in record { one = p.one; there = inr p.there; here = λ d. p.here d }

-- a fact of each place, when an element is added
pub each_push : {A : Type 0} (P : ℕ → A → Type 0) (xs : List A) (x : A) → ((j : ℕ) (d : A) → j < length xs → P j (get_or xs j d)) → P (length xs) x
    → (j : ℕ) (d : A) → j < length (xs ++ x ∷ []) → P j (get_or (xs ++ x ∷ []) j d)
each_push P [] x each here zero d lt = here
each_push P [] x each here (suc j) d lt = absurd (omega arith)
each_push P (y ∷ ys) x each here zero d lt = each zero d (omega arith)
each_push P (y ∷ ys) x each here (suc j) d lt = each_push (λ k. P (suc k)) ys x (λ k e l. each (suc k) e (omega arith)) here j d (omega arith)
