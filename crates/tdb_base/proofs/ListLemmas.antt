-- The elements of a list by their places, and the lists that filters make.
use Rattle.std.proofs.Common.{◌⊎◌, inl, inr, ◌≡◌, ◌<◌, ◌+◌, ℕ, zero, suc, List, [], ◌∷◌, ◌++◌, length, Option, Some, None, Bool, true, false, cond, refl, sym, ap, subst, arith, ◌∙◌}
use Rattle.std.proofs.lemmas.Option.{slice_get-get_or}
use Rattle.std.specs.Prelude.{Contains, filter, flat_map, nat_lt, option_to_list, slice_get}
use Rattle.std.specs.List.{filter_map, cons_option, range_with_len}

-- some place of the list holds this element
abbrev pub At : {A : Type 0} → List A → A → Type 0
At xs x = (k : ℕ) × (slice_get xs k ≡ Some x)

pub at-next : {A : Type 0} (y : A) (xs : List A) (x : A) → At xs x → At (y ∷ xs) x
at-next y xs x h = (suc h.0, h.1)

pub at-contained : {A : Type 0} (xs : List A) (x : A) → Contains xs x → At xs x
at-contained xs x h = (h.0, slice_get-get_or xs h.0 x h.1 ∙ ap Some h.2)

pub at-left : {A : Type 0} (xs ys : List A) (x : A) (k : ℕ) → slice_get xs k ≡ Some x → slice_get (xs ++ ys) k ≡ Some x
at-left [] ys x k e = cc e
at-left (z ∷ xs) ys x zero e = e
at-left (z ∷ xs) ys x (suc k) e = at-left xs ys x k e

pub at-right : {A : Type 0} (xs ys : List A) (x : A) → At ys x → At (xs ++ ys) x
at-right [] ys x h = h
at-right (z ∷ xs) ys x h = at-next z (xs ++ ys) x (at-right xs ys x h)

-- an element, and the list before and after it
pub record Cut {A : Type 0} (xs : List A) (x : A) : Type 0 where
  pub before : List A
  pub after : List A
  pub whole : xs ≡ before ++ x ∷ after

pub cut-at : {A : Type 0} (xs : List A) (x : A) (k : ℕ) → slice_get xs k ≡ Some x → Cut xs x
cut-at [] x k e = cc e
cut-at (y ∷ xs) x zero e = record { before = []; after = xs; whole = let same : y ≡ x = cc e in ap (λ z. z ∷ xs) same }
cut-at (y ∷ xs) x (suc k) e = let rest = cut-at xs x k e in record { before = y ∷ rest.before; after = rest.after; whole = ap (λ t. y ∷ t) rest.whole }

-- a place within the list holds something
pub at-within : {A : Type 0} (xs : List A) (k : ℕ) → k < length xs → (x : A) × (slice_get xs k ≡ Some x)
at-within [] k h = absurd (omega arith)
at-within (x ∷ xs) zero h = (x, refl)
at-within (x ∷ xs) (suc k) h = at-within xs k (omega arith)

pub at-filter : {A : Type 0} (p : A → Bool) (xs : List A) (x : A) (k : ℕ) → slice_get xs k ≡ Some x → p x ≡ true → At (filter p xs) x
at-filter p [] x k e t = cc e
at-filter p (y ∷ xs) x zero e t =
    let same : y ≡ x = cc e in
    subst (λ (z : _). At (filter p (z ∷ xs)) x) (sym same) (rw t (zero, refl))
at-filter p (y ∷ xs) x (suc k) e t = by (p y) (at-filter p xs x k e t)
  where
    by : (b : Bool) → At (filter p xs) x → At (cond b (y ∷ filter p xs) (filter p xs)) x
    by true h = at-next y (filter p xs) x h
    by false h = h

-- what a filter keeps was there, and passes
pub filter-at : {A : Type 0} (p : A → Bool) (xs : List A) (x : A) (k : ℕ) → slice_get (filter p xs) k ≡ Some x → At xs x × (p x ≡ true)
filter-at p [] x k e = cc e
filter-at p (y ∷ xs) x k e = by (p y) refl (filter-at p xs x) k e
  where
    by : (b : Bool) → p y ≡ b → ((k : ℕ) → slice_get (filter p xs) k ≡ Some x → At xs x × (p x ≡ true))
        → (k : ℕ) → slice_get (cond b (y ∷ filter p xs) (filter p xs)) k ≡ Some x → At (y ∷ xs) x × (p x ≡ true)
    by true t more zero e = let same : y ≡ x = cc e in ((zero, ap Some same), subst (λ (z : _). p z ≡ true) same t)
    by true t more (suc k) e = let rest = more k e in (at-next y xs x rest.0, rest.1)
    by false t more k e = let rest = more k e in (at-next y xs x rest.0, rest.1)

pub at-filter_map : {A B : Type 0} (f : A → Option B) (xs : List A) (x : A) (y : B) (k : ℕ) → slice_get xs k ≡ Some x → f x ≡ Some y → At (filter_map f xs) y
at-filter_map f [] x y k e t = cc e
at-filter_map f (z ∷ xs) x y zero e t =
    let same : z ≡ x = cc e in
    subst (λ (w : _). At (filter_map f (w ∷ xs)) y) (sym same) (rw t (zero, refl))
at-filter_map f (z ∷ xs) x y (suc k) e t = by (f z) (at-filter_map f xs x y k e t)
  where
    by : (o : Option _) → At (filter_map f xs) y → At (cons_option o (filter_map f xs)) y
    by None h = h
    by (Some w) h = at-next w (filter_map f xs) y h

-- what a function gives of an element is among what it gives of all
pub at-flat_map : {A B : Type 0} (f : A → List B) (xs : List A) (x : A) (y : B) (k : ℕ)
    → slice_get xs k ≡ Some x → At (f x) y → At (flat_map f xs) y
at-flat_map f [] x y k e there = cc e
at-flat_map f (z ∷ xs) x y zero e there =
    let same : z ≡ x = cc e in
    let first : At (f z) y = subst (λ (w : _). At (f w) y) (sym same) there in
    (first.0, at-left (f z) (flat_map f xs) y first.0 first.1)
at-flat_map f (z ∷ xs) x y (suc k) e there = at-right (f z) (flat_map f xs) y (at-flat_map f xs x y k e there)

-- lists of at most one element, one after the other
pub flat_map-options : {A B : Type 0} (f : A → Option B) (xs : List A) → flat_map (λ x. option_to_list (f x)) xs ≡ filter_map f xs
flat_map-options f [] = refl
flat_map-options f (x ∷ xs) = by (f x) (flat_map-options f xs)
  where
    by : (o : Option _) → flat_map (λ x. option_to_list (f x)) xs ≡ filter_map f xs
        → option_to_list o ++ flat_map (λ x. option_to_list (f x)) xs ≡ cons_option o (filter_map f xs)
    by None rest = rest
    by (Some y) rest = ap (λ (t : List _). y ∷ t) rest

pub at-range : (from n k : ℕ) → k < n → slice_get (range_with_len from n) k ≡ Some (from + k)
at-range from zero k h = absurd (omega arith)
at-range from (suc n) zero h = let same : from ≡ from + 0 = omega arith in ap Some same
at-range from (suc n) (suc k) h = let same : (from + 1) + k ≡ from + suc k = omega arith in at-range (from + 1) n k (omega arith) ∙ ap Some same

-- a place before the next one is the last one or before it
pub before-or-last : (k n : ℕ) → k < n + 1 → (k < n) ⊎ (k ≡ n)
before-or-last k n h = by (nat_lt k n) refl
  where
    by : (b : Bool) → nat_lt k n ≡ b → (k < n) ⊎ (k ≡ n)
    by true e = inl (grind arith)
    by false e = inr (grind arith)
