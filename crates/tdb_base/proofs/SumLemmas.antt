-- Sums over a list by the classes of its elements.
use Rattle.std.proofs.Common.{◌≡◌, ◌≢◌, ◌≤◌, ◌<◌, ◌+◌, ◌*◌, ℕ, zero, suc, List, [], ◌∷◌, length, Option, Some, None, Bool, true, false, cond, refl, sym, ap, arith, ◌∙◌}
use Rattle.std.proofs.lemmas.List.Sums.{sum_by-cons}
use Rattle.std.specs.Prelude.{slice_get, filter, ◌==◌, sum_by, count_by}
use Rattle.std.specs.List.{filter_map, cons_option, range_with_len}
use Rattle.tdb_base.proofs.ListLemmas.{At}

pub sum-both : {A : Type 0} (f g : A → ℕ) (xs : List A) → sum_by (λ x. f x + g x) xs ≡ sum_by f xs + sum_by g xs
sum-both f g [] = refl
sum-both f g (x ∷ xs) =
    let a = sum_by-cons (λ (x : _). f x + g x) x xs in
    let b = sum_by-cons f x xs in
    let c = sum_by-cons g x xs in
    let d = sum-both f g xs in
    omega (arith, a, b, c, d)

pub sum-same : {A : Type 0} (f g : A → ℕ) (xs : List A) → ((x : A) → At xs x → f x ≡ g x) → sum_by f xs ≡ sum_by g xs
sum-same f g [] h = refl
sum-same f g (x ∷ xs) h =
    let a = sum_by-cons f x xs in
    let b = sum_by-cons g x xs in
    let c = h x (zero, refl) in
    let d = sum-same f g xs (λ y k. h y (suc k.0, k.1)) in
    omega (arith, a, b, c, d)

pub sum-none : {A : Type 0} (xs : List A) → sum_by (λ x. 0) xs ≡ 0
sum-none [] = refl
sum-none (x ∷ xs) = let a = sum_by-cons (λ (x : _). 0) x xs in let b = sum-none xs in omega (arith, a, b)

pub sum-ones : {A : Type 0} (xs : List A) → sum_by (λ x. 1) xs ≡ length xs
sum-ones [] = refl
sum-ones (x ∷ xs) = let a = sum_by-cons (λ (x : _). 1) x xs in let b = sum-ones xs in omega (arith, a, b)

pub sum-where : {A : Type 0} (p : A → Bool) (n : ℕ) (xs : List A) → sum_by (λ x. cond (p x) n 0) xs ≡ n * count_by p xs
sum-where p n [] = omega arith
sum-where p n (x ∷ xs) = by (p x) refl (sum-where p n xs)
  where
    by : (b : Bool) → p x ≡ b → sum_by (λ x. cond (p x) n 0) xs ≡ n * count_by p xs → sum_by (λ x. cond (p x) n 0) (x ∷ xs) ≡ n * count_by p (x ∷ xs)
    by true e c =
        let a : sum_by (λ x. cond (p x) n 0) (x ∷ xs) ≡ n + sum_by (λ x. cond (p x) n 0) xs = sum_by-cons (λ (x : _). cond (p x) n 0) x xs ∙ rw e refl in
        let b : count_by p (x ∷ xs) ≡ 1 + count_by p xs = sum_by-cons (λ (x : _). cond (p x) 1 0) x xs ∙ rw e refl in
        rw b (omega (arith, a, c))
    by false e c =
        let a : sum_by (λ x. cond (p x) n 0) (x ∷ xs) ≡ 0 + sum_by (λ x. cond (p x) n 0) xs = sum_by-cons (λ (x : _). cond (p x) n 0) x xs ∙ rw e refl in
        let b : count_by p (x ∷ xs) ≡ 0 + count_by p xs = sum_by-cons (λ (x : _). cond (p x) 1 0) x xs ∙ rw e refl in
        rw b (omega (arith, a, c))

-- the sum over what a filter keeps, with one element more
pub sum-filter-cons : {A : Type 0} (f : A → ℕ) (p : A → Bool) (x : A) (xs : List A) → sum_by f (filter p (x ∷ xs)) ≡ cond (p x) (f x) 0 + sum_by f (filter p xs)
sum-filter-cons f p x xs = by (p x)
  where
    by : (b : Bool) → sum_by f (cond b (x ∷ filter p xs) (filter p xs)) ≡ cond b (f x) 0 + sum_by f (filter p xs)
    by true = sum_by-cons f x (filter p xs)
    by false = omega arith

-- a sum, class by class: each element's key is met once among the classes
pub sum-by-classes : {A K : Type 0} (same : K → K → Bool) (key : A → K) (classes : List K) (f : A → ℕ) (xs : List A)
    → ((x : A) → At xs x → count_by (λ c. same (key x) c) classes ≡ 1)
    → sum_by f xs ≡ sum_by (λ c. sum_by f (filter (λ x. same (key x) c) xs)) classes
sum-by-classes same key classes f [] once = sym (sum-none classes)
sum-by-classes same key classes f (x ∷ xs) once =
    let here : sum_by (λ c. cond (same (key x) c) (f x) 0) classes ≡ f x * count_by (λ c. same (key x) c) classes = sum-where (λ (c : _). same (key x) c) (f x) classes in
    let one : sum_by (λ c. cond (same (key x) c) (f x) 0) classes ≡ f x = here ∙ ap (λ (n : ℕ). f x * n) (once x (zero, refl)) ∙ omega arith in
    let rest = sum-by-classes same key classes f xs (λ y k. once y (suc k.0, k.1)) in
    let split : sum_by (λ c. sum_by f (filter (λ x. same (key x) c) (x ∷ xs))) classes
    ≡ sum_by (λ c. cond (same (key x) c) (f x) 0 + sum_by f (filter (λ x. same (key x) c) xs)) classes =
    sum-same (λ (c : _). sum_by f (filter (λ x. same (key x) c) (x ∷ xs))) (λ (c : _). cond (same (key x) c) (f x) 0 + sum_by f (filter (λ x. same (key x) c) xs)) classes
    (λ c k. sum-filter-cons f (λ (y : _). same (key y) c) x xs) in
    let both = sum-both (λ (c : _). cond (same (key x) c) (f x) 0) (λ (c : _). sum_by f (filter (λ x. same (key x) c) xs)) classes in
    let first = sum_by-cons f x xs in
    omega (arith, first, rest, split, both, one)

-- the weight of what a function may give
abbrev pub weight_of : {B : Type 0} → (B → ℕ) → Option B → ℕ
weight_of f None = 0
weight_of f (Some y) = f y

pub sum-filter_map : {A B : Type 0} (f : B → ℕ) (g : A → Option B) (xs : List A) → sum_by f (filter_map g xs) ≡ sum_by (λ x. weight_of f (g x)) xs
sum-filter_map f g [] = refl
sum-filter_map f g (x ∷ xs) =
    let a = sum_by-cons (λ (x : _). weight_of f (g x)) x xs in
    let b = sum-filter_map f g xs in
    let c : sum_by f (filter_map g (x ∷ xs)) ≡ weight_of f (g x) + sum_by f (filter_map g xs) = by (g x) in
    omega (arith, a, b, c)
  where
    by : (o : Option _) → sum_by f (cons_option o (filter_map g xs)) ≡ weight_of f o + sum_by f (filter_map g xs)
    by None = omega arith
    by (Some y) = sum_by-cons f y (filter_map g xs)

-- sums over a list and over the numbers of its places
pub sum-places : {A : Type 0} (f : A → ℕ) (g : ℕ → ℕ) (from : ℕ) (xs : List A) → ((k : ℕ) (x : A) → slice_get xs k ≡ Some x → f x ≡ g (from + k))
    → sum_by f xs ≡ sum_by g (range_with_len from (length xs))
sum-places f g from [] h = refl
sum-places f g from (x ∷ xs) h =
    let a = sum_by-cons f x xs in
    let b = sum_by-cons g from (range_with_len (from + 1) (length xs)) in
    let here : f x ≡ g from = h zero x refl ∙ ap g (omega arith) in
    let rest = sum-places f g (from + 1) xs (λ k y e. h (suc k) y e ∙ ap g (omega arith)) in
    omega (arith, a, b, here, rest)

-- a number of a range is met once in it
pub count-below : (n from x : ℕ) → x < from → count_by (λ c. x == c) (range_with_len from n) ≡ 0
count-below zero from x h = refl
count-below (suc n) from x h =
    let a : count_by (λ c. x == c) (range_with_len from (suc n)) ≡ cond (x == from) 1 0 + count_by (λ c. x == c) (range_with_len (from + 1) n) = sum_by-cons (λ (c : ℕ). cond (x == c) 1 0) from (range_with_len (from + 1) n) in
    let b = count-below n (from + 1) x (omega arith) in
    let differ : (x == from) ≡ false = grind arith in
    a ∙ rw (differ, b) refl

pub count-range : (n from x : ℕ) → from ≤ x → x < from + n → count_by (λ c. x == c) (range_with_len from n) ≡ 1
count-range zero from x low high = absurd (omega arith)
count-range (suc n) from x low high = by (x == from) refl (count-range n (from + 1) x)
  where
    step : count_by (λ c. x == c) (range_with_len from (suc n)) ≡ cond (x == from) 1 0 + count_by (λ c. x == c) (range_with_len (from + 1) n)
    step = sum_by-cons (λ (c : ℕ). cond (x == c) 1 0) from (range_with_len (from + 1) n)

    by : (b : Bool) → (x == from) ≡ b → (from + 1 ≤ x → x < (from + 1) + n → count_by (λ c. x == c) (range_with_len (from + 1) n) ≡ 1)
        → count_by (λ c. x == c) (range_with_len from (suc n)) ≡ 1
    by true e more = let same : x ≡ from = grind arith in step ∙ rw (e, count-below n (from + 1) x (omega arith)) refl
    by false e more = let differ : x ≢ from = grind arith in step ∙ rw (e, more (omega arith) (omega arith)) refl
