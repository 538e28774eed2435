-- The lines of one worker among those of a trace.
use Rattle.std.proofs.Common.{◌≡◌, ◌<◌, ℕ, zero, suc, List, [], ◌∷◌, ◌++◌, length, Option, Some, None, refl, sym, ap, ◌∙◌, subst, inl, inr, ⊎_elim}
use Rattle.std.specs.Prelude.{All, map, option_map, slice_get}
use Rattle.std.specs.List.{cons_option}
use Rattle.std.proofs.lemmas.List.Elements.{All-get_or, All-head, All-tail}
use Rattle.std.proofs.lemmas.Option.{get_or_from_slice_get, slice_get-map, slice_get_within}
use Rattle.tree_shape.specs.Tree.{Has}
use Rattle.tdb_base.proofs.ListLemmas.{at-left, at-within}
use Rattle.tdb_base.specs.Lines.{picked}

-- a fact of each element is a fact of the one at a place
pub all_at : {A : Type 0} (P : A → Type 0) (xs : List A) (i : ℕ) (x : A) → All P xs → slice_get xs i ≡ Some x → P x
all_at P xs i x all at = subst P (get_or_from_slice_get xs i x x at) (All-get_or P xs i x (slice_get_within xs i x at) all)

-- the element behind others
pub at_middle : {A : Type 0} (xs ys : List A) (x : A) → slice_get (xs ++ x ∷ ys) (length xs) ≡ Some x
at_middle [] ys x = refl
at_middle (y ∷ xs) ys x = at_middle xs ys x

-- places of a list to which another was appended
pub at_front : {A : Type 0} (xs ys : List A) (k : ℕ) → k < length xs → slice_get (xs ++ ys) k ≡ slice_get xs k
at_front xs ys k lt = let x = at-within xs k lt in at-left xs ys x.0 k x.1 ∙ sym x.1

pub at_end : {A : Type 0} (xs : List A) (x : A) → slice_get (xs ++ x ∷ []) (length xs) ≡ Some x
at_end xs x = at_middle xs [] x

-- what is picked at a place
pub picked_at : {A : Type 0} (xs : List A) (places : List ℕ) (n k : ℕ) (x : A) → All (λ i. i < length xs) places → slice_get places n ≡ Some k → slice_get xs k ≡ Some x → slice_get (picked xs places) n ≡ Some x
picked_at xs [] n k x within a b = cc a
picked_at xs (i ∷ places) zero k x within a b = let e : i ≡ k = cc a in rw (e, b) refl
picked_at xs (i ∷ places) (suc n) k x within a b =
    let here = at-within xs i (All-head (λ (j : ℕ). j < length xs) i places within) in
    rw here.1 (picked_at xs places n k x (All-tail (λ (j : ℕ). j < length xs) i places within) a b)

-- is one of the list
pub picked_has : {A : Type 0} (xs : List A) (places : List ℕ) (x : A) → Has x (picked xs places) → Has x xs
picked_has {A = A} xs [] x h = absurd h
picked_has {A = A} xs (i ∷ places) x h = by (slice_get xs i) refl (λ t. picked_has xs places x t) h
  where
    here : {A : Type 0} (x : A) (xs : List A) (i : ℕ) → slice_get xs i ≡ Some x → Has x xs
    here x [] i at = cc at
    here x (y ∷ ys) zero at = let e : y ≡ x = cc at in inl (sym e)
    here x (y ∷ ys) (suc i) at = inr (here x ys i at)

    by : (o : Option A) → slice_get xs i ≡ o → (Has x (picked xs places) → Has x xs) → Has x (cons_option o (picked xs places)) → Has x xs
    by None at more h = more h
    by (Some y) at more h = ⊎_elim (λ (e : x ≡ y). here x xs i (at ∙ ap Some (sym e))) more h

-- places in front see nothing of what is appended
pub picked_front : {A : Type 0} (xs ys : List A) (places : List ℕ) → All (λ i. i < length xs) places → picked (xs ++ ys) places ≡ picked xs places
picked_front xs ys [] within = refl
picked_front {A = A} xs ys (i ∷ places) within =
    let here = at_front xs ys i (All-head (λ (j : ℕ). j < length xs) i places within) in
    let rest = picked_front xs ys places (All-tail (λ (j : ℕ). j < length xs) i places within) in
    (λ t. cons_option (here t) (rest t))

-- what is picked of images are the images
pub picked_map : {A B : Type 0} (f : A → B) (xs : List A) (places : List ℕ) → picked (map f xs) places ≡ map f (picked xs places)
picked_map f xs [] = refl
picked_map {A = A} {B = B} f xs (i ∷ places) =
    ap (λ (o : Option B). cons_option o (picked (map f xs) places)) (slice_get-map f xs i) ∙ by (slice_get xs i) (picked_map f xs places)
  where
    by : (o : Option A) → picked (map f xs) places ≡ map f (picked xs places) → cons_option (option_map f o) (picked (map f xs) places) ≡ map f (cons_option o (picked xs places))
    by None rest = rest
    by (Some x) rest = ap (λ (t : List B). f x ∷ t) rest
