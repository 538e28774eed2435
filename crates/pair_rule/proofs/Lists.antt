-- Lists: what they have, what comes twice, and how one place of a list changes.
use Rattle.std.proofs.Common.{◌≡◌, ◌≢◌, ◌⊎◌, ℕ, zero, suc, ◌<◌, List, [], ◌∷◌, ◌++◌, length, map, set, refl, sym, ap, ◌∙◌, subst, inl, inr, ⊎_elim, arith}
use mathlib.Core.Option.{none, some, some-ne-none, some-injective}
use lib.ListN.{get_elem?}
use lib.Seq.{map-set}
use Rattle.atomic_table.proofs.Lists.{at_set, at_snoc, set_again, at_map}
use Rattle.tree_shape.specs.Tree.{Has}
use Rattle.pair_rule.specs.Numbers.{NoRepeats}

module _ {A : Type 0} where
  pub has_front : (x : A) (xs ys : List A) → Has x xs → Has x (xs ++ ys)
  has_front x [] ys h = absurd h
  has_front x (z ∷ zs) ys h = ⊎_elim (λ (e : x ≡ z). inl e) (λ (t : Has x zs). inr (has_front x zs ys t)) h

  pub has_back : (x : A) (xs ys : List A) → Has x ys → Has x (xs ++ ys)
  has_back x [] ys h = h
  has_back x (z ∷ zs) ys h = inr (has_back x zs ys h)

  pub has_either : (x : A) (xs ys : List A) → Has x (xs ++ ys) → Has x xs ⊎ Has x ys
  has_either x [] ys h = inr h
  has_either x (z ∷ zs) ys h = ⊎_elim (λ (e : x ≡ z). inl (inl e)) (λ (t : Has x (zs ++ ys)). ⊎_elim (λ (a : Has x zs). inl (inr a)) (λ (b : Has x ys). inr b) (has_either x zs ys t)) h

  pub at_below : (l : List A) (i : ℕ) (a : A) → get_elem? l i ≡ some a → i < length l
  at_below [] i a e = absurd (some-ne-none a (sym e))
  at_below (x ∷ xs) zero a e = omega arith
  at_below (x ∷ xs) (suc i) a e = let h = at_below xs i a e in omega arith

  pub set_got : (l : List A) (i : ℕ) (a b : A) → get_elem? l i ≡ some a → get_elem? (set l i b) i ≡ some b
  set_got [] i a b e = absurd (some-ne-none a (sym e))
  set_got (x ∷ xs) zero a b e = refl
  set_got (x ∷ xs) (suc i) a b e = set_got xs i a b e

  pub get_one : (l : List A) (i : ℕ) (a b : A) → get_elem? l i ≡ some a → get_elem? l i ≡ some b → a ≡ b
  get_one l i a b e f = some-injective a b (sym e ∙ f)

  -- a fact of each element, after one is replaced
  pub each_set : (P : ℕ → A → Type 0) (l : List A) (i : ℕ) (b : A) → ((j : ℕ) (a : A) → get_elem? l j ≡ some a → P j a) → P i b → (j : ℕ) (a : A) → get_elem? (set l i b) j ≡ some a → P j a
  each_set P l i b all here j a e =
      ⊎_elim
      (λ (x : (j ≡ i) × (b ≡ a)). subst (λ (y : ℕ × A). P y.0 y.1) (λ k. (sym x.0 k, x.1 k)) here)
      (λ (x : (j ≢ i) × (get_elem? l j ≡ some a)). all j a x.1)
      (at_set l i j b a e)

  -- a fact of each element, after one is added
  pub each_snoc : (P : A → Type 0) (l : List A) (b : A) → ((j : ℕ) (a : A) → get_elem? l j ≡ some a → P a) → P b → (j : ℕ) (a : A) → get_elem? (l ++ b ∷ []) j ≡ some a → P a
  each_snoc P l b all here j a e = ⊎_elim (λ (x : get_elem? l j ≡ some a). all j a x) (λ (x : b ≡ a). subst P x here) (at_snoc l b a j e)

  -- what the elements are seen as is as it was
  pub map_same : {B : Type 0} (f : A → B) (l : List A) (i : ℕ) (v w : A) → get_elem? l i ≡ some v → f w ≡ f v → map f (set l i w) ≡ map f l
  map_same f l i v w e same = map-set f l i w ∙ (ap (set (map f l) i) same ∙ set_again (map f l) i (f v) (at_map f l i v e))

  pub of_snoc : (l : List A) (a b : A) (j : ℕ) → get_elem? (l ++ a ∷ []) j ≡ some b → ((j ≡ length l) × (a ≡ b)) ⊎ (get_elem? l j ≡ some b)
  of_snoc [] a b zero e = inl (refl, some-injective a b e)
  of_snoc [] a b (suc j) e = absurd (some-ne-none b (sym e))
  of_snoc (x ∷ xs) a b zero e = inr e
  of_snoc (x ∷ xs) a b (suc j) e = ⊎_elim (λ (t : (j ≡ length xs) × (a ≡ b)). inl (ap suc t.0, t.1)) (λ (t : get_elem? xs j ≡ some b). inr t) (of_snoc xs a b j e)

  pub not_there : (a : A) → none ≡ some a → ⊥
  not_there a e = some-ne-none a (sym e)

pub at_unmap : {A B : Type 0} (f : A → B) (l : List A) (i : ℕ) (b : B) → get_elem? (map f l) i ≡ some b → (a : A) × (get_elem? l i ≡ some a) × (f a ≡ b)
at_unmap f [] i b e = absurd (some-ne-none b (sym e))
at_unmap f (x ∷ xs) zero b e = (x, refl, some-injective (f x) b e)
at_unmap f (x ∷ xs) (suc i) b e = at_unmap f xs i b e

-- two lists without repeats that share nothing are one without repeats
pub no_repeats_both : (xs ys : List ℕ) → NoRepeats xs → NoRepeats ys → ((x : ℕ) → Has x xs → Has x ys → ⊥) → NoRepeats (xs ++ ys)
no_repeats_both [] ys p q apart = q
no_repeats_both (x ∷ xs) ys p q apart = (
  λ h. ⊎_elim (λ (a : Has x xs). p.0 a) (λ (b : Has x ys). apart x (inl refl) b) (has_either x xs ys h),
  no_repeats_both xs ys p.1 q (λ z h k. apart z (inr h) k),
)

-- and share nothing, where they are one without repeats
pub no_repeats_apart : (xs ys : List ℕ) → NoRepeats (xs ++ ys) → (x : ℕ) → Has x xs → Has x ys → ⊥
no_repeats_apart [] ys p x h k = h
no_repeats_apart (z ∷ xs) ys p x h k = ⊎_elim
    (λ (e : x ≡ z). p.0 (subst (λ (y : ℕ). Has y (xs ++ ys)) e (has_back x xs ys k)))
    (λ (t : Has x xs). no_repeats_apart xs ys p.1 x t k)
    h
