-- Vectors in rising order: there is one such list.
use Rattle.std.proofs.Common.{◌≡◌, ◌∙◌, ◌<◌, ℕ, zero, suc, List, [], ◌∷◌, length, get_or, Less, refl, sym, ap, subst, arith, inl, inr, ⊎_elim, ◌⊎◌}
use Rattle.std.specs.Prelude.{◌↔◌}
use Rattle.std.specs.Cmp.Lexicographic.{nat_list_cmp_total}
use Rattle.std.specs.List.{Contains}
use Rattle.std.specs.List.Sorted.{IsStrictlySortedBy}
use Rattle.std.proofs.lemmas.List.Elements.{All-contains}
use Rattle.std.proofs.lemmas.Map.Views.{All-after_first}
use Rattle.std.proofs.lemmas.Map.Keys.{sorted_tail}
use Rattle.trace_csv.specs.Sorted.{IsSortedSet, IsSortedText, list_order}
use Rattle.trace_csv.specs.Vectors.{vectors_text}

-- a vector is not before itself
not-before : (u : List ℕ) → list_order u u ≡ Less → ⊥
not-before u e = let turned = nat_list_cmp_total.antisymm u u in let t = rw e at turned in cc t

-- the first of some vectors, or one of the others
first-there : (x : List ℕ) (xs : List (List ℕ)) → Contains (x ∷ xs) x
first-there x xs = (0, omega arith, refl)

later-there : (x : List ℕ) (xs : List (List ℕ)) (v : List ℕ) → Contains xs v → Contains (x ∷ xs) v
later-there x xs v h = (suc h.0, omega (arith, h.1), h.2)

first-or-later : (x : List ℕ) (xs : List (List ℕ)) (v : List ℕ) → Contains (x ∷ xs) v → (x ≡ v) ⊎ Contains xs v
first-or-later x xs v h = by h.0 h.1 h.2
  where
    by : (k : ℕ) → k < suc (length xs) → get_or (x ∷ xs) k v ≡ v → (x ≡ v) ⊎ Contains xs v
    by zero d e = inl e
    by (suc k) d e = inr (k, omega arith, e)

none-there : (v : List ℕ) → Contains [] v → ⊥
none-there v h = omega (arith, h.1)

-- the first vector is before each later one
before-later : (x : List ℕ) (xs : List (List ℕ)) (v : List ℕ) → IsStrictlySortedBy list_order (x ∷ xs) → Contains xs v → list_order x v ≡ Less
before-later x xs v rising h = All-contains (λ q. list_order x q ≡ Less) xs v (All-after_first list_order x xs rising) h

-- of two rising lists with the same vectors the first vectors are the same
same-first : (x y : List ℕ) (xs ys : List (List ℕ)) → IsStrictlySortedBy list_order (x ∷ xs) → IsStrictlySortedBy list_order (y ∷ ys)
    → Contains (y ∷ ys) x → Contains (x ∷ xs) y → x ≡ y
same-first x y xs ys r s h k =
    ⊎_elim (λ (e : y ≡ x). sym e)
    (λ (there : Contains ys x).
    ⊎_elim (λ (e : x ≡ y). e)
    (λ (back : Contains xs y). absurd (not-before x (nat_list_cmp_total.trans x y x (before-later x xs y r back) (before-later y ys x s there))))
    (first-or-later x xs y k))
    (first-or-later y ys x h)

-- and the later ones are among the later ones
later-kept : (x y : List ℕ) (xs ys : List (List ℕ)) → IsStrictlySortedBy list_order (x ∷ xs) → x ≡ y
    → ((v : List ℕ) → Contains (x ∷ xs) v → Contains (y ∷ ys) v) → (v : List ℕ) → Contains xs v → Contains ys v
later-kept x y xs ys r e keep v h =
    ⊎_elim (λ (f : y ≡ v). absurd (not-before x (subst (λ u. list_order x u ≡ Less) (sym (e ∙ f)) (before-later x xs v r h))))
    (λ (there : Contains ys v). there)
    (first-or-later y ys v (keep v (later-there x xs v h)))

-- two rising lists with the same vectors are the same
same-rising : (xs ys : List (List ℕ)) → IsStrictlySortedBy list_order xs → IsStrictlySortedBy list_order ys
    → ((v : List ℕ) → Contains xs v → Contains ys v) → ((v : List ℕ) → Contains ys v → Contains xs v) → xs ≡ ys
same-rising [] [] r s f g = refl
same-rising [] (y ∷ ys) r s f g = absurd (none-there y (g y (first-there y ys)))
same-rising (x ∷ xs) [] r s f g = absurd (none-there x (f x (first-there x xs)))
same-rising (x ∷ xs) (y ∷ ys) r s f g =
    let e : x ≡ y = same-first x y xs ys r s (f x (first-there x xs)) (g y (first-there y ys)) in
    let rest : xs ≡ ys = same-rising xs ys (sorted_tail list_order x xs r) (sorted_tail list_order y ys s)
    (later-kept x y xs ys r e f) (later-kept y x ys xs s (sym e) g) in
    ap (λ z. z ∷ xs) e ∙ ap (λ zs. y ∷ zs) rest

pub one-sorted-set : (vectors others a b : List (List ℕ)) → ((v : List ℕ) → Contains vectors v ↔ Contains others v)
    → IsSortedSet vectors a → IsSortedSet others b → a ≡ b
one-sorted-set vectors others a b same s t =
    same-rising a b s.rising t.rising (λ v h. (t.same v).1 ((same v).0 ((s.same v).0 h))) (λ v h. (s.same v).1 ((same v).1 ((t.same v).0 h)))

pub one-sorted-text : (vectors others : List (List ℕ)) (a b : List ℕ) → ((v : List ℕ) → Contains vectors v ↔ Contains others v)
    → IsSortedText vectors a → IsSortedText others b → a ≡ b
one-sorted-text vectors others a b same s t =
    s.written ∙ ap vectors_text (one-sorted-set vectors others s.sorted t.sorted same s.set t.set) ∙ sym t.written
