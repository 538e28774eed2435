-- The lines of blocks that rise: they are all the lines of the worker whose the blocks are.
use Rattle.std.proofs.Common.{◌≡◌, ◌⊎◌, ◌<◌, ◌≤◌, ◌+◌, ◌*◌, ◌-◌, ◌/◌, ℕ, zero, suc, Bool, true, false, cond, List, [], ◌∷◌, ◌++◌, min, refl, sym, ap, ◌∙◌, subst, inl, inr, ⊎_elim, arith}
use Rattle.std.specs.Prelude.{◌==◌, All, filter, flat_map}
use Rattle.std.specs.List.{range_with_len}
use Rattle.std.proofs.lemmas.Bool.{cases_eq, eq-eqb, eqb-true}
use Rattle.std.proofs.lemmas.Nat.{div-mul-add, mod_below, div-add-mod', row_fits}
use Rattle.std.proofs.lemmas.List.Elements.{All-nil, All-cons, All-head, All-tail}
use Rattle.tree_shape.specs.Tree.{Has}
use Rattle.pair_rule.proofs.Lists.{has_either, has_front, has_back}
use Rattle.block_claims.specs.Numbers.{IsRising}
use Rattle.work_run.specs.BlockLines.{lines_of_block, lines_of_blocks}
use Rattle.tdb_base.specs.Lines.{owned}

-- ---- what all members of a list are
pub all_has : (P : ℕ → Type 0) (xs : List ℕ) (x : ℕ) → All P xs → Has x xs → P x
all_has P [] x all h = absurd h
all_has P (y ∷ ys) x all h = ⊎_elim
    (λ (e : x ≡ y). subst P (sym e) (All-head P y ys all))
    (λ (t : Has x ys). all_has P ys x (All-tail P y ys all) t)
    h

pub all_of : (P : ℕ → Type 0) (xs : List ℕ) → ((x : ℕ) → Has x xs → P x) → All P xs
all_of P [] each = All-nil P
all_of P (y ∷ ys) each = All-cons P y ys (each y (inl refl)) (all_of P ys (λ x h. each x (inr h)))

-- ---- rising lists with the same members are one list
first_same : (x y : ℕ) (xs ys : List ℕ) → All (λ z. x < z) xs → All (λ z. y < z) ys → (x ≡ y) ⊎ Has x ys → (y ≡ x) ⊎ Has y xs → x ≡ y
first_same x y xs ys r q forth back = ⊎_elim
    (λ (e : x ≡ y). e)
    (λ (a : Has x ys). ⊎_elim
    (λ (e : y ≡ x). sym e)
    (λ (b : Has y xs). absurd (omega (arith, all_has (λ (z : ℕ). y < z) ys x q a, all_has (λ (z : ℕ). x < z) xs y r b)))
    back)
    forth

behind_first : (z y : ℕ) (ys : List ℕ) → y < z → (z ≡ y) ⊎ Has z ys → Has z ys
behind_first z y ys lt h = ⊎_elim (λ (e : z ≡ y). absurd (omega (arith, e, lt))) (λ (t : Has z ys). t) h

pub one_rising : (xs ys : List ℕ) → IsRising xs → IsRising ys → ((x : ℕ) → Has x xs → Has x ys) → ((x : ℕ) → Has x ys → Has x xs) → xs ≡ ys
one_rising [] [] r q to from = refl
one_rising [] (y ∷ ys) r q to from = absurd (from y (inl refl))
one_rising (x ∷ xs) [] r q to from = absurd (to x (inl refl))
one_rising (x ∷ xs) (y ∷ ys) r q to from =
    let e : x ≡ y = first_same x y xs ys r.0 q.0 (to x (inl refl)) (from y (inl refl)) in
    let rest : xs ≡ ys = one_rising xs ys r.1 q.1
    (λ z h. behind_first z y ys (let lt = all_has (λ (w : ℕ). x < w) xs z r.0 h in omega (arith, e, lt)) (to z (inr h)))
    (λ z h. behind_first z x xs (let lt = all_has (λ (w : ℕ). y < w) ys z q.0 h in omega (arith, e, lt)) (from z (inr h))) in
    (λ i. e i ∷ rest i)

-- ---- numbers from one on
in_range : (from n i : ℕ) → Has i (range_with_len from n) → (from ≤ i) × (i < from + n)
in_range from zero i h = absurd h
in_range from (suc n) i h = ⊎_elim
    (λ (e : i ≡ from). let found : (from ≤ i) × (i < from + suc n) = (omega (arith, e), omega (arith, e)) in found)
    (λ (t : Has i (range_with_len (from + 1) n)). let m = in_range (from + 1) n i t in
    let found : (from ≤ i) × (i < from + suc n) = (omega (arith, m.0), omega (arith, m.1)) in found)
    h

of_range : (from n i : ℕ) → from ≤ i → i < from + n → Has i (range_with_len from n)
of_range from zero i least most = absurd (omega arith)
of_range from (suc n) i least most = ⊎_elim
    (λ (e : i ≡ from). inl e)
    (λ (other : i ≡ from → ⊥). inr (of_range (from + 1) n i (omega (arith, other)) (omega arith)))
    (cases_eq i from)

rising_range : (from n : ℕ) → IsRising (range_with_len from n)
rising_range from zero = tt
rising_range from (suc n) = (
  all_of (λ (z : ℕ). from < z) (range_with_len (from + 1) n) (λ z h. let m = in_range (from + 1) n z h in omega (arith, m.0)),
  rising_range (from + 1) n,
)

-- ---- those that a filter keeps
has_filter : (p : ℕ → Bool) (xs : List ℕ) (x : ℕ) → Has x xs → p x ≡ true → Has x (filter p xs)
has_filter p [] x h t = absurd h
has_filter p (y ∷ ys) x h t = ⊎_elim
    (λ (e : x ≡ y). let here : p y ≡ true = ap p (sym e) ∙ t in rw here (inl e))
    (λ (l : Has x ys). later (p y) (has_filter p ys x l t))
    h
  where
    later : (b : Bool) → Has x (filter p ys) → Has x (cond b (y ∷ filter p ys) (filter p ys))
    later true l = inr l
    later false l = l

filter_has : (p : ℕ → Bool) (xs : List ℕ) (x : ℕ) → Has x (filter p xs) → Has x xs × (p x ≡ true)
filter_has p [] x h = absurd h
filter_has p (y ∷ ys) x h = by (p y) refl (λ t. filter_has p ys x t) h
  where
    by : (b : Bool) → p y ≡ b → (Has x (filter p ys) → Has x ys × (p x ≡ true)) → Has x (cond b (y ∷ filter p ys) (filter p ys)) → Has x (y ∷ ys) × (p x ≡ true)
    by true e more k = ⊎_elim
        (λ (same : x ≡ y). let found : Has x (y ∷ ys) × (p x ≡ true) = (inl same, ap p same ∙ e) in found)
        (λ (t : Has x (filter p ys)). let m = more t in let found : Has x (y ∷ ys) × (p x ≡ true) = (inr m.0, m.1) in found)
        k
    by false e more k = let m = more k in (inr m.0, m.1)

rising_filter : (p : ℕ → Bool) (xs : List ℕ) → IsRising xs → IsRising (filter p xs)
rising_filter p [] r = tt
rising_filter p (y ∷ ys) r = by (p y) (rising_filter p ys r.1)
  where
    by : (b : Bool) → IsRising (filter p ys) → IsRising (cond b (y ∷ filter p ys) (filter p ys))
    by true rest = (all_of (λ (z : ℕ). y < z) (filter p ys) (λ z h. all_has (λ (w : ℕ). y < w) ys z r.0 (filter_has p ys z h).0), rest)
    by false rest = rest

-- ---- lists one after the other
has_flat : (f : ℕ → List ℕ) (xs : List ℕ) (x i : ℕ) → Has x xs → Has i (f x) → Has i (flat_map f xs)
has_flat f [] x i h there = absurd h
has_flat f (y ∷ ys) x i h there = ⊎_elim
    (λ (e : x ≡ y). has_front i (f y) (flat_map f ys) (subst (λ (z : ℕ). Has i (f z)) e there))
    (λ (t : Has x ys). has_back i (f y) (flat_map f ys) (has_flat f ys x i t there))
    h

flat_has : (f : ℕ → List ℕ) (xs : List ℕ) (i : ℕ) → Has i (flat_map f xs) → (x : ℕ) × Has x xs × Has i (f x)
flat_has f [] i h = absurd h
flat_has f (y ∷ ys) i h = ⊎_elim
    (λ (a : Has i (f y)). let found : (x : ℕ) × Has x (y ∷ ys) × Has i (f x) = (y, inl refl, a) in found)
    (λ (b : Has i (flat_map f ys)). let m = flat_has f ys i b in let found : (x : ℕ) × Has x (y ∷ ys) × Has i (f x) = (m.0, inr m.1, m.2) in found)
    (has_either i (f y) (flat_map f ys) h)

rising_append : (xs ys : List ℕ) → IsRising xs → IsRising ys → ((x y : ℕ) → Has x xs → Has y ys → x < y) → IsRising (xs ++ ys)
rising_append [] ys r q less = q
rising_append (x ∷ xs) ys r q less = (
  all_of (λ (z : ℕ). x < z) (xs ++ ys) (λ z h. ⊎_elim
      (λ (a : Has z xs). all_has (λ (w : ℕ). x < w) xs z r.0 a)
      (λ (b : Has z ys). less x z (inl refl) b)
      (has_either z xs ys h)),
  rising_append xs ys r.1 q (λ a b h t. less a b (inr h) t),
)

-- ---- the lines of blocks
module _ (lines block : ℕ) (some : 0 < block) where
  in_block : (b i : ℕ) → Has i (lines_of_block lines block b) → (i / block ≡ b) × (i < lines)
  in_block b i h =
      let m = in_range (b * block) (min block (lines - b * block)) i h in
      let r : ℕ = i - b * block in
      let e : i ≡ b * block + r = omega (arith, m.0) in
      (ap (λ (n : ℕ). n / block) e ∙ div-mul-add b block r (omega (arith, m.0, m.1)), omega (arith, m.0, m.1))

  of_block : (i : ℕ) → i < lines → Has i (lines_of_block lines block (i / block))
  of_block i lt =
      let whole = div-add-mod' i block in
      let part = mod_below i block some in
      of_range (i / block * block) (min block (lines - i / block * block)) i (omega (arith, whole)) (omega (arith, whole, part, lt))

  rising_blocks : (blocks : List ℕ) → IsRising blocks → IsRising (lines_of_blocks lines block blocks)
  rising_blocks [] r = tt
  rising_blocks (b ∷ bs) r = rising_append (lines_of_block lines block b) (lines_of_blocks lines block bs)
      (rising_range (b * block) (min block (lines - b * block))) (rising_blocks bs r.1)
      (λ x y h t.
      let f = flat_has (lines_of_block lines block) bs y t in
      let less = all_has (λ (c : ℕ). b < c) bs f.0 r.0 f.1 in
      let first = in_range (b * block) (min block (lines - b * block)) x h in
      let second = in_range (f.0 * block) (min block (lines - f.0 * block)) y f.2 in
      let apart = row_fits b block f.0 block less (omega arith) in
      omega (arith, first.1, second.0, apart))

  -- they are lines of the trace
  pub blocks_below : (blocks : List ℕ) → All (λ i. i < lines) (lines_of_blocks lines block blocks)
  blocks_below blocks = all_of (λ (i : ℕ). i < lines) (lines_of_blocks lines block blocks)
      (λ i h. let m = flat_has (lines_of_block lines block) blocks i h in (in_block m.0 i m.2).1)

  -- blocks that rise, and are all the blocks of one worker, have together that worker's lines
  pub blocks_owned : (blocks : List ℕ) (owner : ℕ → ℕ) (worker : ℕ) → IsRising blocks
      → ((i : ℕ) → i < lines → Has (i / block) blocks → owner i ≡ worker)
      → ((i : ℕ) → i < lines → owner i ≡ worker → Has (i / block) blocks)
      → lines_of_blocks lines block blocks ≡ owned lines owner worker
  blocks_owned blocks owner worker rising own has =
      let f = lines_of_block lines block in
      let p : ℕ → Bool = λ i. owner i == worker in
      let all = range_with_len 0 lines in
      one_rising (lines_of_blocks lines block blocks) (owned lines owner worker) (rising_blocks blocks rising) (rising_filter p all (rising_range 0 lines))
      (λ i h.
      let m = flat_has f blocks i h in
      let at = in_block m.0 i m.2 in
      let here : Has (i / block) blocks = subst (λ (b : ℕ). Has b blocks) (sym at.0) m.1 in
      has_filter p all i (of_range 0 lines i (omega arith) (omega (arith, at.1))) (eq-eqb (owner i) worker (own i at.1 here)))
      (λ i h.
      let k = filter_has p all i h in
      let m = in_range 0 lines i k.0 in
      let lt : i < lines = omega (arith, m.1) in
      has_flat f blocks (i / block) i (has i lt (eqb-true (owner i) worker k.1)) (of_block i lt))
