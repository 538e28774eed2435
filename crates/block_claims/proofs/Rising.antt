-- Rising lists: how often a number stands in a list, and that merging keeps them rising.
use Rattle.std.proofs.Common.{◌≡◌, ◌==◌, ◌≢◌, ℕ, ◌+◌, ◌<◌, ◌≤◌, List, [], ◌∷◌, ◌++◌, All, Bool, cond, nat_lt, sym, ap, refl, subst, arith, ltb-true, ltb-false, eq-eqb, ne_eqb}
use Rattle.std.proofs.lemmas.Bool.{cond_both}
use Rattle.std.proofs.lemmas.List.Elements.{All-nil, All-cons, All-head, All-tail, All-push, All-weaker}
use Rattle.std.proofs.lemmas.List.Sums.{sum_by-cons, sum_by_push}
use Rattle.block_claims.specs.Numbers.{times, IsRising, with_number, merged}

-- whether a number is another, as a number
abbrev pub same : ℕ → ℕ → ℕ
same b x = cond (x == b) 1 0

pub same_here : (b : ℕ) → same b b ≡ 1
same_here b = ap (λ (t : Bool). cond t 1 0) (eq-eqb b b refl)

pub same_else : (b x : ℕ) → x ≢ b → same b x ≡ 0
same_else b x n = ap (λ (t : Bool). cond t 1 0) (ne_eqb x b n)

pub times_cons : (b x : ℕ) (xs : List ℕ) → times b (x ∷ xs) ≡ same b x + times b xs
times_cons b x xs = sum_by-cons (λ (y : ℕ). same b y) x xs

pub times_push : (b x : ℕ) (xs : List ℕ) → times b (xs ++ x ∷ []) ≡ times b xs + same b x
times_push b x xs = sum_by_push (λ (y : ℕ). same b y) xs x

times_with : (b x : ℕ) (ys : List ℕ) → times b (with_number x ys) ≡ same b x + times b ys
times_with b x [] = times_cons b x []
times_with b x (y ∷ ys) = cond_both (nat_lt x y) (x ∷ y ∷ ys) (y ∷ with_number x ys) (λ (l : List ℕ). times b l ≡ same b x + times b (y ∷ ys))
    (λ e. times_cons b x (y ∷ ys))
    (λ e. let p = times_with b x ys in let q = times_cons b y (with_number x ys) in let r = times_cons b y ys in omega (arith, p, q, r))

pub times_merged : (b : ℕ) (xs ys : List ℕ) → times b (merged xs ys) ≡ times b xs + times b ys
times_merged b [] ys = omega arith
times_merged b (x ∷ xs) ys = let p = times_with b x (merged xs ys) in let q = times_merged b xs ys in let r = times_cons b x xs in omega (arith, p, q, r)

-- all that stand in the list are so
pub all_times : (P : ℕ → Type 0) (xs : List ℕ) → ((b : ℕ) → 1 ≤ times b xs → P b) → All P xs
all_times P [] h = All-nil P
all_times P (x ∷ xs) h = All-cons P x xs
    (h x (omega (arith, times_cons x x xs, same_here x)))
    (all_times P xs (λ b one. h b (omega (arith, times_cons b x xs))))

all_with : (P : ℕ → Type 0) (x : ℕ) (ys : List ℕ) → P x → All P ys → All P (with_number x ys)
all_with P x [] p h = All-cons P x [] p h
all_with P x (y ∷ ys) p h = cond_both (nat_lt x y) (x ∷ y ∷ ys) (y ∷ with_number x ys) (λ (l : List ℕ). All P l)
    (λ e. All-cons P x (y ∷ ys) p h)
    (λ e. All-cons P y (with_number x ys) (All-head P y ys h) (all_with P x ys p (All-tail P y ys h)))

rising_with : (x : ℕ) (ys : List ℕ) → IsRising ys → times x ys ≡ 0 → IsRising (with_number x ys)
rising_with x [] r none = (All-nil (λ (y : ℕ). x < y), tt)
rising_with x (y ∷ ys) r none = cond_both (nat_lt x y) (x ∷ y ∷ ys) (y ∷ with_number x ys) IsRising
    (λ e. let less : x < y = ltb-true x y e in
    (All-cons (λ (z : ℕ). x < z) y ys less (All-weaker (λ (z : ℕ). y < z) (λ (z : ℕ). x < z) (λ z more. omega arith) ys r.0), r))
    (λ e. (all_with (λ (z : ℕ). y < z) x ys (greater (ltb-false x y e)) r.0, rising_with x ys r.1 (omega (arith, times_cons x y ys))))
  where
    apart : y ≢ x
    apart same_one = omega (arith, times_cons x y ys, none, subst (λ (z : ℕ). same x z ≡ 1) (sym same_one) (same_here x))

    greater : y ≤ x → y < x
    greater le = omega (arith, apart)

pub rising_merged : (xs ys : List ℕ) → IsRising xs → IsRising ys → ((b : ℕ) → times b xs + times b ys ≤ 1) → IsRising (merged xs ys)
rising_merged [] ys r q one = q
rising_merged (x ∷ xs) ys r q one = rising_with x (merged xs ys)
    (rising_merged xs ys r.1 q (λ b. omega (arith, one b, times_cons b x xs)))
    (omega (arith, one x, times_cons x x xs, same_here x, times_merged x xs ys))

pub rising_push : (x : ℕ) (xs : List ℕ) → IsRising xs → All (λ a. a < x) xs → IsRising (xs ++ x ∷ [])
rising_push x [] r h = (All-nil (λ (y : ℕ). x < y), tt)
rising_push x (y ∷ ys) r h = (
  All-push (λ (z : ℕ). y < z) ys x r.0 (All-head (λ (a : ℕ). a < x) y ys h),
  rising_push x ys r.1 (All-tail (λ (a : ℕ). a < x) y ys h),
)
