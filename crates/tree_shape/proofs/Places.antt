-- Positions and halving.
use Rattle.std.proofs.Common.{◌≡◌, ◌⊎◌, ℕ, zero, suc, ◌+◌, ◌-◌, ◌*◌, ◌/◌, ◌^◌, ◌<◌, ◌≤◌, inl, inr, sym, ap, ◌∙◌, subst, ⊎_elim, arith}
use Rattle.std.proofs.lemmas.Nat.{shr-shr, shr_le, leading_top, pow_pos, le-div, div_below}
use Rattle.std.proofs.lemmas.Bool.{cases_eq, cases_lt}
use Rattle.std.proofs.Math.Nat.{pow-suc, mul-le-mul_right, div-mul-le_self}
use Rattle.std.proofs.Math.Pow.{pow_mono}
use lib.Count.{count_leading_zeros}
use Rattle.tree_shape.specs.Positions.{IsAbove, IsDepth}

-- one halving more, at the end or at the beginning
pub halved_after : (q n : ℕ) → q / 2 ^ n / 2 ≡ q / 2 ^ suc n
halved_after q n = shr-shr q n 1 ∙ ap (λ m. q / 2 ^ m) (omega arith)

pub halved_before : (q n : ℕ) → q / 2 / 2 ^ n ≡ q / 2 ^ suc n
halved_before q n = shr-shr q 1 n ∙ ap (λ m. q / 2 ^ m) (omega arith)

pub above_self : (q : ℕ) → IsAbove q q
above_self q = (0, omega arith)

pub above_left : (p q : ℕ) → IsAbove (2 * p) q → IsAbove p q
above_left p q h = (suc h.0, sym (halved_after q h.0) ∙ ap (λ m. m / 2) h.1 ∙ omega arith)

pub above_right : (p q : ℕ) → IsAbove (2 * p + 1) q → IsAbove p q
above_right p q h = (suc h.0, sym (halved_after q h.0) ∙ ap (λ m. m / 2) h.1 ∙ omega arith)

doubled : (m p : ℕ) → m / 2 ≡ p → (m ≡ 2 * p) ⊎ (m ≡ 2 * p + 1)
doubled m p half = ⊎_elim (λ (even : m ≡ 2 * p). inl even) (λ (odd : m ≡ 2 * p → ⊥). inr (omega arith)) (cases_eq m (2 * p))

-- what is above a position and is not the position is above by one of its parts
pub below_part : (p q : ℕ) → p < q → IsAbove p q → IsAbove (2 * p) q ⊎ IsAbove (2 * p + 1) q
below_part p q lt (zero, e) = absurd (omega arith)
below_part p q lt (suc n, e) = ⊎_elim (λ (even : q / 2 ^ n ≡ 2 * p). inl (n, even)) (λ (odd : q / 2 ^ n ≡ 2 * p + 1). inr (n, odd)) (doubled (q / 2 ^ n) p (halved_after q n ∙ e))

-- a slot's position is above no other
pub slot_alone : (k p j : ℕ) → k ≤ p → j < k → IsAbove p (k + j) → k + j ≡ p
slot_alone k p j leaf lt (zero, e) = omega (arith, e)
slot_alone k p j leaf lt (suc n, e) =
    let less = shr_le ((k + j) / 2) n in
    absurd (omega (arith, halved_before (k + j) n, less))

-- powers of two rise
pub below_power : (n : ℕ) → n < 2 ^ n
below_power zero = omega arith
below_power (suc n) = let h = below_power n in omega (arith, pow-suc 2 n)

pub powers_order : (i j : ℕ) → 2 ^ i < 2 ^ j → i < j
powers_order i j h = ⊎_elim (λ (lt : i < j). lt) (λ (le : j ≤ i). let more : 2 ^ j ≤ 2 ^ i = pow_mono le in absurd (omega arith)) (cases_lt i j)

-- where a quotient by a power of two is at least 2, the next power is within
pub next_power : (q n p : ℕ) → 2 ≤ p → q / 2 ^ n ≡ p → 2 ^ suc n ≤ q
next_power q n p big e =
    let least : 2 * 2 ^ n ≤ q / 2 ^ n * 2 ^ n = mul-le-mul_right (2 ^ n) (omega arith) in
    let within : q / 2 ^ n * 2 ^ n ≤ q = div-mul-le_self q (2 ^ n) in
    omega (arith, pow-suc 2 n)

two_or_three : (q n : ℕ) → 2 ^ suc n ≤ q → q < 2 ^ suc (suc n) → IsAbove 2 q ⊎ IsAbove 3 q
two_or_three q n low high =
    let least : 2 ≤ q / 2 ^ n = le-div 2 q (2 ^ n) (pow_pos n) (omega (arith, pow-suc 2 n)) in
    let most : q / 2 ^ n < 4 = div_below q (2 ^ n) 4 (pow_pos n) (omega (arith, pow-suc 2 (suc n), pow-suc 2 n)) in
    ⊎_elim (λ (two : q / 2 ^ n ≡ 2). inl (n, two)) (λ (other : q / 2 ^ n ≡ 2 → ⊥). inr (n, omega arith)) (cases_eq (q / 2 ^ n) 2)

by_power : (q n : ℕ) → 2 ≤ q → 2 ^ n ≤ q → q < 2 ^ suc n → IsAbove 2 q ⊎ IsAbove 3 q
by_power q zero big low high = absurd (omega arith)
by_power q (suc n) big low high = two_or_three q n low high

-- position 2 or 3 is above each position from 2 on
pub below_root : (q : ℕ) → 2 ≤ q → IsAbove 2 q ⊎ IsAbove 3 q
below_root q big = let t = leading_top q q (omega arith) (below_power q) in by_power q t.0 big t.2 t.3

-- the depth, by the bits of the number before
pub depth_found : (k : ℕ) → 2 ≤ k → k ≤ 1024 → IsDepth k (64 - count_leading_zeros 64 (k - 1))
depth_found k big small =
    let t = leading_top 64 (k - 1) (omega arith) (omega arith) in
    let most = pow-suc 2 t.0 in
    let e : 64 - count_leading_zeros 64 (k - 1) ≡ suc t.0 = omega (arith, t.1) in
    subst (λ (d : ℕ). IsDepth k d) (sym e) (omega (arith, t.3), λ f h. powers_order t.0 f (omega (arith, t.2)))
