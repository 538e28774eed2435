-- Flags in root words: the bit that a step sets or clears, and masks of one bit.
use Rattle.std.proofs.Common.{◌≡◌, ◌≢◌, ◌⊎◌, ℕ, ◌+◌, ◌-◌, ◌*◌, ◌^◌, ◌<◌, Bool, true, false, bit_or, refl, sym, ap, ◌∙◌, subst, inl, inr, ⊎_elim, arith, eqb-true, eq-eqb}
use mathlib.Core.Logic.{dite}
use native.Mathlib.Decide.{ℕ_discrete}
use Rattle.std.specs.Prelude.{if◌then◌else◌}
use Rattle.std.specs.Int.{bit_at, bit_not, w64}
use Rattle.std.specs.Int.Bits.{or_add_and}
use Rattle.std.proofs.lemmas.Nat.{pow_below}
use Rattle.std.proofs.lemmas.Nat.Bits.{and_pow, bit_at-lt, bit_at_not, bit_at-pow_same, bit_at-pow_other}
use Rattle.tdb_base.specs.History.{has_bit, with_bit, without_bit}
use Rattle.packed_word.specs.Word as packed

bit_tells : (n k : ℕ) → ((has_bit n k ≡ true) × (bit_at n k ≡ 1)) ⊎ ((has_bit n k ≡ false) × (bit_at n k ≡ 0))
bit_tells n k = by (has_bit n k) refl
  where
    by : (b : Bool) → has_bit n k ≡ b → ((has_bit n k ≡ true) × (bit_at n k ≡ 1)) ⊎ ((has_bit n k ≡ false) × (bit_at n k ≡ 0))
    by true t = inl (t, eqb-true (bit_at n k) 1 t)
    by false t =
        let low = bit_at-lt n k in
        let other : bit_at n k ≢ 1 = λ z. let yes = eq-eqb (bit_at n k) 1 z in cc (t, yes) in
        inr (t, omega (arith, low, other))

-- a number with a bit set, or cleared, by the operations on words
pub with_bit_is : (n k : ℕ) → packed.with_bit n k ≡ with_bit n k
with_bit_is n k = ⊎_elim
    (λ (t : (has_bit n k ≡ true) × (bit_at n k ≡ 1)).
    let e : bit_or n (2 ^ k) + 1 * 2 ^ k ≡ n + 2 ^ k = subst (λ (m : ℕ). bit_or n (2 ^ k) + m * 2 ^ k ≡ n + 2 ^ k) t.1 whole in
    let same : bit_or n (2 ^ k) ≡ n = omega (arith, e) in
    same ∙ ap (λ (b : Bool). if b then n else n + 2 ^ k) (sym t.0))
    (λ (t : (has_bit n k ≡ false) × (bit_at n k ≡ 0)).
    let e : bit_or n (2 ^ k) + 0 * 2 ^ k ≡ n + 2 ^ k = subst (λ (m : ℕ). bit_or n (2 ^ k) + m * 2 ^ k ≡ n + 2 ^ k) t.1 whole in
    let more : bit_or n (2 ^ k) ≡ n + 2 ^ k = omega (arith, e) in
    more ∙ ap (λ (b : Bool). if b then n else n + 2 ^ k) (sym t.0))
    (bit_tells n k)
  where
    whole : bit_or n (2 ^ k) + bit_at n k * 2 ^ k ≡ n + 2 ^ k
    whole = ap (λ (m : ℕ). bit_or n (2 ^ k) + m) (sym (and_pow n k)) ∙ or_add_and n (2 ^ k)

pub without_bit_is : (n k : ℕ) → packed.without_bit n k ≡ without_bit n k
without_bit_is n k = ⊎_elim
    (λ (t : (has_bit n k ≡ true) × (bit_at n k ≡ 1)).
    let e : n - bit_at n k * 2 ^ k ≡ n - 1 * 2 ^ k = ap (λ (m : ℕ). n - m * 2 ^ k) t.1 in
    let less : n - bit_at n k * 2 ^ k ≡ n - 2 ^ k = omega (arith, e) in
    less ∙ ap (λ (b : Bool). if b then n - 2 ^ k else n) (sym t.0))
    (λ (t : (has_bit n k ≡ false) × (bit_at n k ≡ 0)).
    let e : n - bit_at n k * 2 ^ k ≡ n - 0 * 2 ^ k = ap (λ (m : ℕ). n - m * 2 ^ k) t.1 in
    let same : n - bit_at n k * 2 ^ k ≡ n = omega (arith, e) in
    same ∙ ap (λ (b : Bool). if b then n - 2 ^ k else n) (sym t.0))
    (bit_tells n k)

-- masks of one bit, and their complements, are alike only for one bit
pub one_bit : (a b : ℕ) → 2 ^ a ≡ 2 ^ b → a ≡ b
one_bit a b same = dite (ℕ_discrete a b) (λ z. z) (λ n. absurd (cc (bit_at-pow_same a, bit_at-pow_other b a n, ap (λ (m : ℕ). bit_at m a) same)))

pub one_hole : (a b : ℕ) → a < 64 → b < 64 → bit_not w64 (2 ^ a) ≡ bit_not w64 (2 ^ b) → a ≡ b
one_hole a b low high same = dite (ℕ_discrete a b) (λ z. z) (λ n.
    let here : bit_at (bit_not w64 (2 ^ a)) a ≡ 1 - bit_at (2 ^ a) a = bit_at_not w64 (2 ^ a) a (pow_below a 64 low) low in
    let there : bit_at (bit_not w64 (2 ^ b)) a ≡ 1 - bit_at (2 ^ b) a = bit_at_not w64 (2 ^ b) a (pow_below b 64 high) low in
    let one = bit_at-pow_same a in
    let none = bit_at-pow_other b a n in
    let e = ap (λ (m : ℕ). bit_at m a) same in
    absurd (omega (arith, here, there, one, none, e)))
