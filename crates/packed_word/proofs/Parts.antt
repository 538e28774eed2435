-- The parts of a packed word.
use Rattle.std.proofs.Common.{◌≡◌, ℕ, ◌+◌, ◌-◌, ◌*◌, ◌/◌, ◌%◌, ◌^◌, ◌<◌, ◌≤◌, sym, ap, ◌∙◌, subst, arith}
use Rattle.std.specs.Int.{bit_at}
use Rattle.std.specs.Int.RustNames.{bit_or}
use lib.Bits.{bit_and}
use Rattle.std.proofs.lemmas.Nat.{pow_pos, pow-add, mod-pow-add, mod_below, mul-add-lt, or_disjoint, or_shifted, and_mask, shl_whole, shr_high, mod_low, same_from_place}
use Rattle.std.proofs.lemmas.Nat.Bits.{and_pow, bit_at_above, bit_at-lt}
use Rattle.std.proofs.Math.Pow.{pow_mono}
use Rattle.packed_word.specs.Word.{IsLayout, right_of, left_of, flag_bits, pair_of, IsPresent}

-- a power above a number is set in it by adding it
or_power : (n k : ℕ) → n < 2 ^ k → bit_or n (2 ^ k) ≡ n + 2 ^ k
or_power n k h = or_disjoint n (2 ^ k) (and_pow n k ∙ ap (λ b. b * 2 ^ k) (bit_at_above n k k h (omega arith)) ∙ omega arith)

pub split_power : (n i j : ℕ) → n ≡ i + j → 2 ^ n ≡ 2 ^ i * 2 ^ j
split_power n i j e = ap (λ m. 2 ^ m) e ∙ pow-add 2 i j

room : (i j : ℕ) → i ≤ j → 2 ^ i ≤ 2 ^ j
room i j le = pow_mono le

pub pair_below : (width left right : ℕ) → left < 2 ^ width → right < 2 ^ width → pair_of width left right < 2 ^ (2 * width)
pair_below width left right h k =
    let e : 2 ^ (2 * width) ≡ 2 ^ width * 2 ^ width = split_power (2 * width) width width (omega arith) in
    subst (λ (n : ℕ). pair_of width left right < n) (sym e) (mul-add-lt left (2 ^ width) right (2 ^ width) h k)

pair_small : (width left right : ℕ) → width ≤ 31 → left < 2 ^ width → right < 2 ^ width → pair_of width left right < 2 ^ 63
pair_small width left right most h k =
    let below = pair_below width left right h k in
    let within = room (2 * width) 63 (omega arith) in
    omega (arith, below, within)

pub packed_number : (width left right : ℕ) → width ≤ 31 → left < 2 ^ width → right < 2 ^ width
    → bit_or (bit_or (left * 2 ^ width % 2 ^ 64) right) (2 ^ 63) ≡ 2 ^ 63 + pair_of width left right
packed_number width left right most h k =
    ap (λ n. bit_or (bit_or n right) (2 ^ 63)) (shl_whole left width width 64 h (omega arith))
    ∙ ap (λ n. bit_or n (2 ^ 63)) (or_shifted left width right k)
    ∙ or_power (pair_of width left right) 63 (pair_small width left right most h k)
    ∙ omega arith

-- the parts of a present word with no flag
module _ (width flags left right : ℕ) (layout : IsLayout width flags) (h : left < 2 ^ width) (k : right < 2 ^ width) where
  pub right_packed : right_of width (2 ^ 63 + pair_of width left right) ≡ right
  right_packed =
      let e : 2 ^ 63 ≡ 2 ^ (63 - width) * 2 ^ width = split_power 63 (63 - width) width (omega arith) in
      let whole : 2 ^ 63 + pair_of width left right ≡ (2 ^ (63 - width) + left) * 2 ^ width + right = omega (arith, e) in
      ap (λ n. n % 2 ^ width) whole ∙ mod_low (2 ^ (63 - width) + left) width right k

  pub left_packed : left_of width (2 ^ 63 + pair_of width left right) ≡ left
  left_packed =
      let e : 2 ^ 63 ≡ 2 ^ (63 - width) * 2 ^ width = split_power 63 (63 - width) width (omega arith) in
      let f : 2 ^ (63 - width) ≡ 2 ^ (63 - 2 * width) * 2 ^ width = split_power (63 - width) (63 - 2 * width) width (omega arith) in
      let whole : 2 ^ 63 + pair_of width left right ≡ (2 ^ (63 - width) + left) * 2 ^ width + right = omega (arith, e) in
      ap (λ n. n / 2 ^ width % 2 ^ width) whole ∙ ap (λ n. n % 2 ^ width) (shr_high (2 ^ (63 - width) + left) width right k)
      ∙ ap (λ n. (n + left) % 2 ^ width) f ∙ mod_low (2 ^ (63 - 2 * width)) width left h

  pub flags_packed : flag_bits width flags (2 ^ 63 + pair_of width left right) ≡ 0
  flags_packed =
      let e : 2 ^ 63 ≡ 2 ^ (63 - 2 * width) * 2 ^ (2 * width) = split_power 63 (63 - 2 * width) (2 * width) (omega arith) in
      let f : 2 ^ (63 - 2 * width) ≡ 2 ^ (63 - 2 * width - flags) * 2 ^ flags + 0 = split_power (63 - 2 * width) (63 - 2 * width - flags) flags (omega arith) ∙ omega arith in
      ap (λ n. (n + pair_of width left right) / 2 ^ (2 * width) % 2 ^ flags) e
      ∙ ap (λ n. n % 2 ^ flags) (shr_high (2 ^ (63 - 2 * width)) (2 * width) (pair_of width left right) (pair_below width left right h k))
      ∙ ap (λ n. n % 2 ^ flags) f ∙ mod_low (2 ^ (63 - 2 * width - flags)) flags 0 (pow_pos flags)

  pub present_packed : IsPresent (2 ^ 63 + pair_of width left right)
  present_packed = let small = pair_small width left right layout.1 h k in omega arith

-- a word without its flags
pub kept_pair : (width word : ℕ) → word % 2 ^ (2 * width) ≡ pair_of width (left_of width word) (right_of width word)
kept_pair width word = ap (λ n. word % 2 ^ n) (omega arith) ∙ mod-pow-add word width width

pub kept_number : (width word : ℕ) → width ≤ 31 → bit_or (bit_and word (2 ^ 63)) (bit_and word (2 ^ (2 * width) - 1)) ≡ bit_at word 63 * 2 ^ 63 + pair_of width (left_of width word) (right_of width word)
kept_number width word most =
    let small : word % 2 ^ (2 * width) < 2 ^ 63 = let below = mod_below word (2 ^ (2 * width)) (pow_pos (2 * width)) in let within = room (2 * width) 63 (omega arith) in omega (arith, below, within) in
    ap (λ n. bit_or n (bit_and word (2 ^ (2 * width) - 1))) (and_pow word 63)
    ∙ ap (λ n. bit_or (bit_at word 63 * 2 ^ 63) n) (and_mask word (2 * width))
    ∙ or_shifted (bit_at word 63) 63 (word % 2 ^ (2 * width)) small
    ∙ ap (λ n. bit_at word 63 * 2 ^ 63 + n) (kept_pair width word)

-- the pair is the same where the numbers are
pub parts_same : (width word left right : ℕ) → width ≤ 31 → left < 2 ^ width → right < 2 ^ width
    → bit_at word 63 * 2 ^ 63 + pair_of width (left_of width word) (right_of width word) ≡ 2 ^ 63 + pair_of width left right
    → IsPresent word × (left_of width word ≡ left) × (right_of width word ≡ right)
parts_same width word left right most h k e =
    let bit = bit_at-lt word 63 in
    let l : left_of width word < 2 ^ width = mod_below (word / 2 ^ width) (2 ^ width) (pow_pos width) in
    let r : right_of width word < 2 ^ width = mod_below word (2 ^ width) (pow_pos width) in
    let small = pair_small width left right most h k in
    let less = pair_small width (left_of width word) (right_of width word) most l r in
    let present : bit_at word 63 ≡ 1 = omega (arith, e, small, less, bit) in
    let pairs : pair_of width (left_of width word) (right_of width word) ≡ pair_of width left right = omega (arith, e, present) in
    let parts = same_from_place (left_of width word) (right_of width word) left right (2 ^ width) r k pairs in
    (present, parts.0, parts.1)

pub numbers_same : (width word left right : ℕ) → IsPresent word × (left_of width word ≡ left) × (right_of width word ≡ right)
    → bit_at word 63 * 2 ^ 63 + pair_of width (left_of width word) (right_of width word) ≡ 2 ^ 63 + pair_of width left right
numbers_same width word left right h =
    (λ i. h.0 i * 2 ^ 63 + pair_of width (h.1 i) (h.2 i)) ∙ omega arith
