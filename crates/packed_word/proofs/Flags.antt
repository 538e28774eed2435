-- Setting and clearing one bit.
use Rattle.std.proofs.Common.{◌≡◌, ◌≢◌, ℕ, suc, ◌+◌, ◌-◌, ◌*◌, ◌/◌, ◌%◌, ◌^◌, ◌<◌, ◌≤◌, min, max, sym, ap, ◌∙◌, subst, ⊎_elim, arith}
use Rattle.std.specs.Int.{bit_at, bit_not, w64}
use Rattle.std.specs.Int.RustNames.{bit_or}
use lib.Bits.{bit_and}
use Rattle.std.proofs.lemmas.Nat.{pow_pos, mod_below, pow_below, or_lt, shr-shr, shr_split, shr_below, and_le_l}
use Rattle.std.proofs.lemmas.Nat.Bits.{bit_at-suc, bit_at_and, bit_at_or, bit_at_not, bit_at-lt, bit_at-pow_same, bit_at-pow_other, same_from_bits_below, bit_at_cat_low, bit_at_cat_high}
use Rattle.std.proofs.lemmas.Bool.{cases_lt, cases_eq}
use Rattle.packed_word.specs.Word.{IsLayout, right_of, left_of, flag_bits, above_flags, with_bit, without_bit, ChangesFlags}
use Rattle.packed_word.proofs.FieldBits.{bit_at_mod, bit_at_shr}

top : (x y : ℕ) → x < 2 → y ≡ 1 → max x y ≡ 1
top x y h e = omega arith

stays : (x y : ℕ) → y ≡ 0 → max x y ≡ x
stays x y e = omega arith

gone : (x y : ℕ) → y ≡ 1 → min x (1 - y) ≡ 0
gone x y e = omega arith

kept : (x y : ℕ) → x < 2 → y ≡ 0 → min x (1 - y) ≡ x
kept x y h e = omega arith

-- `n | 2 ^ k`
pub set_here : (n k : ℕ) → bit_at (with_bit n k) k ≡ 1
set_here n k = bit_at_or n (2 ^ k) k ∙ top (bit_at n k) (bit_at (2 ^ k) k) (bit_at-lt n k) (bit_at-pow_same k)

pub set_elsewhere : (n k i : ℕ) → i ≢ k → bit_at (with_bit n k) i ≡ bit_at n i
set_elsewhere n k i other = bit_at_or n (2 ^ k) i ∙ stays (bit_at n i) (bit_at (2 ^ k) i) (bit_at-pow_other k i other)

-- `n & !2 ^ k`
masked_here : (n k : ℕ) → k < 64 → bit_at (bit_and n (bit_not w64 (2 ^ k))) k ≡ 0
masked_here n k h =
    bit_at_and n (bit_not w64 (2 ^ k)) k ∙ ap (λ m. min (bit_at n k) m) (bit_at_not w64 (2 ^ k) k (pow_below k 64 h) h) ∙ gone (bit_at n k) (bit_at (2 ^ k) k) (bit_at-pow_same k)

masked_elsewhere : (n k i : ℕ) → k < 64 → i < 64 → i ≢ k → bit_at (bit_and n (bit_not w64 (2 ^ k))) i ≡ bit_at n i
masked_elsewhere n k i h below other =
    bit_at_and n (bit_not w64 (2 ^ k)) i ∙ ap (λ m. min (bit_at n i) m) (bit_at_not w64 (2 ^ k) i (pow_below k 64 h) below) ∙ kept (bit_at n i) (bit_at (2 ^ k) i) (bit_at-lt n i) (bit_at-pow_other k i other)

-- a number less its bit k
less_bit : (n k : ℕ) → without_bit n k ≡ n / 2 ^ suc k * 2 * 2 ^ k + n % 2 ^ k
less_bit n k =
    let m : ℕ = n / 2 ^ k in
    let h : ℕ = n / 2 ^ suc k in
    let half : m / 2 ≡ h = shr-shr n k 1 ∙ ap (λ j. n / 2 ^ j) (omega arith) in
    let parts : m ≡ h * 2 + m % 2 = omega (arith, half) in
    let whole : m * 2 ^ k + n % 2 ^ k ≡ n = shr_split n k in
    let split : (h * 2 + m % 2) * 2 ^ k + n % 2 ^ k ≡ n = ap (λ j. j * 2 ^ k + n % 2 ^ k) (sym parts) ∙ whole in
    omega (arith, split)

even_bit : (q : ℕ) → bit_at (q * 2) 0 ≡ 0
even_bit q = omega arith

halved : (q : ℕ) → q * 2 / 2 ≡ q
halved q = omega arith

pub cleared_here : (n k : ℕ) → bit_at (without_bit n k) k ≡ 0
cleared_here n k =
    let q : ℕ = n / 2 ^ suc k in
    let low : n % 2 ^ k < 2 ^ k = mod_below n (2 ^ k) (pow_pos k) in
    let minus : k - k ≡ 0 = omega arith in
    ap (λ m. bit_at m k) (less_bit n k) ∙ bit_at_cat_high (q * 2) k (n % 2 ^ k) k low (omega arith) ∙ ap (λ j. bit_at (q * 2) j) minus ∙ even_bit q

cleared_above : (n k j : ℕ) → bit_at (without_bit n k) (k + suc j) ≡ bit_at n (k + suc j)
cleared_above n k j =
    let q : ℕ = n / 2 ^ suc k in
    let low : n % 2 ^ k < 2 ^ k = mod_below n (2 ^ k) (pow_pos k) in
    let minus : k + suc j - k ≡ suc j = omega arith in
    let plus : suc k + j ≡ k + suc j = omega arith in
    ap (λ m. bit_at m (k + suc j)) (less_bit n k) ∙ bit_at_cat_high (q * 2) k (n % 2 ^ k) (k + suc j) low (omega arith)
    ∙ ap (λ i. bit_at (q * 2) i) minus ∙ bit_at-suc (q * 2) j ∙ ap (λ m. bit_at m j) (halved q) ∙ bit_at_shr n (suc k) j ∙ ap (λ i. bit_at n i) plus

pub cleared_elsewhere : (n k i : ℕ) → i ≢ k → bit_at (without_bit n k) i ≡ bit_at n i
cleared_elsewhere n k i other = ⊎_elim
    (λ (below : i < k). ap (λ m. bit_at m i) (less_bit n k) ∙ bit_at_cat_low (n / 2 ^ suc k * 2) k (n % 2 ^ k) i below ∙ bit_at_mod n k i below)
    (λ (from : k ≤ i). let e : k + suc (i - k - 1) ≡ i = omega arith in subst (λ (m : ℕ). bit_at (without_bit n k) m ≡ bit_at n m) e (cleared_above n k (i - k - 1)))
    (cases_lt i k)

pub flag_bit : (width flags i word : ℕ) → i < flags → bit_at (flag_bits width flags word) i ≡ bit_at word (2 * width + i)
flag_bit width flags i word h = bit_at_mod (word / 2 ^ (2 * width)) flags i h ∙ bit_at_shr word (2 * width) i

-- a word in which one flag changed
module _ (width flags b old new after : ℕ) (layout : IsLayout width flags) (h : b < flags)
    (here : bit_at new (2 * width + b) ≡ bit_at after b) (elsewhere : (i : ℕ) → i < 64 → i ≢ 2 * width + b → bit_at new i ≡ bit_at old i)
    (small_old : old < 2 ^ 64) (small : new < 2 ^ 64) (fits : after < 2 ^ flags) (others : (i : ℕ) → i ≢ b → bit_at after i ≡ bit_at (flag_bits width flags old) i) where
  same_right : right_of width new ≡ right_of width old
  same_right = same_from_bits_below width (right_of width new) (right_of width old) (mod_below new (2 ^ width) (pow_pos width)) (mod_below old (2 ^ width) (pow_pos width))
      (λ i lt. bit_at_mod new width i lt ∙ elsewhere i (omega arith) (omega arith) ∙ sym (bit_at_mod old width i lt))

  same_left : left_of width new ≡ left_of width old
  same_left = same_from_bits_below width (left_of width new) (left_of width old) (mod_below (new / 2 ^ width) (2 ^ width) (pow_pos width)) (mod_below (old / 2 ^ width) (2 ^ width) (pow_pos width))
      (λ i lt. bit_at_mod (new / 2 ^ width) width i lt ∙ bit_at_shr new width i ∙ elsewhere (width + i) (omega arith) (omega arith) ∙ sym (bit_at_shr old width i) ∙ sym (bit_at_mod (old / 2 ^ width) width i lt))

  rest_below : (word : ℕ) → word < 2 ^ 64 → above_flags width flags word < 2 ^ (64 - (2 * width + flags))
  rest_below word lt =
      let e : 64 ≡ 64 - (2 * width + flags) + (2 * width + flags) = omega arith in
      shr_below word (64 - (2 * width + flags)) (2 * width + flags) (subst (λ (n : ℕ). word < 2 ^ n) e lt)

  same_rest : above_flags width flags new ≡ above_flags width flags old
  same_rest = same_from_bits_below (64 - (2 * width + flags)) (above_flags width flags new) (above_flags width flags old) (rest_below new small) (rest_below old small_old)
      (λ i lt. bit_at_shr new (2 * width + flags) i ∙ elsewhere (2 * width + flags + i) (omega arith) (omega arith) ∙ sym (bit_at_shr old (2 * width + flags) i))

  same_flag : (i : ℕ) → i < flags → bit_at (flag_bits width flags new) i ≡ bit_at after i
  same_flag i lt = flag_bit width flags i new lt ∙ ⊎_elim
      (λ (it : i ≡ b). subst (λ (j : ℕ). bit_at new (2 * width + j) ≡ bit_at after j) (sym it) here)
      (λ (other : i ≡ b → ⊥). elsewhere (2 * width + i) (omega arith) (omega arith) ∙ sym (flag_bit width flags i old lt) ∙ sym (others i other))
      (cases_eq i b)

  pub flags_change : ChangesFlags width flags old new after
  flags_change = record {
    right = same_right;
    left = same_left;
    present = elsewhere 63 (omega arith) (omega arith);
    above = same_rest;
    small = small;
    flags_after = same_from_bits_below flags (flag_bits width flags new) after (mod_below (new / 2 ^ (2 * width)) (2 ^ flags) (pow_pos flags)) fits same_flag;
  }

pub sets_flag : (width flags b word : ℕ) → IsLayout width flags → b < flags → word < 2 ^ 64 → ChangesFlags width flags word (bit_or word (2 ^ (2 * width + b))) (with_bit (flag_bits width flags word) b)
sets_flag width flags b word layout h small =
    let f : ℕ = flag_bits width flags word in
    flags_change width flags b word (with_bit word (2 * width + b)) (with_bit f b) layout h
    (set_here word (2 * width + b) ∙ sym (set_here f b))
    (λ i below other. set_elsewhere word (2 * width + b) i other)
    small (or_lt 64 word (2 ^ (2 * width + b)) small (pow_below (2 * width + b) 64 (omega arith)))
    (or_lt flags f (2 ^ b) (mod_below (word / 2 ^ (2 * width)) (2 ^ flags) (pow_pos flags)) (pow_below b flags h))
    (λ i other. set_elsewhere f b i other)

pub clears_flag : (width flags b word : ℕ) → IsLayout width flags → b < flags → word < 2 ^ 64 → ChangesFlags width flags word (bit_and word (bit_not w64 (2 ^ (2 * width + b)))) (without_bit (flag_bits width flags word) b)
clears_flag width flags b word layout h small =
    let f : ℕ = flag_bits width flags word in
    let fits : f < 2 ^ flags = mod_below (word / 2 ^ (2 * width)) (2 ^ flags) (pow_pos flags) in
    flags_change width flags b word (bit_and word (bit_not w64 (2 ^ (2 * width + b)))) (without_bit f b) layout h
    (masked_here word (2 * width + b) (omega arith) ∙ sym (cleared_here f b))
    (λ i below other. masked_elsewhere word (2 * width + b) i (omega arith) below other)
    small (let less = and_le_l word (bit_not w64 (2 ^ (2 * width + b))) in omega (arith, small, less))
    (omega arith)
    (λ i other. cleared_elsewhere f b i other)
