-- Words as numbers.
use Rattle.std.proofs.Common.{◌≡◌, ℕ, ◌+◌, ◌-◌, ◌*◌, ◌/◌, ◌%◌, ◌^◌, ◌<◌, ◌≤◌, sym, ap, ◌∙◌, subst, arith}
use Rattle.std.specs.Int.{bit_not, w64}
use Rattle.std.specs.Int.RustNames.{bit_or}
use lib.Bits.{bit_and}
use Rattle.std.proofs.lemmas.Nat.{pow_pos, pow-add, mod-pow-add, mod_below, mul-add-lt, shr-shr, shr_split, shr_high, mod_low, field_of, or_lt, pow_below}
use Rattle.std.proofs.Math.Pow.{pow_mono}
use Rattle.packed_word.specs.Word.{IsLayout, right_of, left_of, flag_bits, above_flags, with_bit, without_bit, word_of, IsWordOf, ChangesFlags}
use Rattle.packed_word.proofs.Parts.{split_power, kept_pair}
use Rattle.packed_word.proofs.Flags.{sets_flag, clears_flag}

module _ (width flags value pair : ℕ) (layout : IsLayout width flags) (h : value < 2 ^ flags) (k : pair < 2 ^ (2 * width)) where
  abbrev word : ℕ
  word = word_of width value pair

  abbrev high : ℕ
  high = 2 ^ (63 - 2 * width) + value

  by_pair : word ≡ high * 2 ^ (2 * width) + pair
  by_pair = let e = split_power 63 (63 - 2 * width) (2 * width) (omega arith) in omega (arith, e)

  the_high : word / 2 ^ (2 * width) ≡ high
  the_high = ap (λ n. n / 2 ^ (2 * width)) by_pair ∙ shr_high high (2 * width) pair k

  the_pair : word % 2 ^ (2 * width) ≡ pair
  the_pair = ap (λ n. n % 2 ^ (2 * width)) by_pair ∙ mod_low high (2 * width) pair k

  by_flags : high ≡ 2 ^ (63 - (2 * width + flags)) * 2 ^ flags + value
  by_flags = let e = split_power (63 - 2 * width) (63 - (2 * width + flags)) flags (omega arith) in omega (arith, e)

  the_right : right_of width word ≡ pair % 2 ^ width
  the_right =
      let e : width + width ≡ 2 * width = omega arith in
      sym (mod_low (word / 2 ^ width % 2 ^ width) width (word % 2 ^ width) (mod_below word (2 ^ width) (pow_pos width)))
      ∙ ap (λ n. n % 2 ^ width) (sym (mod-pow-add word width width)) ∙ ap (λ n. word % 2 ^ n % 2 ^ width) e ∙ ap (λ n. n % 2 ^ width) the_pair

  the_left : left_of width word ≡ pair / 2 ^ width
  the_left = let e : width + width ≡ 2 * width = omega arith in sym (field_of word width width) ∙ ap (λ n. word % 2 ^ n / 2 ^ width) e ∙ ap (λ n. n / 2 ^ width) the_pair

  the_flags : flag_bits width flags word ≡ value
  the_flags = ap (λ n. n % 2 ^ flags) (the_high ∙ by_flags) ∙ mod_low (2 ^ (63 - (2 * width + flags))) flags value h

  the_rest : above_flags width flags word ≡ 2 ^ (63 - (2 * width + flags))
  the_rest = sym (shr-shr word (2 * width) flags) ∙ ap (λ n. n / 2 ^ flags) (the_high ∙ by_flags) ∙ shr_high (2 ^ (63 - (2 * width + flags))) flags value h

  below_top : value * 2 ^ (2 * width) + pair < 2 ^ 63
  below_top =
      let below = mul-add-lt value (2 ^ (2 * width)) pair (2 ^ flags) h k in
      let e : 2 ^ (2 * width + flags) ≡ 2 ^ (2 * width) * 2 ^ flags = pow-add 2 (2 * width) flags in
      let le : 2 * width + flags ≤ 63 = omega arith in
      let most : 2 ^ (2 * width + flags) ≤ 2 ^ 63 = pow_mono le in
      omega (arith, below, e, most)

  pub has_parts : IsWordOf width flags value pair (word_of width value pair)
  has_parts = let top = below_top in record { right = the_right; left = the_left; flags_are = the_flags; present = omega arith; above = the_rest; small = omega arith }

-- a word is its parts
whole_of : (width flags n : ℕ) → n ≡ (above_flags width flags n * 2 ^ flags + flag_bits width flags n) * 2 ^ (2 * width) + (left_of width n * 2 ^ width + right_of width n)
whole_of width flags n =
    let highs : n / 2 ^ (2 * width) ≡ above_flags width flags n * 2 ^ flags + flag_bits width flags n = sym (shr_split (n / 2 ^ (2 * width)) flags) ∙ ap (λ m. m * 2 ^ flags + flag_bits width flags n) (shr-shr n (2 * width) flags) in
    let lows = kept_pair width n in
    sym (shr_split n (2 * width)) ∙ (λ i. highs i * 2 ^ (2 * width) + lows i)

same_word : (width flags a b : ℕ) → right_of width a ≡ right_of width b → left_of width a ≡ left_of width b → flag_bits width flags a ≡ flag_bits width flags b → above_flags width flags a ≡ above_flags width flags b → a ≡ b
same_word width flags a b right left flag rest =
    whole_of width flags a ∙ (λ i. (rest i * 2 ^ flags + flag i) * 2 ^ (2 * width) + (left i * 2 ^ width + right i)) ∙ sym (whole_of width flags b)

-- flags that changed
changed_word : (width flags value after pair new : ℕ) → IsLayout width flags → value < 2 ^ flags → after < 2 ^ flags → pair < 2 ^ (2 * width) → ChangesFlags width flags (word_of width value pair) new after → new ≡ word_of width after pair
changed_word width flags value after pair new layout h k small c =
    let old = has_parts width flags value pair layout h small in
    let is = has_parts width flags after pair layout k small in
    same_word width flags new (word_of width after pair) (c.right ∙ old.right ∙ sym is.right) (c.left ∙ old.left ∙ sym is.left) (c.flags_after ∙ sym is.flags_are) (c.above ∙ old.above ∙ sym is.above)

pub sets_flag_of : (width flags b value pair : ℕ) → IsLayout width flags → b < flags → value < 2 ^ flags → pair < 2 ^ (2 * width) → bit_or (word_of width value pair) (2 ^ (2 * width + b)) ≡ word_of width (with_bit value b) pair
sets_flag_of width flags b value pair layout lt h k =
    let parts = has_parts width flags value pair layout h k in
    let new : ℕ = bit_or (word_of width value pair) (2 ^ (2 * width + b)) in
    let c : ChangesFlags width flags (word_of width value pair) new (with_bit value b) = subst (λ (f : ℕ). ChangesFlags width flags (word_of width value pair) new (with_bit f b)) parts.flags_are (sets_flag width flags b (word_of width value pair) layout lt parts.small) in
    changed_word width flags value (with_bit value b) pair new layout h (or_lt flags value (2 ^ b) h (pow_below b flags lt)) k c

pub clears_flag_of : (width flags b value pair : ℕ) → IsLayout width flags → b < flags → value < 2 ^ flags → pair < 2 ^ (2 * width) → bit_and (word_of width value pair) (bit_not w64 (2 ^ (2 * width + b))) ≡ word_of width (without_bit value b) pair
clears_flag_of width flags b value pair layout lt h k =
    let parts = has_parts width flags value pair layout h k in
    let new : ℕ = bit_and (word_of width value pair) (bit_not w64 (2 ^ (2 * width + b))) in
    let c : ChangesFlags width flags (word_of width value pair) new (without_bit value b) = subst (λ (f : ℕ). ChangesFlags width flags (word_of width value pair) new (without_bit f b)) parts.flags_are (clears_flag width flags b (word_of width value pair) layout lt parts.small) in
    changed_word width flags value (without_bit value b) pair new layout h (omega arith) k c

-- a word with the parts of a pair and flags is their number
pub parts_make : (width flags value pair word : ℕ) → IsLayout width flags → value < 2 ^ flags → pair < 2 ^ (2 * width) → IsWordOf width flags value pair word
    → word ≡ word_of width value pair
parts_make width flags value pair word layout small fits is =
    let made = has_parts width flags value pair layout small fits in
    same_word width flags word (word_of width value pair) (is.right ∙ sym made.right) (is.left ∙ sym made.left) (is.flags_are ∙ sym made.flags_are) (is.above ∙ sym made.above)
