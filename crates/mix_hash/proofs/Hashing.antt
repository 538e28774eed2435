-- Each step of the hash has an inverse, so the hash is one to one.
use Rattle.std.proofs.Common.{◌≡◌, ℕ, ◌+◌, ◌-◌, ◌*◌, ◌/◌, ◌%◌, ◌^◌, ◌<◌, ◌≤◌, bit_xor, refl, sym, ap, ◌∙◌, subst, arith}
use Rattle.std.specs.Int.Bits.{xor_self, xor_assoc, xor_zero_r}
use Rattle.std.proofs.lemmas.Nat.{xor_lt, xor_shr, shr_le, shr_below, pow-add, pow_pos, mod_below, mul-mod_first}
use Rattle.std.proofs.Math.Nat.{mod-eq_of_lt, add-mul-mod_self_left, mod-add-div, div-eq_of_lt}
use Rattle.mix_hash.specs.Hash.{first_multiplier, second_multiplier, folded, scaled, mix_of, IsOneToOneBelow, IsOntoBelow}

-- a fold keeps the width
pub folded-below : (w x : ℕ) → x < 2 ^ (2 * w) → folded w x < 2 ^ (2 * w)
unfolding folded
folded-below w x fits = let half = shr_le x w in xor_lt (2 * w) x (x / 2 ^ w) fits (omega arith)

nothing_above : (w x : ℕ) → x < 2 ^ (2 * w) → x / 2 ^ w / 2 ^ w ≡ 0
nothing_above w x fits =
    let wide : x < 2 ^ (w + w) = subst (λ (n : ℕ). x < 2 ^ n) (omega arith) fits in
    let small : x / 2 ^ w < 2 ^ w = shr_below x w w wide in
    div-eq_of_lt small

-- a fold is its own inverse
pub folded-folded : (w x : ℕ) → x < 2 ^ (2 * w) → folded w (folded w x) ≡ x
unfolding folded
folded-folded w x fits =
    let half : ℕ = x / 2 ^ w in
    let halved : bit_xor x half / 2 ^ w ≡ half =
    xor_shr x half w ∙ ap (λ n. bit_xor half n) (nothing_above w x fits) ∙ xor_zero_r half in
    ap (λ n. bit_xor (bit_xor x half) n) halved ∙ xor_assoc x half half ∙ ap (λ n. bit_xor x n) (xor_self half) ∙ xor_zero_r x

pub scaled-below : (w a x : ℕ) → scaled w a x < 2 ^ (2 * w)
unfolding scaled
scaled-below w a x = mod_below (x * a) (2 ^ (2 * w)) (pow_pos (2 * w))

-- 64 bits are the hash's and the rest
word_split : (w : ℕ) → w ≤ 31 → 2 ^ 64 ≡ 2 ^ (2 * w) * 2 ^ (64 - 2 * w)
word_split w narrow = let e : 64 ≡ 2 * w + (64 - 2 * w) = omega arith in ap (λ n. 2 ^ n) e ∙ pow-add 2 (2 * w) (64 - 2 * w)

-- what is cut to 64 bits first and to 2 * w then is cut to 2 * w
pub narrowed : (w n : ℕ) → w ≤ 31 → n % 2 ^ 64 % 2 ^ (2 * w) ≡ n % 2 ^ (2 * w)
narrowed w n narrow =
    let m : ℕ = 2 ^ (2 * w) in
    let rest : ℕ = 2 ^ (64 - 2 * w) in
    let whole : 2 ^ 64 ≡ m * rest = word_split w narrow in
    let parts : n % 2 ^ 64 + m * (rest * (n / 2 ^ 64)) ≡ n = omega (arith, ap (λ k. k * (n / 2 ^ 64)) whole, mod-add-div n (2 ^ 64)) in
    sym (add-mul-mod_self_left (n % 2 ^ 64) m (rest * (n / 2 ^ 64))) ∙ ap (λ k. k % m) parts

regrouped : (x a b m rest q : ℕ) → a * b ≡ 1 + m * rest * q → x * a * b ≡ x + m * (rest * q * x)
regrouped x a b m rest q e = let times : x * (a * b) ≡ x * (1 + m * rest * q) = ap (λ n. x * n) e in omega arith

-- a product is undone by the inverse of its multiplier modulo 2 ^ 64
pub scaled-scaled : (w a b q x : ℕ) → w ≤ 31 → a * b ≡ 1 + 2 ^ 64 * q → x < 2 ^ (2 * w) → scaled w b (scaled w a x) ≡ x
unfolding scaled
scaled-scaled w a b q x narrow inverse fits =
    let m : ℕ = 2 ^ (2 * w) in
    let rest : ℕ = 2 ^ (64 - 2 * w) in
    let whole : 2 ^ 64 ≡ m * rest = word_split w narrow in
    let one : a * b ≡ 1 + m * rest * q = inverse ∙ ap (λ n. 1 + n * q) whole in
    mul-mod_first (x * a) b m ∙ ap (λ n. n % m) (regrouped x a b m rest q one) ∙ add-mul-mod_self_left x m (rest * q * x)
    ∙ mod-eq_of_lt fits

-- the inverses of the multipliers
abbrev pub first_inverse : ℕ
first_inverse = 0xF1DE83E19937733D

abbrev pub second_inverse : ℕ
second_inverse = 0x96DE1B173F119089

-- the five steps backwards
unfoldable pub unmixed : ℕ → ℕ → ℕ
unmixed w h = folded w (scaled w first_inverse (folded w (scaled w second_inverse (folded w h))))

module _ (w : ℕ) (narrow : w ≤ 31) where
  pub mix_of-below : (x : ℕ) → mix_of w x < 2 ^ (2 * w)
  unfolding mix_of
  mix_of-below x = folded-below w _ (scaled-below w second_multiplier _)

  pub unmixed-below : (h : ℕ) → unmixed w h < 2 ^ (2 * w)
  unfolding unmixed
  unmixed-below h = folded-below w _ (scaled-below w first_inverse _)

  pub unmixed-mix_of : (x : ℕ) → x < 2 ^ (2 * w) → unmixed w (mix_of w x) ≡ x
  unfolding mix_of unmixed
  unmixed-mix_of x fits =
      let one : ℕ = folded w x in
      let two : ℕ = scaled w first_multiplier one in
      let three : ℕ = folded w two in
      let four : ℕ = scaled w second_multiplier three in
      let three_fits : three < 2 ^ (2 * w) = folded-below w two (scaled-below w first_multiplier one) in
      ap (λ n. folded w (scaled w first_inverse (folded w (scaled w second_inverse n)))) (folded-folded w four (scaled-below w second_multiplier three))
      ∙ ap (λ n. folded w (scaled w first_inverse (folded w n))) (scaled-scaled w second_multiplier second_inverse 8125545580553827436 three narrow refl three_fits)
      ∙ ap (λ n. folded w (scaled w first_inverse n)) (folded-folded w two (scaled-below w first_multiplier one))
      ∙ ap (λ n. folded w n) (scaled-scaled w first_multiplier first_inverse 10771413168148108919 one narrow refl (folded-below w x fits))
      ∙ folded-folded w x fits

  pub mix_of-unmixed : (h : ℕ) → h < 2 ^ (2 * w) → mix_of w (unmixed w h) ≡ h
  unfolding mix_of unmixed
  mix_of-unmixed h fits =
      let four : ℕ = folded w h in
      let three : ℕ = scaled w second_inverse four in
      let two : ℕ = folded w three in
      let one : ℕ = scaled w first_inverse two in
      let two_fits : two < 2 ^ (2 * w) = folded-below w three (scaled-below w second_inverse four) in
      ap (λ n. folded w (scaled w second_multiplier (folded w (scaled w first_multiplier n)))) (folded-folded w one (scaled-below w first_inverse two))
      ∙ ap (λ n. folded w (scaled w second_multiplier (folded w n))) (scaled-scaled w first_inverse first_multiplier 10771413168148108919 two narrow refl two_fits)
      ∙ ap (λ n. folded w (scaled w second_multiplier n)) (folded-folded w three (scaled-below w second_inverse four))
      ∙ ap (λ n. folded w n) (scaled-scaled w second_inverse second_multiplier 8125545580553827436 four narrow refl (folded-below w h fits))
      ∙ folded-folded w h fits

  -- two numbers with one hash are one
  pub mix_of-one_to_one : IsOneToOneBelow (2 ^ (2 * w)) (mix_of w)
  mix_of-one_to_one x y x_fits y_fits same = sym (unmixed-mix_of x x_fits) ∙ ap (λ n. unmixed w n) same ∙ unmixed-mix_of y y_fits

  -- each number is a hash
  pub mix_of-onto : IsOntoBelow (2 ^ (2 * w)) (mix_of w)
  mix_of-onto h fits = (unmixed w h, unmixed-below h, mix_of-unmixed h fits)
