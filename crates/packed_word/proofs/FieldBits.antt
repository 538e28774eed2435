-- Fields, their bits, and what reading and writing one computes.
use Rattle.std.proofs.Common.{◌≡◌, ◌≢◌, ℕ, zero, suc, ◌+◌, ◌-◌, ◌*◌, ◌/◌, ◌%◌, ◌^◌, ◌<◌, ◌≤◌, min, max, List, length, get_or, set, refl, add-zero, sym, ap, ◌∙◌, subst, ⊎_elim, arith, get_or-set_same, get_or-set_other}
use Rattle.std.specs.Int.{bit_at, bit_not, w64}
use Rattle.std.specs.Int.RustNames.{bit_or}
use lib.Bits.{bit_and}
use Rattle.std.proofs.lemmas.Nat.{shr-shr, shr_split, and_mask, or_shifted, shl_whole, pow-add, mod_below, pow_pos, shr_below, mul-add-lt}
use Rattle.std.proofs.lemmas.Bool.{cases_lt}
use Rattle.std.proofs.Math.Nat.{pow-suc}
use Rattle.std.proofs.lemmas.Nat.Bits.{bit_at_lowest, bit_at-suc, bit_at-lt, same_from_bits_below, bit_at_above, bit_at_cat_low, bit_at_cat_high, bit_at_and, bit_at_or, bit_at_not, bit_at-zero, bit_at_ones, bit_at_ones_above}
use Rattle.packed_word.specs.Slice.{bit, field, IsApart}

pub bit_below : (words : List ℕ) (t : ℕ) → bit words t < 2
unfolding bit
bit_below words t = bit_at-lt (get_or words (t / 64) 0) (t % 64)

-- a bit by its word and its place there
pub bit_place : (words : List ℕ) (t word offset : ℕ) → t ≡ 64 * word + offset → offset < 64 → bit words t ≡ bit_at (get_or words word 0) offset
unfolding bit
bit_place words t word offset e h =
    let a : t / 64 ≡ word = omega arith in
    let b : t % 64 ≡ offset = omega arith in
    rw (a, b) refl

pub field_below : (words : List ℕ) (at width : ℕ) → field words at width < 2 ^ width
unfolding field
field_below words at zero = omega arith
field_below words at (suc width) = let h = field_below words (suc at) width in let b = bit_below words at in omega (arith, pow-suc 2 width)

lowest : (b m : ℕ) → b < 2 → (b + 2 * m) % 2 ≡ b
lowest b m h = omega arith

halved : (b m : ℕ) → b < 2 → (b + 2 * m) / 2 ≡ m
halved b m h = omega arith

pub field_bit : (words : List ℕ) (at width i : ℕ) → i < width → bit_at (field words at width) i ≡ bit words (at + i)
unfolding field
field_bit words at zero i h = absurd (omega arith)
field_bit words at (suc width) zero h =
    bit_at_lowest (bit words at + 2 * field words (suc at) width) ∙ lowest (bit words at) (field words (suc at) width) (bit_below words at) ∙ ap (λ n. bit words n) (omega arith)
field_bit words at (suc width) (suc i) h =
    bit_at-suc (bit words at + 2 * field words (suc at) width) i
    ∙ ap (λ n. bit_at n i) (halved (bit words at) (field words (suc at) width) (bit_below words at))
    ∙ field_bit words (suc at) width i (omega arith)
    ∙ ap (λ n. bit words n) (omega arith)

-- a number is a field where it fits and has the field's bits
pub field_is : (words : List ℕ) (at width n : ℕ) → n < 2 ^ width → ((i : ℕ) → i < width → bit_at n i ≡ bit words (at + i)) → n ≡ field words at width
field_is words at width n fits same =
    same_from_bits_below width n (field words at width) fits (field_below words at width) (λ i h. same i h ∙ sym (field_bit words at width i h))

-- two fields with the same bits
pub field_same : (words other : List ℕ) (at width : ℕ) → ((t : ℕ) → at ≤ t → t < at + width → bit other t ≡ bit words t) → field other at width ≡ field words at width
unfolding field
field_same words other at zero same = refl
field_same words other at (suc width) same =
    let h = same at (omega arith) (omega arith) in
    let k = field_same words other (suc at) width (λ t a b. same t (omega arith) (omega arith)) in
    rw (h, k) refl

pub field_one : (words : List ℕ) (at : ℕ) → field words at 1 ≡ bit words at
unfolding field
field_one words at = omega arith

-- bits
pub bit_at_mod : (n k i : ℕ) → i < k → bit_at (n % 2 ^ k) i ≡ bit_at n i
bit_at_mod n k i h = sym (bit_at_cat_low (n / 2 ^ k) k (n % 2 ^ k) i h) ∙ ap (λ m. bit_at m i) (shr_split n k)

pub bit_at_shr : (n k i : ℕ) → bit_at (n / 2 ^ k) i ≡ bit_at n (k + i)
bit_at_shr n k i = ap (λ m. m % 2) (shr-shr n k i)

-- a field of a field
pub field_part : (words : List ℕ) (at width a b : ℕ) → a + b ≤ width → field words at width / 2 ^ a % 2 ^ b ≡ field words (at + a) b
field_part words at width a b h =
    let x : ℕ = field words at width in
    field_is words (at + a) b (x / 2 ^ a % 2 ^ b) (mod_below (x / 2 ^ a) (2 ^ b) (pow_pos b))
    (λ i k. bit_at_mod (x / 2 ^ a) b i k ∙ bit_at_shr x a i ∙ field_bit words at width (a + i) (omega arith) ∙ ap (λ n. bit words n) (omega arith))

-- what `get` computes
pub get_within : (words : List ℕ) (at width : ℕ) → at % 64 + width ≤ 64 → bit_and (get_or words (at / 64) 0 / 2 ^ (at % 64)) (2 ^ width - 1) ≡ field words at width
get_within words at width h =
    let x : ℕ = get_or words (at / 64) 0 in
    let o : ℕ = at % 64 in
    and_mask (x / 2 ^ o) width
    ∙ field_is words at width (x / 2 ^ o % 2 ^ width) (mod_below (x / 2 ^ o) (2 ^ width) (pow_pos width))
    (λ i k. bit_at_mod (x / 2 ^ o) width i k ∙ bit_at_shr x o i ∙ sym (bit_place words (at + i) (at / 64) (o + i) (omega arith) (omega arith)))

joined : (high low rest have : ℕ) → high < 2 ^ rest → low < 2 ^ have → high * 2 ^ have + low < 2 ^ (have + rest)
joined high low rest have h k = rw (pow-add 2 have rest) (mul-add-lt high (2 ^ have) low (2 ^ rest) h k)

pub get_across : (words : List ℕ) (at width have : ℕ) → have + at % 64 ≡ 64 → have ≤ width → width ≤ 64 → have < 64 → get_or words (at / 64) 0 < 2 ^ 64
    → bit_or (bit_and (get_or words (at / 64 + 1) 0) (2 ^ (width - have) - 1) * 2 ^ have % 2 ^ 64) (get_or words (at / 64) 0 / 2 ^ (at % 64)) ≡ field words at width
get_across words at width have e wide most less small =
    let x : ℕ = get_or words (at / 64) 0 in
    let y : ℕ = get_or words (at / 64 + 1) 0 in
    let o : ℕ = at % 64 in
    let rest : ℕ = width - have in
    let high : ℕ = y % 2 ^ rest in
    let low : ℕ = x / 2 ^ o in
    let fits : high < 2 ^ rest = mod_below y (2 ^ rest) (pow_pos rest) in
    let low_fits : low < 2 ^ have = shr_below x have o (subst (λ (n : ℕ). x < 2 ^ n) (sym e) small) in
    let shifted : high * 2 ^ have % 2 ^ 64 ≡ high * 2 ^ have = shl_whole high rest have 64 fits (omega arith) in
    let whole : high * 2 ^ have + low < 2 ^ width = subst (λ (n : ℕ). high * 2 ^ have + low < 2 ^ n) (omega arith) (joined high low rest have fits low_fits) in
    ap (λ n. bit_or (n * 2 ^ have % 2 ^ 64) low) (and_mask y rest) ∙ ap (λ n. bit_or n low) shifted ∙ or_shifted high have low low_fits
    ∙ field_is words at width (high * 2 ^ have + low) whole (λ i k. ⊎_elim
    (λ (below : i < have). bit_at_cat_low high have low i below ∙ bit_at_shr x o i ∙ sym (bit_place words (at + i) (at / 64) (o + i) (omega arith) (omega arith)))
    (λ (above : have ≤ i). bit_at_cat_high high have low i low_fits (omega arith) ∙ bit_at_mod y rest (i - have) (omega arith) ∙ sym (bit_place words (at + i) (at / 64 + 1) (i - have) (omega arith) (omega arith))) (cases_lt i have))

-- what `splice` computes
filled : ℕ → ℕ → ℕ → ℕ → ℕ
filled word offset width value = bit_or (bit_and word (18446744073709551615 - (2 ^ width - 1) * 2 ^ offset % 2 ^ 64)) (value * 2 ^ offset % 2 ^ 64)

-- a shifted field's bits
shifted_low : (n width offset i : ℕ) → n < 2 ^ width → offset + width ≤ 64 → i < offset → bit_at (n * 2 ^ offset % 2 ^ 64) i ≡ 0
shifted_low n width offset i fits h k =
    ap (λ m. bit_at m i) (shl_whole n width offset 64 fits (omega arith) ∙ sym (add-zero (n * 2 ^ offset))) ∙ bit_at_cat_low n offset 0 i k ∙ bit_at-zero i

shifted_high : (n width offset i : ℕ) → n < 2 ^ width → offset + width ≤ 64 → offset ≤ i → bit_at (n * 2 ^ offset % 2 ^ 64) i ≡ bit_at n (i - offset)
shifted_high n width offset i fits h k =
    ap (λ m. bit_at m i) (shl_whole n width offset 64 fits (omega arith) ∙ sym (add-zero (n * 2 ^ offset))) ∙ bit_at_cat_high n offset 0 i (pow_pos offset) k

ones_fit : (width : ℕ) → 2 ^ width - 1 < 2 ^ width
ones_fit width = let h = pow_pos width in omega arith

filled_bit : (word offset width value i : ℕ) → i < 64 → bit_at (filled word offset width value) i
    ≡ max (min (bit_at word i) (1 - bit_at ((2 ^ width - 1) * 2 ^ offset % 2 ^ 64) i)) (bit_at (value * 2 ^ offset % 2 ^ 64) i)
unfolding filled
filled_bit word offset width value i h =
    let hole : ℕ = (2 ^ width - 1) * 2 ^ offset % 2 ^ 64 in
    bit_at_or (bit_and word (bit_not w64 hole)) (value * 2 ^ offset % 2 ^ 64) i
    ∙ ap (λ n. max n (bit_at (value * 2 ^ offset % 2 ^ 64) i)) (bit_at_and word (bit_not w64 hole) i
    ∙ ap (λ n. min (bit_at word i) n) (bit_at_not w64 hole i (mod_below ((2 ^ width - 1) * 2 ^ offset) (2 ^ 64) (pow_pos 64)) h))

hidden : (x v h : ℕ) → h ≡ 1 → max (min x (1 - h)) v ≡ v
hidden x v h e = omega arith

shown : (x v h : ℕ) → x < 2 → h ≡ 0 → v ≡ 0 → max (min x (1 - h)) v ≡ x
shown x v h b e d = omega arith

pub splice_inside : (word offset width value i : ℕ) → value < 2 ^ width → offset + width ≤ 64 → i < width
    → bit_at (bit_or (bit_and word (18446744073709551615 - (2 ^ width - 1) * 2 ^ offset % 2 ^ 64)) (value * 2 ^ offset % 2 ^ 64)) (offset + i) ≡ bit_at value i
unfolding filled
splice_inside word offset width value i fits h k =
    let minus : offset + i - offset ≡ i = omega arith in
    let hole = shifted_high (2 ^ width - 1) width offset (offset + i) (ones_fit width) h (omega arith) ∙ ap (λ n. bit_at (2 ^ width - 1) n) minus ∙ bit_at_ones width i k in
    filled_bit word offset width value (offset + i) (omega arith)
    ∙ hidden (bit_at word (offset + i)) (bit_at (value * 2 ^ offset % 2 ^ 64) (offset + i)) (bit_at ((2 ^ width - 1) * 2 ^ offset % 2 ^ 64) (offset + i)) hole
    ∙ shifted_high value width offset (offset + i) fits h (omega arith) ∙ ap (λ n. bit_at value n) minus

pub splice_before : (word offset width value i : ℕ) → value < 2 ^ width → offset + width ≤ 64 → i < offset
    → bit_at (bit_or (bit_and word (18446744073709551615 - (2 ^ width - 1) * 2 ^ offset % 2 ^ 64)) (value * 2 ^ offset % 2 ^ 64)) i ≡ bit_at word i
unfolding filled
splice_before word offset width value i fits h k =
    filled_bit word offset width value i (omega arith)
    ∙ shown (bit_at word i) (bit_at (value * 2 ^ offset % 2 ^ 64) i) (bit_at ((2 ^ width - 1) * 2 ^ offset % 2 ^ 64) i) (bit_at-lt word i)
    (shifted_low (2 ^ width - 1) width offset i (ones_fit width) h k) (shifted_low value width offset i fits h k)

pub splice_after : (word offset width value i : ℕ) → value < 2 ^ width → offset + width ≤ 64 → offset + width ≤ i → i < 64
    → bit_at (bit_or (bit_and word (18446744073709551615 - (2 ^ width - 1) * 2 ^ offset % 2 ^ 64)) (value * 2 ^ offset % 2 ^ 64)) i ≡ bit_at word i
unfolding filled
splice_after word offset width value i fits h k most =
    filled_bit word offset width value i most
    ∙ shown (bit_at word i) (bit_at (value * 2 ^ offset % 2 ^ 64) i) (bit_at ((2 ^ width - 1) * 2 ^ offset % 2 ^ 64) i) (bit_at-lt word i)
    (shifted_high (2 ^ width - 1) width offset i (ones_fit width) h (omega arith) ∙ bit_at_ones_above width (i - offset) (omega arith))
    (shifted_high value width offset i fits h (omega arith) ∙ bit_at_above value width (i - offset) fits (omega arith))

-- one word written
set_other : (words : List ℕ) (a r t : ℕ) → t / 64 ≢ a → bit (set words a r) t ≡ bit words t
unfolding bit
set_other words a r t h = ap (λ n. bit_at n (t % 64)) (get_or-set_other words a (t / 64) r 0 h)

set_same : (words : List ℕ) (a r t o : ℕ) → a < length words → t ≡ 64 * a + o → o < 64 → bit (set words a r) t ≡ bit_at r o
set_same words a r t o h e k = bit_place (set words a r) t a o e k ∙ ap (λ n. bit_at n o) (get_or-set_same words a r 0 h)

-- a part of a word written
pub record Spliced (words : List ℕ) (a offset width value r : ℕ) : Type 0 where
  pub there : a < length words
  pub room : offset + width ≤ 64
  pub inside : (i : ℕ) → i < width → bit_at r (offset + i) ≡ bit_at value i
  pub before : (i : ℕ) → i < offset → bit_at r i ≡ bit_at (get_or words a 0) i
  pub after : (i : ℕ) → offset + width ≤ i → i < 64 → bit_at r i ≡ bit_at (get_or words a 0) i

pub in_splice : (words : List ℕ) (a offset width value r : ℕ) → Spliced words a offset width value r → (i t : ℕ) → i < width → t ≡ 64 * a + (offset + i) → bit (set words a r) t ≡ bit_at value i
in_splice words a offset width value r s i t h e = let room = s.room in set_same words a r t (offset + i) s.there e (omega arith) ∙ s.inside i h

pub before_splice : (words : List ℕ) (a offset width value r : ℕ) → Spliced words a offset width value r → (t : ℕ) → t < 64 * a + offset → bit (set words a r) t ≡ bit words t
before_splice words a offset width value r s t h =
    let room = s.room in
    ⊎_elim (λ (below : t < 64 * a). set_other words a r t (omega arith))
    (λ (from : 64 * a ≤ t). set_same words a r t (t - 64 * a) s.there (omega arith) (omega arith) ∙ s.before (t - 64 * a) (omega arith) ∙ sym (bit_place words t a (t - 64 * a) (omega arith) (omega arith)))
    (cases_lt t (64 * a))

pub after_splice : (words : List ℕ) (a offset width value r : ℕ) → Spliced words a offset width value r → (t : ℕ) → 64 * a + (offset + width) ≤ t → bit (set words a r) t ≡ bit words t
after_splice words a offset width value r s t h =
    let room = s.room in
    ⊎_elim (λ (below : t < 64 * a + 64). set_same words a r t (t - 64 * a) s.there (omega arith) (omega arith) ∙ s.after (t - 64 * a) (omega arith) (omega arith) ∙ sym (bit_place words t a (t - 64 * a) (omega arith) (omega arith)))
    (λ (from : 64 * a + 64 ≤ t). set_other words a r t (omega arith))
    (cases_lt t (64 * a + 64))

-- `put` within a word
module _ (words : List ℕ) (at width value r : ℕ) (fits : value < 2 ^ width) (s : Spliced words (at / 64) (at % 64) width value r) where
  pub put_value : field (set words (at / 64) r) at width ≡ value
  put_value = sym (field_is (set words (at / 64) r) at width value fits (λ i h. sym (in_splice words (at / 64) (at % 64) width value r s i (at + i) h (omega arith))))

  pub put_before : (t : ℕ) → t < at → bit (set words (at / 64) r) t ≡ bit words t
  put_before t h = before_splice words (at / 64) (at % 64) width value r s t (omega arith)

  pub put_after : (t : ℕ) → at + width ≤ t → bit (set words (at / 64) r) t ≡ bit words t
  put_after t h = after_splice words (at / 64) (at % 64) width value r s t (omega arith)

-- `put` across two words
module _ (words : List ℕ) (at width value have r q : ℕ) (fits : value < 2 ^ width) (e : have + at % 64 ≡ 64) (wide : have ≤ width)
    (s : Spliced words (at / 64) (at % 64) have (value % 2 ^ have) r) (u : Spliced (set words (at / 64) r) (at / 64 + 1) 0 (width - have) (value / 2 ^ have) q) where
  abbrev front : List ℕ
  front = set words (at / 64) r

  abbrev both : List ℕ
  both = set front (at / 64 + 1) q

  across_bit : (i : ℕ) → i < width → bit both (at + i) ≡ bit_at value i
  across_bit i h = ⊎_elim
      (λ (below : i < have). before_splice front (at / 64 + 1) 0 (width - have) (value / 2 ^ have) q u (at + i) (omega arith)
      ∙ in_splice words (at / 64) (at % 64) have (value % 2 ^ have) r s i (at + i) below (omega arith) ∙ bit_at_mod value have i below)
      (λ (from : have ≤ i). in_splice front (at / 64 + 1) 0 (width - have) (value / 2 ^ have) q u (i - have) (at + i) (omega arith) (omega arith)
      ∙ bit_at_shr value have (i - have) ∙ ap (λ n. bit_at value n) (omega arith))
      (cases_lt i have)

  pub across_value : field both at width ≡ value
  across_value = sym (field_is both at width value fits (λ i h. sym (across_bit i h)))

  pub across_before : (t : ℕ) → t < at → bit both t ≡ bit words t
  across_before t h = before_splice front (at / 64 + 1) 0 (width - have) (value / 2 ^ have) q u t (omega arith)
      ∙ before_splice words (at / 64) (at % 64) have (value % 2 ^ have) r s t (omega arith)

  pub across_after : (t : ℕ) → at + width ≤ t → bit both t ≡ bit words t
  across_after t h = after_splice front (at / 64 + 1) 0 (width - have) (value / 2 ^ have) q u t (omega arith)
      ∙ after_splice words (at / 64) (at % 64) have (value % 2 ^ have) r s t (omega arith)

-- a field that lies apart from what was written
pub field_apart : (words new : List ℕ) (at width other wide : ℕ) → ((t : ℕ) → t < at → bit new t ≡ bit words t) → ((t : ℕ) → at + width ≤ t → bit new t ≡ bit words t) → IsApart at width other wide → field new other wide ≡ field words other wide
field_apart words new at width other wide before after apart =
    field_same words new other wide (λ t low high. ⊎_elim (λ (above : at + width ≤ other). after t (omega arith)) (λ (below : other + wide ≤ at). before t (omega arith)) apart)
