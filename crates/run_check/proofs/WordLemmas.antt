-- Words and numbers at the front of a text.
use Rattle.std.proofs.Common.{◌⊎◌, inl, inr, ◌≡◌, ◌≤◌, ◌<◌, ◌+◌, ◌*◌, ◌-◌, ◌^◌, ◌∙◌, ℕ, zero, suc, List, [], ◌∷◌, ◌++◌, length, get_or, take, drop, Bool, true, false, decimal, refl, sym, ap, subst, arith, append_assoc, Option}
use Rattle.std.proofs.lemmas.List.{append-nil, drop_more, get_or_append_left, get_or_at, get_or-drop, get_or-take, length-drop, length-take-le, take-append-drop, take-append-le, take_all}
use Rattle.std.proofs.lemmas.Bool.{cases_lt, leb-true}
use Rattle.std.proofs.lemmas.Fmt.{decimal-digits_value, decimal_digit, decimal_is_IsNumeral, first_decimal}
use Rattle.std.proofs.lemmas.Int.Digits.{digits_more, digits_value_more}
use Rattle.std.proofs.lemmas.List.Sums.{prefix_len-le-length, prefix_len_passes, prefix_len_stops}
use Rattle.std.proofs.lemmas.Str.{digit_value_digit}
use Rattle.std.proofs.lemmas.Str.Parse.{digits_value-take-le, numerals_by_value, tells_digits}
use Rattle.std.specs.Char.{digit_value, is_ascii_digit}
use Rattle.std.specs.List.{prefix_len}
use Rattle.std.specs.Prelude.{◌&&◌, nat_le}
use Rattle.std.specs.Str.Parse.{AllDigits, digits_value}
use Rattle.trace_csv.proofs.DecimalLemmas.{decimal-digit}
use Rattle.run_check.specs.Reading.{Differs, EndsWithin, IsCapped, number_to}

cons-same : (b c : ℕ) (x y : List ℕ) → b ∷ x ≡ c ∷ y → (b ≡ c) × (x ≡ y)
cons-same b c x y e = (cc e, cc e)

-- of two fronts of a text one goes on from the other
pub compare : (text word x y : List ℕ) → text ++ x ≡ word ++ y → ((r : List ℕ) × (text ≡ word ++ r)) ⊎ ((r : List ℕ) × (word ≡ text ++ r))
compare [] word x y e = inr (word, refl)
compare (b ∷ text) [] x y e = inl (b ∷ text, refl)
compare (b ∷ text) (c ∷ word) x y e = by (compare text word x y both.1)
  where
    both : (b ≡ c) × (text ++ x ≡ word ++ y)
    both = cons-same b c (text ++ x) (word ++ y) e

    by : ((r : List ℕ) × (text ≡ word ++ r)) ⊎ ((r : List ℕ) × (word ≡ text ++ r))
        → ((r : List ℕ) × (b ∷ text ≡ c ∷ (word ++ r))) ⊎ ((r : List ℕ) × (c ∷ word ≡ b ∷ (text ++ r)))
    by (inl past) = inl (past.0, ap (λ (n : ℕ). n ∷ text) both.0 ∙ ap (λ (t : List ℕ). c ∷ t) past.1)
    by (inr past) = inr (past.0, ap (λ (n : ℕ). n ∷ word) (sym both.0) ∙ ap (λ (t : List ℕ). b ∷ t) past.1)

pub differs : (text word : List ℕ) → ((r : List ℕ) → text ≡ word ++ r → ⊥) → ((r : List ℕ) → word ≡ text ++ r → ⊥) → Differs text word
differs text word longer shorter x y e = by (compare text word x y e)
  where
    by : ((r : List ℕ) × (text ≡ word ++ r)) ⊎ ((r : List ℕ) × (word ≡ text ++ r)) → ⊥
    by (inl past) = longer past.0 past.1
    by (inr past) = shorter past.0 past.1

pub ends-within : (text word rest : List ℕ) → ((r : List ℕ) → text ≡ word ++ r → ⊥) → word ≡ text ++ rest → EndsWithin text word
ends-within text word [] none e = absurd (none [] (sym (append-nil text) ∙ sym e ∙ sym (append-nil word)))
ends-within text word (b ∷ more) none e = (b, more, e)

and-true : (a b : Bool) → (a && b) ≡ true → (a ≡ true) × (b ≡ true)
and-true true b e = (refl, e)
and-true false b e = (e, cc e)

pub digit-range : (c : ℕ) → is_ascii_digit c ≡ true → (48 ≤ c) × (c ≤ 57)
digit-range c e = let both = and-true (nat_le 48 c) (nat_le c 57) e in (leb-true 48 c both.0, leb-true c 57 both.1)

all-digits : (text : List ℕ) (i : ℕ) → i ≤ prefix_len is_ascii_digit text → AllDigits 10 (take i text)
all-digits text zero few = tt
all-digits text (suc i) few =
    let few' : i < prefix_len is_ascii_digit text = omega arith in
    let within : i < length text = omega (arith, prefix_len-le-length is_ascii_digit text) in
    let range = digit-range (get_or text i 0) (prefix_len_passes is_ascii_digit text i 0 few') in
    let value = digit_value_digit (get_or text i 0) range in
    let next : i + 1 ≡ suc i = omega arith in
    subst (λ (n : ℕ). AllDigits 10 (take n text)) next (digits_more 10 text i within (all-digits text i (omega arith)) (omega arith))

-- digits with no zero before others are the text of their number
pub number-text : (text : List ℕ) (count value : ℕ) → count ≡ prefix_len is_ascii_digit text → 0 < count → ((1 < count) × (get_or text 0 0 ≡ 48) → ⊥)
    → value ≡ digits_value 10 (take count text) → value < 2 ^ 64 → decimal value ≡ take count text
number-text text count value is some plain value-is fits =
    let size : length (take count text) ≡ count = length-take-le count text (omega (arith, prefix_len-le-length is_ascii_digit text)) in
    ap decimal value-is ∙ decimal-digits_value (numerals_by_value (AllDigits 10) tells_digits) (take count text) (all-digits text count (omega arith))
    (omega arith) (λ first. one size first (cases_lt 1 count)) (subst (λ n. n < 2 ^ 64) value-is fits)
  where
    one : length (take count text) ≡ count → get_or (take count text) 0 0 ≡ 48 → (1 < count) ⊎ (count ≤ 1) → length (take count text) ≡ 1
    one size first (inl many) = absurd (plain (many, sym (get_or-take count text 0 0 some) ∙ first))
    one size first (inr single) = omega arith

-- what a text tells that goes on as a number and the byte after it do
module _ (text x y : List ℕ) (n stop : ℕ) (fits : n < 2 ^ 64) (other : is_ascii_digit stop ≡ false) (e : text ++ x ≡ number_to stop n ++ y) where
  whole : text ++ x ≡ decimal n ++ stop ∷ y
  whole = e ∙ append_assoc (decimal n) (stop ∷ []) y

  read : (k : ℕ) → k < length text → get_or text k 0 ≡ get_or (decimal n ++ stop ∷ y) k 0
  read k within = sym (get_or_append_left text x 0 k within) ∙ ap (λ (t : List ℕ). get_or t k 0) whole

  count-most : prefix_len is_ascii_digit text ≤ length (decimal n)
  count-most = by (cases_lt (length (decimal n)) (prefix_len is_ascii_digit text))
    where
      by : (length (decimal n) < prefix_len is_ascii_digit text) ⊎ (prefix_len is_ascii_digit text ≤ length (decimal n)) → prefix_len is_ascii_digit text ≤ length (decimal n)
      by (inl past) =
          let within : length (decimal n) < length text = omega (arith, prefix_len-le-length is_ascii_digit text) in
          let digit = prefix_len_passes is_ascii_digit text (length (decimal n)) 0 past in
          let byte = read (length (decimal n)) within ∙ get_or_at (decimal n) stop y 0 (length (decimal n)) refl in
          absurd (cc (digit, ap is_ascii_digit byte, other))
      by (inr few) = few

  front : take (prefix_len is_ascii_digit text) text ≡ take (prefix_len is_ascii_digit text) (decimal n)
  front =
      sym (take-append-le (prefix_len is_ascii_digit text) text x (prefix_len-le-length is_ascii_digit text)) ∙ ap (take (prefix_len is_ascii_digit text)) whole
      ∙ take-append-le (prefix_len is_ascii_digit text) (decimal n) (stop ∷ y) count-most

  pub number-small : digits_value 10 (take (prefix_len is_ascii_digit text) text) < 2 ^ 64
  number-small =
      let same = ap (digits_value 10) front in
      let less = digits_value-take-le 10 (decimal n) (prefix_len is_ascii_digit text) (omega arith) in
      let value = (decimal_is_IsNumeral n fits).1 in
      omega arith

  pub number-plain : 1 < prefix_len is_ascii_digit text → get_or text 0 0 ≡ 48 → ⊥
  number-plain many naught = by (cases_lt 0 n)
    where
      first : get_or (decimal n) 0 0 ≡ 48
      first =
          let within : 0 < length text = omega (arith, prefix_len-le-length is_ascii_digit text) in
          sym (get_or_append_left (decimal n) (stop ∷ y) 0 0 (decimal_is_IsNumeral n fits).0.0) ∙ sym (read 0 within) ∙ naught

      by : (0 < n) ⊎ (n ≤ 0) → ⊥
      by (inl some) = let more = first_decimal n some fits in let same = first in omega arith
      by (inr none) = let size : length (decimal n) ≡ 1 = ap length (decimal_digit n (omega arith)) in let most = count-most in omega arith

  pub number-stops : prefix_len is_ascii_digit text < length text → (0 < prefix_len is_ascii_digit text) × (get_or text (prefix_len is_ascii_digit text) 0 ≡ stop)
  number-stops within = by (cases_lt (prefix_len is_ascii_digit text) (length (decimal n)))
    where
      by : (prefix_len is_ascii_digit text < length (decimal n)) ⊎ (length (decimal n) ≤ prefix_len is_ascii_digit text)
          → (0 < prefix_len is_ascii_digit text) × (get_or text (prefix_len is_ascii_digit text) 0 ≡ stop)
      by (inl less) =
          let stops = prefix_len_stops is_ascii_digit text 0 within in
          let digit = decimal-digit n (prefix_len is_ascii_digit text) less in
          let byte = read (prefix_len is_ascii_digit text) within ∙ get_or_append_left (decimal n) (stop ∷ y) 0 (prefix_len is_ascii_digit text) less in
          absurd (cc (stops, ap is_ascii_digit byte, digit))
      by (inr all) =
          let most = count-most in
          let same : length (decimal n) ≡ prefix_len is_ascii_digit text = omega arith in
          let some = (decimal_is_IsNumeral n fits).0.0 in
          (omega arith, read (prefix_len is_ascii_digit text) within ∙ get_or_at (decimal n) stop y 0 (prefix_len is_ascii_digit text) same)

-- the text ends within a number
pub number-ends : (text rest : List ℕ) (count value stop : ℕ) → count ≡ prefix_len is_ascii_digit text → ((1 < count) × (get_or text 0 0 ≡ 48) → ⊥)
    → value ≡ digits_value 10 (take count text) → value < 2 ^ 64 → rest ≡ drop count text → length rest ≡ 0
    → (n : ℕ) × (n < 2 ^ 64) × EndsWithin text (number_to stop n)
number-ends [] rest count value stop is plain value-is fits left none = (0, omega arith, (48, stop ∷ [], ap (λ (t : List ℕ). t ++ stop ∷ []) (decimal_digit 0 (omega arith))))
number-ends (b ∷ text) rest count value stop is plain value-is fits left none =
    let few = prefix_len-le-length is_ascii_digit (b ∷ text) in
    let gone : length (b ∷ text) - count ≡ 0 = sym (length-drop count (b ∷ text)) ∙ ap length (sym left) ∙ none in
    let all : take count (b ∷ text) ≡ b ∷ text = take_all count (b ∷ text) (omega arith) in
    let digits = number-text (b ∷ text) count value is (omega arith) plain value-is fits in
    (value, fits, (stop, [], ap (λ (t : List ℕ). t ++ stop ∷ []) (digits ∙ all)))

-- a number and the byte after it stand at the front
pub number-whole : (text rest : List ℕ) (count value stop : ℕ) → count ≡ prefix_len is_ascii_digit text → 0 < count → ((1 < count) × (get_or text 0 0 ≡ 48) → ⊥)
    → value ≡ digits_value 10 (take count text) → value < 2 ^ 64 → rest ≡ drop count text → 0 < length rest → get_or rest 0 0 ≡ stop
    → text ≡ number_to stop value ++ drop 1 rest
number-whole text rest count value stop is some plain value-is fits left inside byte =
    let digits = number-text text count value is some plain value-is fits in
    let first : rest ≡ stop ∷ drop 1 rest = drop_more rest 0 0 inside ∙ ap (λ (n : ℕ). n ∷ drop 1 rest) byte in
    sym (take-append-drop count text) ∙ ap (λ (t : List ℕ). t ++ drop count text) (sym digits)
    ∙ ap (λ (t : List ℕ). decimal value ++ t) (sym left ∙ first) ∙ sym (append_assoc (decimal value) (stop ∷ []) (drop 1 rest))

-- a digit more
pub capped-more : (text : List ℕ) (i digit : ℕ) (old new : Option ℕ) → i < length text → is_ascii_digit (get_or text i 0) ≡ true → digit ≡ get_or text i 0 - 48
    → IsCapped old (digits_value 10 (take i text)) → ((n : ℕ) → IsCapped old n → IsCapped new (n * 10 + digit)) → IsCapped new (digits_value 10 (take (i + 1) text))
capped-more text i digit old new within test is so-far more =
    let value = digit_value_digit (get_or text i 0) (digit-range (get_or text i 0) test) in
    let next : digits_value 10 (take i text) * 10 + digit ≡ digits_value 10 (take (i + 1) text) =
    ap (λ d. digits_value 10 (take i text) * 10 + d) (let same : digit ≡ digit_value (get_or text i 0) = omega arith in same) ∙ sym (digits_value_more 10 text i within) in
    subst (IsCapped new) next (more (digits_value 10 (take i text)) so-far)

-- what a text with such digits at its front tells of every number
module _ (text : List ℕ) (count stop : ℕ) (is : count ≡ prefix_len is_ascii_digit text) (other : is_ascii_digit stop ≡ false) where
  pub big-differs : 2 ^ 64 ≤ digits_value 10 (take count text) → (n : ℕ) → n < 2 ^ 64 → Differs text (number_to stop n)
  big-differs big n fits x y e =
      let small = number-small text x y n stop fits other e in
      let same = ap (λ k. digits_value 10 (take k text)) is in
      absurd (omega arith)

  pub padded-differs : (1 < count) × (get_or text 0 0 ≡ 48) → (n : ℕ) → n < 2 ^ 64 → Differs text (number_to stop n)
  padded-differs padded n fits x y e = let many = padded.0 in number-plain text x y n stop fits other e (omega arith) padded.1

  pub stop-differs : (rest : List ℕ) → rest ≡ drop count text → 0 < length rest → ((0 < count) × (get_or rest 0 0 ≡ stop) → ⊥) → (n : ℕ) → n < 2 ^ 64 → Differs text (number_to stop n)
  stop-differs rest left inside bad n fits x y e =
      let size : length rest ≡ length text - count = ap length left ∙ length-drop count text in
      let stops = number-stops text x y n stop fits other e (omega arith) in
      let some = stops.0 in
      let byte : get_or rest 0 0 ≡ get_or text count 0 = ap (λ (t : List ℕ). get_or t 0 0) left ∙ get_or-drop count text 0 0 ∙ ap (λ k. get_or text k 0) (let k : count + 0 ≡ count = omega arith in k) in
      bad (omega arith, byte ∙ ap (λ k. get_or text k 0) is ∙ stops.1)
