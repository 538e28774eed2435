-- What `decimal` writes of any number, however large: digits, the last 64 at most. So a number of 64 bits
-- shares its text with no other number.
use Rattle.std.proofs.Common.{◌≡◌, ◌≤◌, ◌<◌, ◌+◌, ◌/◌, ◌%◌, ◌^◌, ◌∙◌, ℕ, zero, suc, Bool, true, false, List, [], ◌∷◌, length, get_or, decimal, refl, sym, ap, arith, rules, eqb-true, lt-ltb, le-leb, pow-suc, ⊎_elim, if◌then◌else◌}
use Rattle.std.proofs.lemmas.Bool.{cases_lt}
use Rattle.std.proofs.lemmas.Fmt.{decimal_is_IsNumeral, decimal_is_IsNumeral_wide, length-decimal-le}
use Rattle.std.specs.Char.{is_ascii_digit}
use Rattle.std.specs.Fmt.{digits, digits_onto, digit_glyph}
use Rattle.std.specs.Prelude.{◌==◌}
use Rattle.std.specs.Str.Parse.{digits_value}

abbrev AreDigits : List ℕ → Type 0
AreDigits xs = (k : ℕ) → k < length xs → is_ascii_digit (get_or xs k 0) ≡ true

digit-test : (c : ℕ) → 48 ≤ c → c ≤ 57 → is_ascii_digit c ≡ true
digit-test c low high = search (rules, le-leb 48 c low, le-leb c 57 high)

glyph-digit : (n : ℕ) → is_ascii_digit (digit_glyph false (n % 10)) ≡ true
glyph-digit n =
    let small : n % 10 < 10 = omega arith in
    ap (λ (b : Bool). is_ascii_digit (if b then 48 + n % 10 else 87 + n % 10)) (lt-ltb (n % 10) 10 small) ∙ digit-test (48 + n % 10) (omega arith) (omega arith)

one-more : (n : ℕ) (acc : List ℕ) → AreDigits acc → AreDigits (digit_glyph false (n % 10) ∷ acc)
one-more n acc all zero within = glyph-digit n
one-more n acc all (suc k) within = all k (omega arith)

-- what holds of both sides of a choice
either-holds : (P : List ℕ → Type 0) (b : Bool) (xs ys : List ℕ) → P xs → P ys → P (if b then xs else ys)
either-holds P true xs ys one other = one
either-holds P false xs ys one other = other

are-digits : (k n : ℕ) (acc : List ℕ) → AreDigits acc → AreDigits (digits_onto k 10 false n acc)
are-digits zero n acc all = all
are-digits (suc k) n acc all =
    let more = one-more n acc all in
    either-holds AreDigits (n / 10 == 0) (digit_glyph false (n % 10) ∷ acc) (digits_onto k 10 false (n / 10) (digit_glyph false (n % 10) ∷ acc)) more
    (are-digits k (n / 10) (digit_glyph false (n % 10) ∷ acc) more)

grows : (k n : ℕ) (acc : List ℕ) → length acc ≤ length (digits_onto k 10 false n acc)
grows zero n acc = omega arith
grows (suc k) n acc =
    either-holds (λ xs. length acc ≤ length xs) (n / 10 == 0) (digit_glyph false (n % 10) ∷ acc) (digits_onto k 10 false (n / 10) (digit_glyph false (n % 10) ∷ acc))
    (omega arith) (omega (arith, grows k (n / 10) (digit_glyph false (n % 10) ∷ acc)))

some-digit : (k n : ℕ) (acc : List ℕ) → 0 < k → 0 < length (digits_onto k 10 false n acc)
some-digit zero n acc some = absurd (omega arith)
some-digit (suc k) n acc some =
    either-holds (λ xs. 0 < length xs) (n / 10 == 0) (digit_glyph false (n % 10) ∷ acc) (digits_onto k 10 false (n / 10) (digit_glyph false (n % 10) ∷ acc))
    (omega arith) (omega (arith, grows k (n / 10) (digit_glyph false (n % 10) ∷ acc)))

power-some : (k : ℕ) → 0 < 10 ^ k
power-some zero = omega arith
power-some (suc k) = omega (arith, pow-suc 10 k, power-some k)

-- a number with as many digits as are asked for has them all written
all-written : (k n : ℕ) (acc : List ℕ) → 10 ^ k ≤ n → length (digits_onto k 10 false n acc) ≡ k + length acc
all-written zero n acc large = omega arith
all-written (suc k) n acc large = by (n / 10 == 0) refl (all-written k (n / 10) (digit_glyph false (n % 10) ∷ acc))
  where
    by : (b : Bool) → (n / 10 == 0) ≡ b
        → (10 ^ k ≤ n / 10 → length (digits_onto k 10 false (n / 10) (digit_glyph false (n % 10) ∷ acc)) ≡ k + suc (length acc))
        → length (if b then digit_glyph false (n % 10) ∷ acc else digits_onto k 10 false (n / 10) (digit_glyph false (n % 10) ∷ acc)) ≡ suc k + length acc
    by true e more = absurd (omega (arith, pow-suc 10 k, power-some k, eqb-true (n / 10) 0 e))
    by false e more = omega (arith, more (omega (arith, pow-suc 10 k)))

pub decimal-digit : (n k : ℕ) → k < length (decimal n) → is_ascii_digit (get_or (decimal n) k 0) ≡ true
unfolding digits
decimal-digit n k within = are-digits 64 n [] (λ j few. absurd (omega arith)) k within

pub decimal-some : (n : ℕ) → 0 < length (decimal n)
unfolding digits
decimal-some n = some-digit 64 n [] (omega arith)

long-decimal : (n : ℕ) → 10 ^ 64 ≤ n → length (decimal n) ≡ 64
unfolding digits
long-decimal n large = all-written 64 n [] large

pub decimal-own : (a b : ℕ) → a < 2 ^ 64 → decimal a ≡ decimal b → a ≡ b
decimal-own a b fits e = ⊎_elim
    (λ (small : b < 10 ^ 64). sym (decimal_is_IsNumeral a fits).1 ∙ ap (digits_value 10) e ∙ (decimal_is_IsNumeral_wide b small).1)
    (λ (large : 10 ^ 64 ≤ b). absurd (omega (arith, length-decimal-le 20 a (omega arith) (omega arith) fits, long-decimal b large, ap length e)))
    (cases_lt b (10 ^ 64))
