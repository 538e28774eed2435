-- The number that a field writes, read from its front.
use Rattle.std.proofs.Common.{◌≡◌, ◌≤◌, ◌<◌, ◌+◌, ◌*◌, ◌-◌, ◌^◌, ℕ, List, [], length, take, drop, get_or, Bool, true, false, Some, None, refl, sym, ap, arith, ◌∙◌, add-one, length-drop, ⊎_elim}
use Rattle.std.proofs.lemmas.List.{drop_all, get_or-drop, get_or-reverse, get_or-take, length-take, length-take-le, take_all}
use Rattle.std.proofs.lemmas.List.Folds.{list_all_at}
use Rattle.std.proofs.lemmas.List.Sums.{list_all-from_AllPass, prefix_len-le-length, prefix_len_is, prefix_len_passes, prefix_len_stops, suffix_len_is}
use Rattle.std.proofs.lemmas.Bool.{cases_lt, le-leb, leb-true, lt-leb, ne_eqb}
use Rattle.std.specs.Prelude.{if◌then◌else◌, ◌&&◌, nat_le, reverse}
use Rattle.std.proofs.lemmas.Int.Digits.{digits_value_more}
use Rattle.std.specs.Char.{digit_value, is_ascii_digit}
use Rattle.std.specs.List.{list_all, prefix_len, suffix_len}
use Rattle.std.specs.Str.Parse.{digits_value}
use Rattle.trace_csv.specs.Fields.{before_spaces, digits_number, is_space, number}

-- where the items up to a place pass, that place is within the front that passes
pub prefix-past : (p : ℕ → Bool) (xs : List ℕ) (n : ℕ) → n < length xs → ((k : ℕ) → k < n + 1 → p (get_or xs k 0) ≡ true) → n < prefix_len p xs
prefix-past p xs n h all = ⊎_elim (λ past. past) (λ short. absurd (by short)) (cases_lt n (prefix_len p xs))
  where
    by : prefix_len p xs ≤ n → ⊥
    by short =
        let stops = prefix_len_stops p xs 0 (omega arith) in
        let passes = all (prefix_len p xs) (omega arith) in
        cc (stops, passes)

-- one digit more
pub digits-step : (xs : List ℕ) (i sum d : ℕ) → i < length xs → sum ≡ digits_value 10 (take i xs) → d ≡ digit_value (get_or xs i 0)
    → sum * 10 + d ≡ digits_value 10 (take (i + 1) xs)
digits-step xs i sum d h e f = rw (e, f) (sym (digits_value_more 10 xs i h))

pub small-step : (i n d : ℕ) → n < 10 ^ i → d ≤ 9 → n * 10 + d < 10 ^ (i + 1)
small-step i n d h k = rw add-one (omega arith)

-- the items of the end that passes do pass
pub suffix-passes : (p : ℕ → Bool) (xs : List ℕ) (k : ℕ) → length xs - suffix_len p xs ≤ k → k < length xs → p (get_or xs k 0) ≡ true
suffix-passes p xs k h few =
    let back : length xs - 1 - k < length xs = omega arith in
    let within : length xs - 1 - k < prefix_len p (reverse xs) = omega arith in
    let place : length xs - 1 - (length xs - 1 - k) ≡ k = omega arith in
    let passes = prefix_len_passes p (reverse xs) (length xs - 1 - k) 0 within in
    rw (get_or-reverse xs (length xs - 1 - k) 0 back, place) at passes

-- a byte that is no space is before the spaces at the end
pub before-end : (t : List ℕ) (k : ℕ) → k < length t → is_space (get_or t k 0) ≡ false → k < length (before_spaces t)
before-end t k h other =
    ⊎_elim (λ (within : k < length t - suffix_len is_space t). simp length-take (omega arith)) (λ past. absurd (by past)) (cases_lt k (length t - suffix_len is_space t))
  where
    by : length t - suffix_len is_space t ≤ k → ⊥
    by past = let passes = suffix-passes is_space t k past h in cc (passes, other)

pub get_or-before : (t : List ℕ) (k : ℕ) → k < length (before_spaces t) → get_or (before_spaces t) k 0 ≡ get_or t k 0
get_or-before t k h =
    let within : k < length t - suffix_len is_space t = omega (arith, length-take (length t - suffix_len is_space t) t) in
    get_or-take _ _ k 0 within

pub both-left : (a b : Bool) → (a && b) ≡ true → a ≡ true
both-left true b h = refl
both-left false b h = h

pub both-right : (a b : Bool) → (a && b) ≡ true → b ≡ true
both-right true b h = h
both-right false b h = cc h

-- a digit is no space, and no byte that csv knows
pub digit-range : (c : ℕ) → is_ascii_digit c ≡ true → (48 ≤ c) × (c ≤ 57)
digit-range c h = (leb-true 48 c (both-left (nat_le 48 c) (nat_le c 57) h), leb-true c 57 (both-right (nat_le 48 c) (nat_le c 57) h))

pub digit-no-space : (c : ℕ) → is_ascii_digit c ≡ true → is_space c ≡ false
digit-no-space c h = let low = (digit-range c h).0 in ne_eqb c 32 (λ e. omega arith)

-- what is not of the form
none-short : (b c : Bool) (n : ℕ) → (if false && (b && c) then Some n else None) ≡ None
none-short b c n = refl

none-if : (a b c : Bool) (n : ℕ) → c ≡ false → (if a && (b && c) then Some n else None) ≡ None
none-if true true c n e = rw e refl
none-if true false c n e = refl
none-if false b c n e = refl

none-long : (a b c : Bool) (n : ℕ) → b ≡ false → (if a && (b && c) then Some n else None) ≡ None
none-long true b c n e = rw e refl
none-long false b c n e = refl

-- more than ten digits in front
pub number-long : (t : List ℕ) → 10 < prefix_len is_ascii_digit t → digits_number (before_spaces t) ≡ None
number-long t h =
    let few = prefix_len-le-length is_ascii_digit t in
    let within : 10 < length t = omega arith in
    let tenth = before-end t 10 within (digit-no-space _ (prefix_len_passes is_ascii_digit t 10 0 h)) in
    none-long (nat_le 1 (length (before_spaces t))) _ _ _ (lt-leb (length (before_spaces t)) 10 tenth)

-- a byte after the digits that is no space
pub number-torn : (t : List ℕ) (k : ℕ) → prefix_len is_ascii_digit t ≤ k → k < length (before_spaces t) → digits_number (before_spaces t) ≡ None
number-torn t k h within =
    let count = prefix_len is_ascii_digit t in
    let first : count < length (before_spaces t) = omega arith in
    let inside : count < length t = omega (arith, length-take (length t - suffix_len is_space t) t) in
    let stops = prefix_len_stops is_ascii_digit t 0 inside in
    let at = get_or-before t count first in
    none-if (nat_le 1 (length (before_spaces t))) (nat_le (length (before_spaces t)) 10) _ _
    (list_all_at is_ascii_digit (before_spaces t) count 0 first (ap is_ascii_digit at ∙ stops))

-- no digit in front
pub number-empty : (t : List ℕ) → prefix_len is_ascii_digit t ≡ 0 → digits_number (before_spaces t) ≡ None
number-empty t h =
    ⊎_elim (λ (some : 0 < length (before_spaces t)). number-torn t 0 (omega arith) some) (λ none. by none) (cases_lt 0 (length (before_spaces t)))
  where
    by : length (before_spaces t) ≤ 0 → digits_number (before_spaces t) ≡ None
    by none = let e : nat_le 1 (length (before_spaces t)) ≡ false = lt-leb 1 (length (before_spaces t)) (omega arith) in rw e refl

-- the spaces after the digits are not all that is left
pub number-more : (t rest : List ℕ) (count spaces : ℕ) → count ≡ prefix_len is_ascii_digit t → rest ≡ drop count t → spaces ≡ prefix_len is_space rest
    → spaces < length rest → digits_number (before_spaces t) ≡ None
number-more t rest count spaces is left some inside =
    let size : length rest ≡ length t - count = ap length left ∙ length-drop count t in
    let few : prefix_len is_space rest < length rest = omega arith in
    let stops = rw (← some, left, get_or-drop) at (prefix_len_stops is_space rest 0 few) in
    number-torn t (count + spaces) (omega arith) (before-end t (count + spaces) (omega arith) stops)

-- some digits, and then spaces alone
before-spaces-is : (t : List ℕ) (count : ℕ) → 0 < count → count ≡ prefix_len is_ascii_digit t
    → prefix_len is_space (drop count t) ≡ length (drop count t) → before_spaces t ≡ take count t
before-spaces-is t count some is all =
    let few = prefix_len-le-length is_ascii_digit t in
    let within : count ≤ length t = omega arith in
    let left = length-drop count t in
    let end : suffix_len is_space t ≡ length t - count =
    suffix_len_is is_space t count 0 within
    (λ k low high. let place : count + (k - count) ≡ k = omega arith in
    let passes = prefix_len_passes is_space (drop count t) (k - count) 0 (omega arith) in
    rw (get_or-drop, place) at passes)
    (λ h. digit-no-space _ (prefix_len_passes is_ascii_digit t (count - 1) 0 (omega arith))) in
    ap (λ n. take n t) (let e : length t - suffix_len is_space t ≡ count = omega arith in e)

-- the digits in front are digits
pub digits-pass : (t : List ℕ) (count : ℕ) → count ≡ prefix_len is_ascii_digit t → list_all is_ascii_digit (take count t) ≡ true
digits-pass t count is =
    let within = prefix_len-le-length is_ascii_digit t in
    let size : length (take count t) ≡ count = length-take-le count t (omega arith) in
    list_all-from_AllPass is_ascii_digit (take count t)
    (λ k d h. let inside : k < count = omega arith in
    let passes = prefix_len_passes is_ascii_digit t k d (omega arith) in
    rw (get_or-take count t k d inside) passes)

pub number-whole : (t rest : List ℕ) (count spaces : ℕ) → 0 < count → count ≤ 10 → count ≡ prefix_len is_ascii_digit t → rest ≡ drop count t
    → spaces ≡ prefix_len is_space rest → length rest ≤ spaces → digits_number (before_spaces t) ≡ Some (digits_value 10 (take count t))
number-whole t rest count spaces some few is left front all =
    let within = prefix_len-le-length is_ascii_digit t in
    let no_more = prefix_len-le-length is_space rest in
    let end : prefix_len is_space rest ≡ length rest = omega arith in
    let size : length (take count t) ≡ count = simp length-take (omega arith) in
    let digits = digits-pass t count is in
    let low : nat_le 1 (length (take count t)) ≡ true = le-leb 1 (length (take count t)) (omega arith) in
    let high : nat_le (length (take count t)) 10 ≡ true = le-leb (length (take count t)) 10 (omega arith) in
    rw (before-spaces-is t count some is (rw left at end), low, high, digits) refl

-- a field of digits alone writes their number
pub digits-write : (n : ℕ) (t : List ℕ) → 0 < n → n ≤ 10 → length t ≡ n → ((k : ℕ) → k < n → is_ascii_digit (get_or t k 0) ≡ true)
    → number t ≡ Some (digits_value 10 t)
digits-write n t some few size digits =
    let no_spaces : prefix_len is_space t ≡ 0 = prefix_len_is is_space t 0 0 (omega arith) (λ k h. absurd (omega arith)) (λ h. digit-no-space _ (digits 0 some)) in
    let all : prefix_len is_ascii_digit t ≡ n = prefix_len_is is_ascii_digit t n 0 (omega arith) digits (λ h. absurd (omega arith)) in
    ap (λ k. digits_number (before_spaces (drop k t))) no_spaces
    ∙ number-whole t [] n 0 some few (sym all) (sym (drop_all n t (omega arith))) refl (omega arith)
    ∙ ap (λ (u : List ℕ). Some (digits_value 10 u)) (take_all n t (omega arith))

pub digits-whole : (n : ℕ) (t : List ℕ) → 0 < n → n ≤ 10 → length t ≤ n → n ≡ prefix_len is_ascii_digit t → number t ≡ Some (digits_value 10 (take n t))
digits-whole n t some few all is =
    let within = prefix_len-le-length is_ascii_digit t in
    digits-write n t some few (omega arith) (λ k h. prefix_len_passes is_ascii_digit t k 0 (omega arith))
    ∙ ap (λ (u : List ℕ). Some (digits_value 10 u)) (sym (take_all n t all))
