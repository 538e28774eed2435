-- A minus before a number's digits.
use Rattle.std.proofs.Common.{◌≡◌, ◌≤◌, ◌<◌, ◌+◌, ◌-◌, ◌^◌, ◌⊎◌, ℕ, zero, suc, List, [], ◌∷◌, length, take, drop, get_or, Bool, true, false, Option, Some, None, Result, Ok, Err, ℤ, pos, negsuc, neg_ℤ, refl, sym, ap, arith, ◌∙◌, ⊎_elim, option_map}
use Rattle.std.proofs.lemmas.Bool.{cases_lt, eqb-true, ne_eqb}
use Rattle.std.proofs.lemmas.List.{get_or-reverse, length-reverse, nil_from_length}
use Rattle.std.proofs.lemmas.List.Sums.{prefix_len_is, prefix_len_passes, prefix_len_stops, suffix_len-le-length, suffix_len_is}
use Rattle.std.specs.Prelude.{if◌then◌else◌, ◌==◌, nat_lt, reverse}
use Rattle.std.specs.Char.{is_ascii_digit}
use Rattle.std.specs.Int.{cast_unsigned, w32}
use Rattle.std.specs.List.{prefix_len, suffix_len}
use Rattle.std.specs.Str.Parse.{digits_value}
use Rattle.trace_csv.specs.Fields.{after_minus, after_spaces, before_spaces, digits_number, has_minus, is_space, number, signed_text_number, with_sign, written}
use Rattle.trace_csv.specs.Signed.{is_signed}
use Rattle.trace_csv.specs.Trace.{Form, Signed, Unsigned, in_range, map_ok}
use Rattle.trace_csv.specs.Words.{HasNoNumber, HasNumber, number_value, word_in, word_of}
use Rattle.trace_csv.specs.declared.number.Number.{Number}
use Rattle.trace_csv.specs.declared.refusal.TraceError.{TraceError}
use Rattle.trace_csv.specs.declared.refusal.TraceError.TheVariants.{NotANumber, TooBig}
use Rattle.trace_csv.proofs.FieldLemmas.{before-end, digit-no-space, get_or-before, number-empty, number-long, number-more, number-whole, suffix-passes}

-- the item before the end that passes doesn't pass
suffix-stops : (p : ℕ → Bool) (xs : List ℕ) → suffix_len p xs < length xs → p (get_or xs (length xs - 1 - suffix_len p xs) 0) ≡ false
suffix-stops p xs few =
    let size : length (reverse xs) ≡ length xs = simp length-reverse refl in
    let stops = prefix_len_stops p (reverse xs) 0 (omega (arith, size)) in
    rw (get_or-reverse xs (suffix_len p xs) 0 few) at stops

-- a byte at the front that is no space
spaces-after : (x : ℕ) (u : List ℕ) → is_space x ≡ false → suffix_len is_space (x ∷ u) ≡ suffix_len is_space u
spaces-after x u other =
    let few = suffix_len-le-length is_space u in
    let n : ℕ = length u - suffix_len is_space u in
    suffix_len_is is_space (x ∷ u) (suc n) 0 (omega (arith, few)) (passes n refl) (stops n refl)
    ∙ omega (arith, few)
  where
    passes : (n : ℕ) → n ≡ length u - suffix_len is_space u → (k : ℕ) → suc n ≤ k → k < length (x ∷ u) → is_space (get_or (x ∷ u) k 0) ≡ true
    passes n is zero h d = absurd (omega arith)
    passes n is (suc k) h d = suffix-passes is_space u k (omega arith) (omega arith)

    stops : (n : ℕ) → n ≡ length u - suffix_len is_space u → 0 < suc n → is_space (get_or (x ∷ u) (suc n - 1) 0) ≡ false
    stops zero is h = other
    stops (suc m) is h =
        let at : length u - 1 - suffix_len is_space u ≡ m = omega arith in
        let place : suc (suc m) - 1 ≡ suc m = omega arith in
        rw place (rw at at (suffix-stops is_space u (omega arith)))

trim-after : (x : ℕ) (u : List ℕ) → is_space x ≡ false → before_spaces (x ∷ u) ≡ x ∷ before_spaces u
trim-after x u other =
    let few = suffix_len-le-length is_space u in
    let size : length (x ∷ u) - suffix_len is_space (x ∷ u) ≡ suc (length u - suffix_len is_space u) = omega (arith, spaces-after x u other, few) in
    ap (λ n. take n (x ∷ u)) size

-- the minus stands before the digits whether or not the spaces at the end are there
pub minus-trimmed : (form : Form) (t : List ℕ) → signed_text_number form (before_spaces t) ≡ option_map (with_sign (has_minus form t)) (digits_number (before_spaces (after_minus form t)))
minus-trimmed (Unsigned width) t = refl
minus-trimmed Signed [] = refl
minus-trimmed Signed (x ∷ u) = by (x == 45) refl
  where
    first : (x == 45) ≡ false → (get_or (before_spaces (x ∷ u)) 0 0 == 45) ≡ false
    first e = ⊎_elim (λ (some : 0 < length (before_spaces (x ∷ u))). rw (get_or-before (x ∷ u) 0 some) e)
        (λ none. rw (nil_from_length (before_spaces (x ∷ u)) (omega arith)) refl) (cases_lt 0 (length (before_spaces (x ∷ u))))

    by : (b : Bool) → (x == 45) ≡ b
        → option_map (with_sign (get_or (before_spaces (x ∷ u)) 0 0 == 45)) (digits_number (if get_or (before_spaces (x ∷ u)) 0 0 == 45 then drop 1 (before_spaces (x ∷ u)) else before_spaces (x ∷ u)))
        ≡ option_map (with_sign b) (digits_number (before_spaces (if b then drop 1 (x ∷ u) else x ∷ u)))
    by true e =
        let is : x ≡ 45 = eqb-true x 45 e in
        let no : is_space x ≡ false = ne_eqb x 32 (λ f. omega arith) in
        rw (trim-after x u no, e) refl
    by false e = rw (first e) refl

-- the first byte of a number is no space
minus-first : (form : Form) (t : List ℕ) → has_minus form t ≡ true → is_space (get_or t 0 0) ≡ false
minus-first (Unsigned width) t e = cc e
minus-first Signed t e = let is = eqb-true (get_or t 0 0) 45 e in ne_eqb (get_or t 0 0) 32 (λ f. omega (arith, is))

number-first : (form : Form) (t rest : List ℕ) (n : Number) → HasNumber form t n rest → is_space (get_or t 0 0) ≡ false
number-first form t rest n h = by (has_minus form t) refl
  where
    by : (b : Bool) → has_minus form t ≡ b → is_space (get_or t 0 0) ≡ false
    by true e = minus-first form t e
    by false e =
        let same : after_minus form t ≡ t = rw e refl in
        let within : 0 < prefix_len is_ascii_digit t = let a = rw same at h.all in let s = h.some in omega (arith, a, s) in
        digit-no-space _ (prefix_len_passes is_ascii_digit t 0 0 within)

no-spaces : (t : List ℕ) → is_space (get_or t 0 0) ≡ false → after_spaces t ≡ t
no-spaces t e = ap (λ n. drop n t) (prefix_len_is is_space t 0 0 (omega arith) (λ k h. absurd (omega arith)) (λ h. e))

-- a number and then spaces alone
trimmed-number : (form : Form) (t rest : List ℕ) (n : Number) (spaces : ℕ) → HasNumber form t n rest → spaces ≡ prefix_len is_space rest → length rest ≤ spaces
    → signed_text_number form (before_spaces t) ≡ Some (number_value n)
trimmed-number form t rest n spaces h is all =
    minus-trimmed form t
    ∙ ap (option_map (with_sign (has_minus form t))) (number-whole (after_minus form t) rest h.count spaces h.some h.few h.all h.left is all)
    ∙ ap (λ b. Some (with_sign b (digits_value 10 (take h.count (after_minus form t))))) (sym h.sign)
    ∙ ap (λ m. Some (with_sign n.negative m)) (sym h.size)

pub number-then-spaces : (form : Form) (field t rest : List ℕ) (n : Number) (spaces : ℕ) → t ≡ after_spaces field → HasNumber form t n rest
    → spaces ≡ prefix_len is_space rest → length rest ≤ spaces → Some (number_value n) ≡ written form field
number-then-spaces form field t rest n spaces e h is all =
    sym (trimmed-number form t rest n spaces h is all) ∙ ap (λ u. signed_text_number form (before_spaces u)) e

pub number-alone : (form : Form) (field rest : List ℕ) (n : Number) → HasNumber form field n rest → length rest ≡ 0 → written form field ≡ Some (number_value n)
number-alone form field rest n h none =
    ap (λ u. signed_text_number form (before_spaces u)) (no-spaces field (number-first form field rest n h))
    ∙ trimmed-number form field rest n (prefix_len is_space rest) h refl (omega (arith, none))

-- no number, or a byte after it that is no space
pub no-number : (form : Form) (field t : List ℕ) → t ≡ after_spaces field → HasNoNumber form t → written form field ≡ None
no-number form field t e h =
    ap (λ u. signed_text_number form (before_spaces u)) (sym e) ∙ minus-trimmed form t
    ∙ ap (option_map (with_sign (has_minus form t))) (⊎_elim (number-empty (after_minus form t)) (number-long (after_minus form t)) h)

pub number-torn-off : (form : Form) (field t rest : List ℕ) (n : Number) (spaces : ℕ) → t ≡ after_spaces field → HasNumber form t n rest
    → spaces ≡ prefix_len is_space rest → spaces < length rest → written form field ≡ None
number-torn-off form field t rest n spaces e h is more =
    ap (λ u. signed_text_number form (before_spaces u)) (sym e) ∙ minus-trimmed form t
    ∙ ap (option_map (with_sign (has_minus form t))) (number-more (after_minus form t) rest h.count spaces h.all h.left is more)

-- ---- words

map-none : {A B : Type 0} (f : A → B) (o : Option A) → option_map f o ≡ None → o ≡ None
map-none f None e = refl
map-none f (Some x) e = cc e

pos-is : (m k : ℕ) (b : Bool) → pos m ≡ with_sign b k → m ≡ k
pos-is m k false e = cc e
pos-is m zero true e = cc e
pos-is m (suc k) true e = cc e

unsigned-is : (o : Option ℕ) (n : Number) → option_map (with_sign false) o ≡ Some (number_value n) → o ≡ Some n.size
unsigned-is None n e = cc e
unsigned-is (Some m) n e = let same : pos m ≡ number_value n = cc e in ap (λ k. Some k) (pos-is m n.size n.negative same)

-- what is no number, or else by its word
pub word-none : (form : Form) (row k : ℕ) (text : List ℕ) → written form text ≡ None → word_of form row k text ≡ Err (NotANumber row k)
word-none (Unsigned width) row k text e = let none = map-none (with_sign false) (number text) e in rw none refl
word-none Signed row k text e = rw e refl

abbrev pub or_too_big : ℕ → ℕ → Option ℕ → Result ℕ TraceError
or_too_big row k None = Err (TooBig row k)
or_too_big row k (Some w) = Ok w

choose-word : {A : Type 0} (b : Bool) (x : A) (f : A → ℕ) (row k : ℕ) → map_ok f (if b then Ok x else Err (TooBig row k)) ≡ or_too_big row k (if b then Some (f x) else None)
choose-word true x f row k = refl
choose-word false x f row k = refl

choose-plain : (b : Bool) (x row k : ℕ) → (if b then Ok x else Err (TooBig row k)) ≡ or_too_big row k (if b then Some x else None)
choose-plain true x row k = refl
choose-plain false x row k = refl

pub word-is : (form : Form) (row k : ℕ) (text : List ℕ) (n : Number) → written form text ≡ Some (number_value n) → word_of form row k text ≡ or_too_big row k (word_in form n)
word-is (Unsigned width) row k text n e =
    ap (in_range (λ m. nat_lt m (2 ^ width)) row k) (unsigned-is (number text) n e) ∙ choose-plain (nat_lt n.size (2 ^ width)) n.size row k
word-is Signed row k text n e =
    ap (λ o. map_ok (cast_unsigned w32) (in_range is_signed row k o)) e ∙ choose-word (is_signed (number_value n)) (number_value n) (cast_unsigned w32) row k
