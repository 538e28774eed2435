-- The number that a field writes: 1 to 10 digits, with any number of spaces before and after them, and in the
-- signed form at most one minus right before the digits.
use Rattle.std.specs.Prelude.{ℕ, ◌-◌, ◌==◌, ◌&&◌, Bool, false, List, length, take, drop, nat_le, slice_index}
use Rattle.std.specs.Prelude.{Option, Some, None, if◌then◌else◌, ℤ, pos, neg_ℤ, option_map}
use Rattle.std.specs.List.{list_all, prefix_len, suffix_len}
use Rattle.std.specs.Char.{is_ascii_digit}
use Rattle.std.specs.Str.Parse.{digits_value}
use Rattle.trace_csv.specs.declared.form.Form.{Form}
use Rattle.trace_csv.specs.declared.form.Form.TheVariants.{Unsigned, Signed}

abbrev pub is_space : ℕ → Bool
is_space c = c == 32

-- the text without the spaces at its front, and without those at its end
abbrev pub after_spaces : List ℕ → List ℕ
after_spaces text = drop (prefix_len is_space text) text

abbrev pub before_spaces : List ℕ → List ℕ
before_spaces text = take (length text - suffix_len is_space text) text

-- the number that 1 to 10 digits write
abbrev pub digits_number : List ℕ → Option ℕ
digits_number text =
    if nat_le 1 (length text) && (nat_le (length text) 10 && list_all is_ascii_digit text)
    then Some (digits_value 10 text) else None

-- the number that a field writes, if it writes one
abbrev pub number : List ℕ → Option ℕ
number field = digits_number (before_spaces (after_spaces field))

-- whether a text begins with a minus, which the signed form alone takes
abbrev pub has_minus : Form → List ℕ → Bool
has_minus (Unsigned width) text = false
has_minus Signed text = slice_index text 0 == 45

abbrev pub after_minus : Form → List ℕ → List ℕ
after_minus form text = if has_minus form text then drop 1 text else text

-- n, or -n
abbrev pub with_sign : Bool → ℕ → ℤ
with_sign negative n = if negative then neg_ℤ (pos n) else pos n

-- the number that a text without spaces round it writes
abbrev pub signed_text_number : Form → List ℕ → Option ℤ
signed_text_number form text =
    option_map (with_sign (has_minus form text)) (digits_number (after_minus form text))

-- the number that a field of a form writes, if it writes one
abbrev pub written : Form → List ℕ → Option ℤ
written form field = signed_text_number form (before_spaces (after_spaces field))
