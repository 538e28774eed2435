-- A field's number as a word of 32 bits, and the slots of words: how a trace is read, in either form.
use Rattle.std.specs.Prelude.{◌≡◌, ◌≤◌, ◌<◌, ◌*◌, ◌/◌, ◌^◌, ◌⊎◌, ℕ, List, length, take, drop, ⊤, ℤ}
use Rattle.std.specs.Prelude.{Option, Some, None, Result, Ok, nat_lt, if◌then◌else◌}
use Rattle.std.specs.Char.{is_ascii_digit}
use Rattle.std.specs.Int.{cast_unsigned, w32}
use Rattle.std.specs.List.{flat_map, prefix_len}
use Rattle.std.specs.Str.Parse.{digits_value}
use Rattle.trace_csv.specs.Fields.{after_minus, has_minus, with_sign}
use Rattle.trace_csv.specs.Pieces.{pieces}
use Rattle.trace_csv.specs.Signed.{halves_of_word, is_signed}
use Rattle.trace_csv.specs.Trace.{even_lines, map_ok, signed_at, slot_of}
use Rattle.trace_csv.specs.declared.form.Form.{Form}
use Rattle.trace_csv.specs.declared.form.Form.TheVariants.{Unsigned, Signed}
use Rattle.trace_csv.specs.declared.number.Number.{Number}
use Rattle.trace_csv.specs.declared.refusal.TraceError.{TraceError}

-- each number of the form fits a word
abbrev pub FitsWord : Form → Type 0
FitsWord (Unsigned width) = width ≤ 31
FitsWord Signed = ⊤

-- how many slots so many fields have, and the other way round
abbrev pub slots_in : Form → ℕ → ℕ
slots_in (Unsigned width) fields = fields
slots_in Signed fields = 2 * fields

abbrev pub fields_in : Form → ℕ → ℕ
fields_in (Unsigned width) slots = slots
fields_in Signed slots = slots / 2

-- the slots of words
abbrev pub spread : Form → List ℕ → List ℕ
spread (Unsigned width) words = words
spread Signed words = flat_map halves_of_word words

-- the number of a field modulo 2 ^ 32
abbrev pub word_of : Form → ℕ → ℕ → List ℕ → Result ℕ TraceError
word_of (Unsigned width) row field text = slot_of width row field text
word_of Signed row field text = map_ok (cast_unsigned w32) (signed_at row field text)

-- the number that a minus and digits write
abbrev pub number_value : Number → ℤ
number_value n = with_sign n.negative n.size

-- the same modulo 2 ^ 32, where it is in range
abbrev pub unsigned_word : ℕ → Number → Option ℕ
unsigned_word width n = if nat_lt n.size (2 ^ width) then Some n.size else None

abbrev pub signed_word : Number → Option ℕ
signed_word n = if is_signed (number_value n) then Some (cast_unsigned w32 (number_value n)) else None

abbrev pub word_in : Form → Number → Option ℕ
word_in (Unsigned width) n = unsigned_word width n
word_in Signed n = signed_word n

-- the text has no digits after its minus, or more than 10
abbrev pub HasNoNumber : Form → List ℕ → Type 0
HasNoNumber form text = (prefix_len is_ascii_digit (after_minus form text) ≡ 0)
    ⊎ (10 < prefix_len is_ascii_digit (after_minus form text))

-- the text is a minus that the form takes, if it has one, then 1 to 10 digits, and the rest
pub record HasNumber (form : Form) (text : List ℕ) (n : Number) (rest : List ℕ) : Type 0 where
  pub count : ℕ
  pub some : 0 < count
  pub few : count ≤ 10
  pub all : count ≡ prefix_len is_ascii_digit (after_minus form text)
  pub sign : n.negative ≡ has_minus form text
  pub size : n.size ≡ digits_value 10 (take count (after_minus form text))
  pub left : rest ≡ drop count (after_minus form text)

-- the lines of these records are the numbers, cut into pieces
pub record AreRead (form : Form) (fields : ℕ) (rows : List (List (List ℕ))) (numbers : List ℕ) : Type 0 where
  pub lines : even_lines form fields rows ≡ Ok (pieces (slots_in form fields) (length rows) numbers)
  pub whole : length numbers ≡ length rows * slots_in form fields
