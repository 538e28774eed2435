-- What the bytes of a trace stand for: its lines of numbers, or the first refusal.
use Rattle.std.specs.Prelude.{◌≡◌, ◌+◌, ◌*◌, ◌^◌, ◌==◌, ◌&&◌, ◌++◌, ◌∷◌, [], ℕ, List, length, if◌then◌else◌}
use Rattle.std.specs.Prelude.{Option, Some, None, Result, Ok, Err, nat_le, nat_lt, Bool, ℤ}
use Rattle.trace_csv.specs.Fields.{number, written}
use Rattle.trace_csv.specs.Rows.{csv_rows}
use Rattle.trace_csv.specs.Signed.{halves, is_signed}
pub use Rattle.trace_csv.specs.declared.form.Form.{Form}
pub use Rattle.trace_csv.specs.declared.form.Form.TheVariants.{Unsigned, Signed}
use Rattle.trace_csv.specs.declared.refusal.TraceError.{TraceError}
use Rattle.trace_csv.specs.declared.refusal.TraceError.TheVariants.{NotANumber, TooBig, Ragged}
use Rattle.trace_csv.specs.declared.refusal.TraceError.TheVariants.{Length, NoRecords}

-- how many fields a record may have
abbrev pub most_fields : Form → ℕ
most_fields (Unsigned width) = 1024
most_fields Signed = 512

-- what f makes of an answer that is no refusal
abbrev pub map_ok : {A B E : Type 0} → (A → B) → Result A E → Result B E
map_ok f (Ok x) = Ok (f x)
map_ok f (Err e) = Err e

-- an item's outcome before those of the items after it: the first refusal is the answer
abbrev pub put_first : {B E : Type 0} → Result B E → Result (List B) E → Result (List B) E
put_first (Ok y) (Ok ys) = Ok (y ∷ ys)
put_first (Ok y) (Err e) = Err e
put_first (Err e) rest = Err e

-- what `f` makes of each item, numbered from n on, or its first refusal
unfoldable pub each_from : {A B E : Type 0} → (ℕ → A → Result B E) → ℕ → List A → Result (List B) E
each_from f n [] = Ok []
each_from f n (x ∷ xs) = put_first (f n x) (each_from f (n + 1) xs)

-- a number of a field that is to be in a range
abbrev pub in_range : {A : Type 0} → (A → Bool) → ℕ → ℕ → Option A → Result A TraceError
in_range test row field None = Err (NotANumber row field)
in_range test row field (Some n) = if test n then Ok n else Err (TooBig row field)

-- what a field of a record writes: a number below 2 ^ width, or a signed number
abbrev pub slot_of : ℕ → ℕ → ℕ → List ℕ → Result ℕ TraceError
slot_of width row field text = in_range (λ n. nat_lt n (2 ^ width)) row field (number text)

abbrev pub signed_at : ℕ → ℕ → List ℕ → Result ℤ TraceError
signed_at row field text = in_range is_signed row field (written Signed text)

-- the slots of a record's fields in order: its numbers, or the halves of its signed numbers
abbrev pub slots_of : Form → ℕ → List (List ℕ) → Result (List ℕ) TraceError
slots_of (Unsigned width) row fields = each_from (slot_of width row) 1 fields
slots_of Signed row fields = map_ok halves (each_from (signed_at row) 1 fields)

-- the line of a record: first the count of its fields, which is the first record's, then the fields in order
abbrev pub line_of : Form → ℕ → ℕ → List (List ℕ) → Result (List ℕ) TraceError
line_of form first row fields =
    if length fields == first then slots_of form row fields
    else Err (Ragged row (length fields) first)

-- the lines of records of so many fields each, in order
abbrev pub even_lines : Form → ℕ → List (List (List ℕ)) → Result (List (List ℕ)) TraceError
even_lines form fields rows = each_from (line_of form fields) 1 rows

-- the lines of records: first the count of the first one's fields, and then the records in order
abbrev pub lines_of : Form → List (List (List ℕ)) → Result (List (List ℕ)) TraceError
lines_of form [] = Err NoRecords
lines_of form (first ∷ rest) =
    if nat_le 2 (length first) && nat_le (length first) (most_fields form)
    then even_lines form (length first) (first ∷ rest)
    else Err (Length 1 (length first))

-- the lines of a trace, or the first refusal
abbrev pub trace_of : Form → List ℕ → Result (List (List ℕ)) TraceError
trace_of form bytes = lines_of form (csv_rows bytes)

-- numbers gained a line at their end
pub record AddsLine (line : Result (List ℕ) TraceError) (old new : List ℕ) : Type 0 where
  pub added : List ℕ
  pub is_line : line ≡ Ok added
  pub at_end : new ≡ old ++ added
