-- A text's first number and its first line, as they are read without `csv`.
use Rattle.std.specs.Prelude.{◌≡◌, ◌<◌, ◌==◌, ◌||◌, ℕ, Bool, List, [], ◌∷◌, ◌++◌, length, slice_index, Ok, true}
use Rattle.std.specs.Char.{is_ascii_digit}
use Rattle.std.specs.List.{list_all}
use Rattle.csv.specs.Reading.{default_config, records}
use Rattle.trace_csv.specs.Trace.{each_from}
use Rattle.trace_csv.specs.Words.{spread, word_of}
use Rattle.trace_csv.specs.declared.form.Form.{Form}

-- a byte of a number: a digit or a minus
abbrev pub is_plain : ℕ → Bool
is_plain c = is_ascii_digit c || (c == 45)

-- the text is a field of plain bytes and the rest, and numbers gained the field's slots at their end
pub record AddsNumber (form : Form) (text rest old new : List ℕ) : Type 0 where
  pub field : List ℕ
  pub word : ℕ
  pub front : text ≡ field ++ rest
  pub some : 0 < length field
  pub all : list_all is_plain field ≡ true
  pub writes : (row place : ℕ) → word_of form row place field ≡ Ok word
  pub at_end : new ≡ old ++ spread form (word ∷ [])

-- the text begins with a plain byte and a record, the rest has the records after it, and numbers gained the
-- slots of the record at their end
pub record AddsFirstLine (form : Form) (text rest old new : List ℕ) : Type 0 where
  pub fields : List (List ℕ)
  pub words : List ℕ
  pub plain : is_plain (slice_index text 0) ≡ true
  pub first : records default_config text ≡ fields ∷ records default_config rest
  pub writes : (row : ℕ) → each_from (word_of form row) 1 fields ≡ Ok words
  pub at_end : new ≡ old ++ spread form words
