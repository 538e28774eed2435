-- The text of the different vectors of a list in rising order, where a vector is a list of unsigned numbers or
-- the halves of one of signed numbers.
use Rattle.std.specs.Prelude.{◌≡◌, ◌%◌, ◌↔◌, ℕ, ℤ, true, List, map}
use Rattle.std.specs.Cmp.Lexicographic.{slice_cmp}
use Rattle.std.specs.List.{Contains, list_all}
use Rattle.std.specs.List.Sorted.{IsStrictlySortedBy}
use Rattle.std.specs.Ordering.{int_cmp}
use Rattle.std.specs.declared.cmp.Ordering.{Ordering}
use Rattle.tdb_base.specs.History.{Vector}
use Rattle.trace_csv.specs.Signed.{AreHalves, halves, is_signed, signed_of}
use Rattle.trace_csv.specs.Sorted.{IsSortedText, list_order}
use Rattle.trace_csv.specs.declared.form.Form.{Form}
use Rattle.trace_csv.specs.declared.form.Form.TheVariants.{Unsigned, Signed}
use Rattle.trace_csv.specs.Vectors.{signed_text}

-- list order of signed numbers
abbrev pub signed_order : List ℤ → List ℤ → Ordering
signed_order = slice_cmp int_cmp

-- the signed vectors whose halves are vectors of a list, each once, and each before all greater ones
pub record IsSignedSet (vectors : List Vector) (sorted : List (List ℤ)) : Type 0 where
  pub rising : IsStrictlySortedBy signed_order sorted
  pub same : (v : List ℤ) → Contains sorted v ↔ ((list_all is_signed v ≡ true) × Contains vectors (halves v))
  pub whole : (v : Vector) → Contains vectors v → AreHalves v

-- their text
pub record IsSignedText (vectors : List Vector) (text : List ℕ) : Type 0 where
  pub sorted : List (List ℤ)
  pub set : IsSignedSet vectors sorted
  pub written : text ≡ signed_text sorted

abbrev pub IsListing : Form → List Vector → List ℕ → Type 0
IsListing (Unsigned width) vectors text = IsSortedText vectors text
IsListing Signed vectors text = IsSignedText vectors text

-- the signed numbers that the low 16 bits of some slots keep
abbrev pub signed_in : List ℕ → List ℤ
signed_in slots = signed_of (map (λ n. n % 65536) slots)

-- how two vectors stand to each other by their numbers
abbrev pub form_order : Form → Vector → Vector → Ordering
form_order (Unsigned width) v w = list_order v w
form_order Signed v w = signed_order (signed_in v) (signed_in w)
