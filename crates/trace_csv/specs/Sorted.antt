-- The different vectors of a list in rising order, and their text.
use Rattle.std.specs.Prelude.{◌≡◌, ◌↔◌, ℕ, List}
use Rattle.std.specs.Cmp.Lexicographic.{slice_cmp}
use Rattle.std.specs.List.{Contains}
use Rattle.std.specs.List.Sorted.{IsStrictlySortedBy}
use Rattle.std.specs.Ordering.{nat_cmp}
use Rattle.std.specs.declared.cmp.Ordering.{Ordering}
use Rattle.trace_csv.specs.Vectors.{vectors_text}

-- list order: the first place where two vectors differ decides by its numbers, and where there is none the
-- shorter one comes first
abbrev pub list_order : List ℕ → List ℕ → Ordering
list_order = slice_cmp nat_cmp

-- the vectors of a list, each once, and each before all greater ones
pub record IsSortedSet (vectors sorted : List (List ℕ)) : Type 0 where
  pub rising : IsStrictlySortedBy list_order sorted
  pub same : (v : List ℕ) → Contains sorted v ↔ Contains vectors v

-- the text of the different vectors of a list in rising order
pub record IsSortedText (vectors : List (List ℕ)) (text : List ℕ) : Type 0 where
  pub sorted : List (List ℕ)
  pub set : IsSortedSet vectors sorted
  pub written : text ≡ vectors_text sorted

-- lists with the same vectors have one such list, and one such text
abbrev pub OneSortedSet : Type 0
OneSortedSet =
    (vectors others a b : List (List ℕ)) → ((v : List ℕ) → Contains vectors v ↔ Contains others v)
    → IsSortedSet vectors a → IsSortedSet others b → a ≡ b

abbrev pub OneSortedText : Type 0
OneSortedText =
    (vectors others : List (List ℕ)) (a b : List ℕ) → ((v : List ℕ) → Contains vectors v ↔ Contains others v)
    → IsSortedText vectors a → IsSortedText others b → a ≡ b
