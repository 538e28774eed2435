-- What an insertion does to the cells.
use Rattle.std.specs.Prelude.{◌≡◌, ◌≢◌, ◌⊎◌, ℕ, suc, ◌+◌, ◌-◌, ◌<◌, ◌≤◌, Bool, true, not, List}
use Rattle.packed_word.specs.Slice.{bit, field}
use Rattle.cleary_core.specs.declared.cells.Cell.{Cell}
use Rattle.cleary_core.specs.Answers.{Present}
use Rattle.cleary_core.specs.Cells.{carried}
use Rattle.cleary_core.specs.Map.{Key, Slots}
use Rattle.cleary_core.specs.Search.{InRun, Placed, Row}

-- the field of so many bits from bit `at` on was set to the number, and all other bits are as they were
pub record BitsPut (old new : List ℕ) (at bits number : ℕ) : Type 0 where
  pub value : field new at bits ≡ number
  pub before : (t : ℕ) → t < at → bit new t ≡ bit old t
  pub after : (t : ℕ) → at + bits ≤ t → bit new t ≡ bit old t

-- one key put into a cell whose virgin bit stays, and its home marked
pub record Put (old new : ℕ → Cell) (place home quotient : ℕ) (fresh : Bool) : Type 0 where
  pub here : new place ≡ record {
    occupied = true;
    virgin = (new place).virgin;
    change = fresh;
    flags =
        0;
    quotient = quotient;
  }
  pub others : (j : ℕ) → j ≢ place → new j ≡ carried (new j).virgin (old j)
  pub marked : (new home).virgin ≡ true
  pub unmarked : (j : ℕ) → j ≢ home → (new j).virgin ≡ (old j).virgin

-- keys moved up by one, into the cell `free`
pub record ShiftedUp (old new : ℕ → Cell) (place free : ℕ) : Type 0 where
  pub below : (j : ℕ) → j ≤ place → new j ≡ old j
  pub moved : (j : ℕ) → place ≤ j → j < free → new (suc j) ≡ carried (old (suc j)).virgin (old j)
  pub above : (j : ℕ) → free < j → new j ≡ old j

-- keys moved down by one, into the cell `free`
pub record ShiftedDown (old new : ℕ → Cell) (free place : ℕ) : Type 0 where
  pub below : (j : ℕ) → j < free → new j ≡ old j
  pub moved : (j : ℕ) → free ≤ j → j < place → new j ≡ carried (old j).virgin (old (suc j))
  pub above : (j : ℕ) → place ≤ j → new j ≡ old j

-- where a new key of a home belongs in the home's run, and whether it is the first of its home
pub record Belongs (n : ℕ) (cells : ℕ → Cell) (slots : Slots) (keys : List Key)
    (start place home quotient : ℕ) (fresh : Bool) : Type 0 where
  pub run : InRun n cells slots start home
  pub placed : Placed n slots start place home
  pub absent : Present keys home quotient → ⊥
  pub first : fresh ≡ not (cells home).virgin

-- only cells of the home's run change: those from `low` up to `high`, which are occupied afterwards, and were
-- before but for the first or the last
pub record InOneRun (n : ℕ) (old new : ℕ → Cell) (home : ℕ) : Type 0 where
  pub low : ℕ
  pub high : ℕ
  pub span : (low ≤ home) × (home < high) × (high ≤ n)
  pub row : Row new low high
  pub was : Row old low (high - 1) ⊎ Row old (suc low) high
  pub others : (j : ℕ) → (j < low) ⊎ (high ≤ j) → new j ≡ old j

-- at most the flags of one cell change
pub record OnlyFlags (old new : ℕ → Cell) : Type 0 where
  pub place : ℕ
  pub here : new place ≡ record (old place) { flags = (new place).flags }
  pub others : (j : ℕ) → j ≢ place → new j ≡ old j
