-- Where an input is cut into a trace and a report.
use Rattle.std.specs.Prelude.{◌⊎◌, ◌≡◌, ◌+◌, ◌-◌, ℕ, List, Some, slice_get}

-- a line that is `#` alone begins there: at the front or after a line feed, and before one
pub record IsCut (bytes : List ℕ) (i : ℕ) : Type 0 where
  pub mark : slice_get bytes i ≡ Some 35
  pub after : slice_get bytes (i + 1) ≡ Some 10
  pub before : (i ≡ 0) ⊎ (slice_get bytes (i - 1) ≡ Some 10)

-- there is no such line
abbrev pub IsWhole : List ℕ → Type 0
IsWhole bytes = (i : ℕ) → IsCut bytes i → ⊥
