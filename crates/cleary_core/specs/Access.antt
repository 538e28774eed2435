-- Words that are reached one at a time.
use Rattle.std.specs.Prelude.{◌≡◌, ◌⊎◌, ℕ, suc, ◌+◌, ◌*◌, ◌<◌, List, length, slice_index}
use Rattle.cleary_core.specs.declared.cells.Sizes.{Sizes}
use Rattle.cleary_core.specs.Cells.{width}

-- some words are, at each place, what was found there
abbrev pub HasReached : (ℕ → ℕ → Type 0) → List ℕ → Type 0
HasReached reached words = (i m : ℕ) → reached i m → slice_index words i ≡ m

-- what could be reached still can be, and what was found stays found
abbrev pub StaysReached : (ℕ → Type 0) → (ℕ → Type 0) → (ℕ → ℕ → Type 0) → (ℕ → ℕ → Type 0) → Type 0
StaysReached spans spans_after reached reached_after =
    ((count : ℕ) → spans count → spans_after count) × ((i m : ℕ) → reached i m → reached_after i m)

-- the words are so many, and what was found are they
abbrev pub AreReached : (ℕ → ℕ → Type 0) → List ℕ → ℕ → Type 0
AreReached reached words count = (length words ≡ count) × HasReached reached words

-- word i has a bit of a cell from `low` up to `high`
abbrev pub HasCells : Sizes → ℕ → ℕ → ℕ → Type 0
HasCells z low high i = (low * width z < 64 * suc i) × (64 * i < high * width z)

-- word i has one of so many bits from bit `at` on
abbrev pub HasBits : ℕ → ℕ → ℕ → Type 0
HasBits at bits i = (at < 64 * suc i) × (64 * i < at + bits)

-- what was found between two moments was found in words of the cells from `low` up to `high`
abbrev pub Reaches : (ℕ → ℕ → Type 0) → (ℕ → ℕ → Type 0) → Sizes → ℕ → ℕ → Type 0
Reaches before after z low high = (i m : ℕ) → after i m → before i m ⊎ HasCells z low high i
