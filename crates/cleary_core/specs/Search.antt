-- What the parts of a search find.
use Rattle.std.specs.Prelude.{◌≡◌, ◌≢◌, ◌⊎◌, ℕ, zero, suc, ◌+◌, ◌-◌, ◌<◌, ◌≤◌, List, Option, Some}
use Rattle.std.specs.Prelude.{MatchOption, Bool, true, false}
use Rattle.cleary_core.specs.declared.cells.Cell.{Cell}
use Rattle.cleary_core.specs.declared.cells.Sizes.{Sizes}
use Rattle.cleary_core.specs.Access.{HasReached, Reaches}
use Rattle.cleary_core.specs.Cells.{mark_of, cell_at}
use Rattle.cleary_core.specs.Map.{Key, Slots, Taken, Laid, Drawn}
use Rattle.cleary_core.specs.Answers.{Present}

-- every key before place i has a lower home, every other one has not
pub record Splits (slots : Slots) (i home : ℕ) : Type 0 where
  pub before : (j : ℕ) (k : Key) → j < i → slots j ≡ Some k → k.home < home
  pub after : (j : ℕ) (k : Key) → i ≤ j → slots j ≡ Some k → home ≤ k.home

-- each cell of some is occupied
abbrev pub Row : (ℕ → Cell) → ℕ → ℕ → Type 0
Row cells low high = (i : ℕ) → low ≤ i → i < high → (cells i).occupied ≡ true

-- how many of the `count` cells from `low` on are virgin
abbrev pub virgins : (ℕ → Cell) → ℕ → ℕ → ℕ
virgins cells low zero = 0
virgins cells low (suc count) = mark_of (cells low).virgin + virgins cells (suc low) count

-- how many of them have change
abbrev pub changes : (ℕ → Cell) → ℕ → ℕ → ℕ
changes cells low zero = 0
changes cells low (suc count) = mark_of (cells low).change + changes cells (suc low) count

-- the run of an occupied home begins at `start`, and from `from` on, where a group ends or the run begins, so
-- many groups stand before the home's
pub record Front (cells : ℕ → Cell) (start from groups home : ℕ) : Type 0 where
  pub row : Row cells start home
  pub edge : 0 < start → (cells (start - 1)).occupied ≡ false
  pub inside : (start ≤ from) × (from ≤ home)
  pub ends : (from ≡ start) ⊎ ((cells (from - 1)).change ≡ true)
  pub count : groups + changes cells start (from - start) ≡ virgins cells start (home - start)

-- a home in the run that begins at `start`, in cells that keep a map
pub record InRun (n : ℕ) (cells : ℕ → Cell) (slots : Slots) (start home : ℕ) : Type 0 where
  pub laid : Laid n slots
  pub drawn : Drawn n cells slots
  pub inside : (start ≤ home) × (home < n)
  pub row : Row cells start (suc home)
  pub edge : 0 < start → (cells (start - 1)).occupied ≡ false

-- the place of a group in its run: what stands before it is of lower homes and full from the run's start on
pub record Placed (n : ℕ) (slots : Slots) (start at home : ℕ) : Type 0 where
  pub splits : Splits slots at home
  pub from : start ≤ at
  pub row : (i : ℕ) → start ≤ i → i < at → Taken slots i

-- a home in the run that begins at `start`, whose group stands from `at` on, or would; and whether it has one
pub record IsGroupPlace (n : ℕ) (cells : ℕ → Cell) (slots : Slots) (start at home : ℕ) (virgin : Bool)
    : Type 0 where
  pub run : InRun n cells slots start home
  pub placed : Placed n slots start at home
  pub mark : (cells home).virgin ≡ virgin

-- the homes up to some have their groups before `at`, and so many more before `home` have one
pub record OnTheWay (n : ℕ) (cells : ℕ → Cell) (slots : Slots) (start at home left : ℕ) : Type 0 where
  pub passed : ℕ
  pub inside : passed ≤ home
  pub placed : Placed n slots start at passed
  pub rest : left ≡ virgins cells passed (home - passed)

-- no cell of some has change
abbrev pub Unbroken : (ℕ → Cell) → ℕ → ℕ → Type 0
Unbroken cells low high = (i : ℕ) → low ≤ i → i < high → (cells i).change ≡ false

abbrev pub HasChange : ℕ → (ℕ → Cell) → ℕ → Type 0
HasChange n cells at = (i : ℕ) × (at ≤ i) × (i < n) × ((cells i).change ≡ true)

-- the first cell with change from `from` on is the one before `stop`
pub record EndsGroup (cells : ℕ → Cell) (from stop : ℕ) : Type 0 where
  pub some : from < stop
  pub row : Unbroken cells from (stop - 1)
  pub mark : (cells (stop - 1)).change ≡ true

-- the first cell from `from` on that isn't occupied is `stop`, if one is
pub record RunEnd (n : ℕ) (cells : ℕ → Cell) (from stop : ℕ) : Type 0 where
  pub row : Row cells from stop
  pub edge : stop < n → (cells stop).occupied ≡ false

abbrev pub Searched : Option ℕ → ℕ → (ℕ → Cell) → ℕ → ℕ → Type 0
Searched found n cells at quotient = MatchOption found
    ((i : ℕ) × (at ≤ i) × (i < n) × Unbroken cells at i × ((cells i).change ≡ true)
    × ((j : ℕ) → at ≤ j → j ≤ i → (cells j).quotient ≢ quotient))
    (λ i. (at ≤ i) × (i < n) × Unbroken cells at i × ((cells i).quotient ≡ quotient))

-- the cell that has the key, if any has
abbrev pub Located : Option ℕ → (slots : Slots) → List Key → ℕ → ℕ → Type 0
Located found slots keys home quotient = MatchOption found (Present keys home quotient → ⊥)
    (λ i. (k : Key) × (slots i ≡ Some k) × (k.home ≡ home) × (k.quotient ≡ quotient))

-- what a search for a key of `home` found stands in words of the home's run, and of the cell on either side
-- of it
pub record ReachesRun (before after : ℕ → ℕ → Type 0) (z : Sizes) (cells : ℕ → Cell) (home : ℕ) : Type 0 where
  pub low : ℕ
  pub high : ℕ
  pub span : (low ≤ home) × (home ≤ high) × (high ≤ z.cells)
  pub row : Row cells low high
  pub reach : Reaches before after z (low - 1) (suc high)

-- what a search for a quotient from `from` on found stands in words of the cells from there up to some,
-- before the last of which none has change
pub record ReachesGroup (before after : ℕ → ℕ → Type 0) (z : Sizes) (from : ℕ) : Type 0 where
  pub high : ℕ
  pub span : (from ≤ high) × (high ≤ z.cells)
  pub row : (words : List ℕ) → HasReached after words → Unbroken (cell_at z words) from (high - 1)
  pub reach : Reaches before after z from high

-- what was found stands in words of the cells from `from` up to some, which are occupied
pub record ReachesRow (before after : ℕ → ℕ → Type 0) (z : Sizes) (cells : ℕ → Cell) (from : ℕ) : Type 0 where
  pub high : ℕ
  pub span : (from ≤ high) × (high ≤ z.cells)
  pub row : Row cells from high
  pub reach : Reaches before after z from high

-- what was found or put stands in words of the run that begins at `start`, from its home on up to some
-- occupied cells, and of the cell on either side
pub record ReachesEnd (before after : ℕ → ℕ → Type 0) (z : Sizes) (cells : ℕ → Cell)
    (start home : ℕ) : Type 0 where
  pub high : ℕ
  pub span : (home ≤ high) × (high ≤ z.cells)
  pub row : Row cells home high
  pub reach : Reaches before after z (start - 1) (suc high)
