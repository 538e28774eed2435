-- What a region keeps: a map from (home, quotient) to flags.
use Rattle.std.specs.Prelude.{◌≡◌, ◌≢◌, ◌⊎◌, ℕ, zero, suc, ◌+◌, ◌<◌, ◌≤◌, true, false, List, [], ◌∷◌, length}
use Rattle.std.specs.Prelude.{Option, Some, None, ⊤}
use Rattle.cleary_core.specs.declared.cells.Cell.{Cell}
use Rattle.cleary_core.specs.declared.cells.Sizes.{Sizes}
use Rattle.cleary_core.specs.Cells.{mark_of, cell_at}

-- an entry of the map: its flags stand under a home and a quotient
pub record Key : Type 0 where
  pub home : ℕ
  pub quotient : ℕ
  pub flags : ℕ

abbrev pub Has : Key → List Key → Type 0
Has k [] = ⊥
Has k (x ∷ xs) = (k ≡ x) ⊎ Has k xs

-- a list of entries is a map: none has the home and the quotient of another
abbrev pub IsMap : List Key → Type 0
IsMap [] = ⊤
IsMap (k ∷ keys) = ((l : Key) → Has l keys → l.home ≡ k.home → l.quotient ≢ k.quotient) × IsMap keys

-- which key stands in which cell
abbrev pub Slots : Type 0
Slots = ℕ → Option Key

abbrev pub Taken : Slots → ℕ → Type 0
Taken slots i = (k : Key) × (slots i ≡ Some k)

-- no later cell has a key of this home
abbrev pub Last : Slots → ℕ → ℕ → Type 0
Last slots i home = (j : ℕ) (k : Key) → i < j → slots j ≡ Some k → k.home ≢ home

-- where keys may stand
pub record Laid (n : ℕ) (slots : Slots) : Type 0 where
  pub past : (i : ℕ) (k : Key) → slots i ≡ Some k → i < n
  -- each key once
  pub once : (i j : ℕ) (k l : Key) → slots i ≡ Some k → slots j ≡ Some l → k.home ≡ l.home
      → k.quotient ≡ l.quotient → i ≡ j
  -- groups stand in rising order of their homes
  pub rising : (i j : ℕ) (k l : Key) → i < j → slots i ≡ Some k → slots j ≡ Some l → k.home ≤ l.home
  -- a key's home lies in the key's run: each cell from one to the other is occupied
  pub run_up : (i j : ℕ) (k : Key) → slots i ≡ Some k → k.home ≤ j → j ≤ i → Taken slots j
  pub run_down : (i j : ℕ) (k : Key) → slots i ≡ Some k → i ≤ j → j ≤ k.home → Taken slots j

abbrev pub empty_cell : Cell
empty_cell = record { occupied = false; virgin = false; change = false; flags = 0; quotient = 0 }

-- what a cell's bits say of the keys
pub record Drawn (n : ℕ) (cells : ℕ → Cell) (slots : Slots) : Type 0 where
  pub empty : (i : ℕ) → i < n → slots i ≡ None → cells i ≡ empty_cell
  pub occupied : (i : ℕ) (k : Key) → slots i ≡ Some k → (cells i).occupied ≡ true
  pub quotient : (i : ℕ) (k : Key) → slots i ≡ Some k → (cells i).quotient ≡ k.quotient
  pub flags : (i : ℕ) (k : Key) → slots i ≡ Some k → (cells i).flags ≡ k.flags
  -- virgin is set exactly on the homes
  pub virgin : (i : ℕ) → i < n → (cells i).virgin ≡ true
      → (j : ℕ) × (k : Key) × (slots j ≡ Some k) × (k.home ≡ i)
  pub home : (j : ℕ) (k : Key) → slots j ≡ Some k → (cells k.home).virgin ≡ true
  -- change is set exactly on the last cell of each group
  pub change : (i : ℕ) (k : Key) → slots i ≡ Some k → (cells i).change ≡ true → Last slots i k.home
  pub last : (i : ℕ) (k : Key) → slots i ≡ Some k → Last slots i k.home → (cells i).change ≡ true

abbrev pub occupied_count : (ℕ → Cell) → ℕ → ℕ
occupied_count cells zero = 0
occupied_count cells (suc n) = occupied_count cells n + mark_of (cells n).occupied

-- the keys that stand in the cells are those of the map
pub record Holds (n : ℕ) (cells : ℕ → Cell) (slots : Slots) (keys : List Key) : Type 0 where
  pub map : IsMap keys
  pub number : occupied_count cells n ≡ length keys
  pub all : (k : Key) → Has k keys → (i : ℕ) × (slots i ≡ Some k)
  pub only : (i : ℕ) (k : Key) → slots i ≡ Some k → Has k keys

-- `n` cells keep a map: the working form, which names the key of each cell. `specs/Sentences` has the form to
-- be believed
pub record Keeps (n : ℕ) (cells : ℕ → Cell) (keys : List Key) : Type 0 where
  pub slots : Slots
  pub laid : Laid n slots
  pub drawn : Drawn n cells slots
  pub holds : Holds n cells slots keys

-- the words of a region keep a map
abbrev pub KeepsMap : Sizes → List ℕ → List Key → Type 0
KeepsMap z words keys = Keeps z.cells (cell_at z words) keys
