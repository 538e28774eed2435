-- What it means that cells keep a map, in sentences on groups and runs, with no word on which key stands in
-- which cell.
use Rattle.std.specs.Prelude.{◌≡◌, ◌⊎◌, ℕ, ◌<◌, ◌≤◌, suc, true, false, List, length, ◌↔◌}
use Rattle.cleary_core.specs.declared.cells.Cell.{Cell}
use Rattle.cleary_core.specs.Map.{Key, Has, IsMap, empty_cell, occupied_count}

pub record Sentences (n : ℕ) (cells : ℕ → Cell) (keys : List Key) : Type 0 where
  -- the list is a map, from homes of the region
  pub map : IsMap keys
  pub inside : (k : Key) → Has k keys → k.home < n
  -- the group of a home stands from `first` up to `stop`
  pub first : ℕ → ℕ
  pub stop : ℕ → ℕ
  -- the number of occupied cells is the number of keys
  pub number : occupied_count cells n ≡ length keys
  -- the keys of one group stand in cells that follow each other, each once, in any order, with their flags
  pub stands : (k : Key) → Has k keys
      → (i : ℕ) × (first k.home ≤ i) × (i < stop k.home) × ((cells i).quotient ≡ k.quotient)
      × ((cells i).flags ≡ k.flags)
  pub group : (k : Key) (i : ℕ) → Has k keys → first k.home ≤ i → i < stop k.home
      → (i < n) × ((cells i).occupied ≡ true)
      × ((l : Key) × Has l keys × (l.home ≡ k.home) × ((cells i).quotient ≡ l.quotient)
      × ((cells i).flags ≡ l.flags))
  pub once : (k : Key) (i j : ℕ) → Has k keys → first k.home ≤ i → i < stop k.home → first k.home ≤ j
      → j < stop k.home → (cells i).quotient ≡ (cells j).quotient → i ≡ j
  -- groups stand in rising order of their homes
  pub rising : (k l : Key) → Has k keys → Has l keys → k.home < l.home → stop k.home ≤ first l.home
  -- virgin is set on a cell exactly where a key has it as its home
  pub virgin : (i : ℕ) → i < n → ((cells i).virgin ≡ true) ↔ ((k : Key) × Has k keys × (k.home ≡ i))
  -- change is set on a cell exactly where it is the last of a group
  pub change : (i : ℕ) → i < n → ((cells i).change ≡ true) ↔ ((k : Key) × Has k keys × (suc i ≡ stop k.home))
  -- the home of a group lies in the run of its cells: each cell between is occupied
  pub run : (k : Key) (i m : ℕ) → Has k keys → first k.home ≤ i → i < stop k.home
      → ((k.home ≤ m) × (m ≤ i)) ⊎ ((i ≤ m) × (m ≤ k.home)) → (cells m).occupied ≡ true
  -- a cell that isn't occupied has all bits 0
  pub clear : (i : ℕ) → i < n → (cells i).occupied ≡ false → cells i ≡ empty_cell
