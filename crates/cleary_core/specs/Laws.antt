-- The laws of the maps that words keep.
use Rattle.std.specs.Prelude.{◌≡◌, ℕ, ◌<◌, ◌≤◌, ◌^◌, ◌↔◌, List, [], length, slice_index}
use Rattle.cleary_core.specs.declared.cells.Sizes.{Sizes}
use Rattle.cleary_core.specs.Cells.{cell_at}
use Rattle.cleary_core.specs.Map.{Key, Has, IsMap, KeepsMap}
use Rattle.cleary_core.specs.Sentences.{Sentences}

-- words keep a map exactly where its sentences hold of their cells
abbrev pub KeepsBySentences : Type 0
KeepsBySentences = (z : Sizes) (words : List ℕ) (keys : List Key)
    → KeepsMap z words keys ↔ Sentences z.cells (cell_at z words) keys

-- a region has no more keys than cells
abbrev pub HasFewKeys : Type 0
HasFewKeys = (z : Sizes) (words : List ℕ) (keys : List Key) → KeepsMap z words keys → length keys ≤ z.cells

-- what a region keeps is a map, of homes, quotients and flags of its widths
abbrev pub HasOneEntry : Type 0
HasOneEntry = (z : Sizes) (words : List ℕ) (keys : List Key) → KeepsMap z words keys → IsMap keys

abbrev pub HasKeysInRange : Type 0
HasKeysInRange = (z : Sizes) (words : List ℕ) (keys : List Key) → KeepsMap z words keys → (k : Key)
    → Has k keys → (k.home < z.cells) × (k.quotient < 2 ^ z.quotient) × (k.flags < 2 ^ z.flags)

-- words that are all 0 keep the empty map
abbrev pub ZerosKeepNothing : Type 0
ZerosKeepNothing = (z : Sizes) (words : List ℕ) → ((i : ℕ) → slice_index words i ≡ 0) → KeepsMap z words []
