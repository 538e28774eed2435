-- The map from roots to flags that a region is to keep, and what an act does to it.
use Rattle.std.specs.Prelude.{◌≡◌, ◌==◌, ℕ, ◌<◌, ◌≤◌, List, [], ◌∷◌, length, true, false, not, Some}
use Rattle.std.specs.Prelude.{fold, if◌then◌else◌}
use Rattle.tree_shape.specs.Tree.{Has}
use Rattle.tdb_base.specs.History.{Vector, Act, Put, Set, Clear, Look, Entry, History, is_fresh, name_of}
use Rattle.tdb_base.specs.History.{flags_of}
use Rattle.tdb_base.specs.History.{has_bit, with_bit, without_bit}
use Rattle.pair_rule.specs.declared.sizes.About.{About}
use Rattle.pair_rule.specs.Numbers.{NoRepeats}
use Rattle.region_root.specs.Layout.{most, region_of, IsPacked}

-- The roots of a history's names, by identifiers: a name's identifier is its root, as one number.
abbrev pub rooted : List (ℕ × ℕ) → Entry → List (ℕ × ℕ)
rooted roots e = if is_fresh e.act then (e.id, e.id) ∷ roots else roots

unfoldable pub roots_of : History → List (ℕ × ℕ)
roots_of h = fold rooted [] h

-- the roots of the vectors that the history names, as far as they are split to the region, each with its
-- vector's flags
pub record IsMapOf (about : About) (g : ℕ) (log : History) (map : List (ℕ × ℕ)) : Type 0 where
  pub each : (v : Vector) (id : ℕ) → name_of log v ≡ Some id → region_of about id ≡ g
      → (flags : ℕ) × (flags_of log v ≡ Some flags) × Has (id, flags) map
  pub only : (id flags : ℕ) → Has (id, flags) map
      → (region_of about id ≡ g) × ((v : Vector) × (name_of log v ≡ Some id) × (flags_of log v ≡ Some flags))

-- the map with one root's flags set
abbrev pub with_flag_set : ℕ → ℕ → List (ℕ × ℕ) → List (ℕ × ℕ)
with_flag_set x flags [] = []
with_flag_set x flags (r ∷ map) = (r.0, if r.0 == x then flags else r.1) ∷ with_flag_set x flags map

-- An act on the root x is right where its region's map is this, and leaves that one: a fresh one needs a root
-- that is not there, and every other one tells the flags of a root that is there as they are.
abbrev pub Acts : ℕ → ℕ → Act → List (ℕ × ℕ) → List (ℕ × ℕ) → Type 0
Acts flag_count x (Put true) map next = ((flags : ℕ) → Has (x, flags) map → ⊥) × (next ≡ (x, 0) ∷ map)
Acts flag_count x (Put false) map next = ((flags : ℕ) × Has (x, flags) map) × (next ≡ map)
Acts flag_count x (Set bit first) map next = (bit < flag_count)
    × ((flags : ℕ) × Has (x, flags) map × (first ≡ not (has_bit flags bit))
    × (next ≡ with_flag_set x (with_bit flags bit) map))
Acts flag_count x (Clear bit first) map next = (bit < flag_count)
    × ((flags : ℕ) × Has (x, flags) map × (first ≡ has_bit flags bit)
    × (next ≡ with_flag_set x (without_bit flags bit) map))
Acts flag_count x (Look flags) map next = Has (x, flags) map × (next ≡ map)

-- each root of the map is split to the region
abbrev pub InRegion : About → ℕ → List (ℕ × ℕ) → Type 0
InRegion about g map = (x flags : ℕ) → Has (x, flags) map → (region_of about x ≡ g) × IsPacked about x

-- different roots that the identifiers of a map have, all split to one region
pub record AreRootsOf (about : About) (roots : List (ℕ × ℕ)) (g : ℕ) (xs : List ℕ) : Type 0 where
  pub once : NoRepeats xs
  pub each : (x : ℕ) → Has x xs → (region_of about x ≡ g) × ((id : ℕ) × Has (id, x) roots)

-- no region has more roots than cells
abbrev pub FewEach : About → List (ℕ × ℕ) → Type 0
FewEach about roots = (g : ℕ) (xs : List ℕ) → AreRootsOf about roots g xs → length xs ≤ most about

-- the region of the pair has as many roots as it has cells, and this one is not among them
pub record IsFull (about : About) (roots : List (ℕ × ℕ)) (pair : ℕ) : Type 0 where
  pub others : List ℕ
  pub are_roots : AreRootsOf about roots (region_of about pair) others
  pub all : length others ≡ most about
  pub absent : (id : ℕ) → Has (id, pair) roots → ⊥
