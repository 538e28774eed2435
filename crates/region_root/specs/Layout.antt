-- Where the words of a compact root table lie, and to which region and cell a root is split.
use Rattle.std.specs.Prelude.{◌≡◌, ◌⊎◌, ℕ, ◌+◌, ◌*◌, ◌-◌, ◌^◌, ◌<◌, ◌≤◌, List, [], ◌∷◌}
use Rattle.std.specs.Prelude.{take, drop, slice_index}
use Rattle.packed_word.specs.Word.{IsLayout}
use Rattle.mix_hash.specs.declared.Place.{Place}
use Rattle.mix_hash.specs.Hash.{mix_of}
use Rattle.mix_hash.specs.Places.{place_of}
use Rattle.cleary_core.specs.declared.cells.Sizes.{Sizes as CellSizes}
use Rattle.cleary_core.specs.Cells.{sizes_of, word_count}
use Rattle.cleary_core.specs.Map.{Key, KeepsMap}
use Rattle.pair_rule.specs.declared.sizes.Sizes.{Sizes}
use Rattle.pair_rule.specs.declared.sizes.About.{About}

-- the sizes for which there is such a table, where a part of a pair has so many bits and a vector so many
-- flags
pub record IsSized (width flags : ℕ) (sizes : Sizes) : Type 0 where
  pub layout : IsLayout width flags
  pub least_region : 6 ≤ sizes.region
  pub most_region : sizes.region ≤ 12
  pub inside : sizes.region ≤ sizes.roots
  pub most_roots : sizes.roots ≤ 24
  pub narrow : sizes.roots < 2 * width

-- its roots' size and its region's are in their ranges: a root has more bits than its cell's number
abbrev pub CellsFit : ℕ → Sizes → Type 0
CellsFit width sizes = (6 ≤ sizes.roots) × (sizes.roots ≤ 24) × (sizes.roots < 2 * width)

abbrev pub RegionFits : Sizes → Type 0
RegionFits sizes = (6 ≤ sizes.region) × (sizes.region ≤ 12) × (sizes.region ≤ sizes.roots)

-- this is the number of the first of them that is not
abbrev pub IsOut : ℕ → Sizes → ℕ → Type 0
IsOut width sizes n =
    ((n ≡ 2) × (CellsFit width sizes → ⊥)) ⊎ ((n ≡ 3) × CellsFit width sizes × (RegionFits sizes → ⊥))

-- the cells of one region
abbrev pub region_cells : ℕ → ℕ → Sizes → CellSizes
region_cells width flags sizes = sizes_of width flags sizes.roots sizes.region

-- how many regions there are, how many words each has, and how many words in all: a lock word for each region
-- comes first, and then the words of all regions
unfoldable pub region_count : Sizes → ℕ
region_count sizes = 2 ^ (sizes.roots - sizes.region)

unfoldable pub region_words : ℕ → ℕ → Sizes → ℕ
region_words width flags sizes = word_count (region_cells width flags sizes)

abbrev pub compact_word_count : ℕ → ℕ → Sizes → ℕ
compact_word_count width flags sizes =
    region_count sizes + region_count sizes * region_words width flags sizes

-- the same of a table
abbrev pub cells_of : About → CellSizes
cells_of about = region_cells about.width about.flags about.sizes

abbrev pub regions : About → ℕ
regions about = region_count about.sizes

abbrev pub words_each : About → ℕ
words_each about = region_words about.width about.flags about.sizes

-- the most keys that a region can have
unfoldable pub most : About → ℕ
most about = 2 ^ about.sizes.region

-- a region's lock word; where the region's words begin, and what they are
abbrev pub lock_of : List ℕ → ℕ → ℕ
lock_of ws g = slice_index ws g

abbrev pub start : About → ℕ → ℕ
start about g = regions about + g * words_each about

abbrev pub part : About → List ℕ → ℕ → List ℕ
part about ws g = take (words_each about) (drop (start about g) ws)

-- a root is a packed pair
abbrev pub IsPacked : About → ℕ → Type 0
IsPacked about x = x < 2 ^ (2 * about.width)

-- Where a root belongs by its hash: its region, its home there, and the quotient that its cell keeps.
unfoldable pub place : About → ℕ → Place
place about x = place_of about.sizes.roots about.sizes.region (mix_of about.width x)

abbrev pub region_of : About → ℕ → ℕ
region_of about x = (place about x).region

abbrev pub key_of : About → ℕ → ℕ → Key
key_of about x flags = record {
  home = (place about x).home;
  quotient = (place about x).quotient;
  flags =
      flags;
}

-- A map from roots to flags is a list of both, read by what it has. As a region's cells keep it:
abbrev pub keys_of : About → List (ℕ × ℕ) → List Key
keys_of about [] = []
keys_of about (r ∷ map) = key_of about r.0 r.1 ∷ keys_of about map

unfoldable pub KeepsRoots : About → List ℕ → List (ℕ × ℕ) → Type 0
KeepsRoots about words map = KeepsMap (cells_of about) words (keys_of about map)
