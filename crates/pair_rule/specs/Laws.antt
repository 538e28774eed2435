-- What a table is about.
use Rattle.std.specs.Prelude.{◌≡◌, ℕ, ◌<◌, ◌≤◌, ◌^◌}
use Rattle.packed_word.specs.Word.{IsLayout}
use Rattle.pair_rule.specs.declared.sizes.Sizes.{Sizes}
use Rattle.pair_rule.specs.declared.sizes.About.{About}

-- the sizes of a store of vectors of so many slots are in their ranges
pub record InRange (width flags : ℕ) (sized : Sizes → Type 0) (sizes : Sizes) (slots : ℕ) : Type 0 where
  pub layout : IsLayout width flags
  pub least_nodes : 3 ≤ sizes.nodes
  pub most_nodes : sizes.nodes ≤ 25
  pub indexes_fit : sizes.nodes ≤ width
  pub roots : sized sizes
  pub least_probe : 1 ≤ sizes.probe
  pub most_probe : sizes.probe ≤ 4194304
  pub least_slots : 2 ≤ slots
  pub most_slots : slots ≤ 1024

-- what the table of such a store is about
pub record IsAbout (sized : Sizes → Type 0) (count : Sizes → ℕ) (about : About) : Type 0 where
  pub range : InRange about.width about.flags sized about.sizes about.slots
  pub root_words_are : about.root_words ≡ count about.sizes
  pub root_words_small : about.root_words < 2 ^ 32
