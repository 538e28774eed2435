-- What contracts see of a store, and what its root table gives them.
use Rattle.std.specs.Prelude.{◌≡◌, ℕ, suc, ◌+◌, List, Bool}
use Rattle.atomic_table.specs.Seated.{TableId}
use Rattle.tdb_base.specs.History.{History}
use Rattle.pair_rule.specs.declared.view.View.{View}
use Rattle.pair_rule.specs.declared.sizes.Sizes.{Sizes}
use Rattle.pair_rule.specs.declared.sizes.About.{About}
use Rattle.pair_rule.specs.Laws.{IsAbout}
use Rattle.pair_rule.specs.Paths.{node_buckets, size}

-- a store: its one table of words, and what that is about
pub record Store : Type 0 where
  pub table : TableId
  pub about : About

-- What a root table gives to contracts, where a pass knows T of it.
pub record Part (T : Type 0) : Type 1 where
  -- the sizes for which there is such a table, and how many words it has then
  pub sized : Sizes → Type 0
  pub count : Sizes → ℕ
  -- of sizes for which there is none: the number of the first that is out of its range
  pub is_out : Sizes → ℕ → Type 0
  -- the root pairs by their identifiers, as a pass knows them that has seen a history
  pub roots : About → History → T → List (ℕ × ℕ)
  -- how the root pairs of a whole store lie in the table
  pub house : About → List (ℕ × ℕ) → Type 0
  -- among these root pairs there is no place for one more pair
  pub is_full : About → List (ℕ × ℕ) → ℕ → Type 0
  -- how many bytes so many names take
  pub bytes : About → ℕ → ℕ
  -- what the rule says of one view by itself
  pub sound : About → View T → Type 0
  -- what a pass has that is split from one, and what two passes know as one
  pub split : T → T
  pub join : T → T → T
  -- what becomes of it by one look for a root pair, which found the pair's name or not, and by one call that
  -- put a pair or looked for an identifier
  pub after_look : About → ℕ → Bool → T → T → Type 0
  pub after_call : T → T → Type 0

-- the root pairs that a view knows
abbrev pub root_pairs : {T : Type 0} → Part T → View T → List (ℕ × ℕ)
root_pairs part v = part.roots v.about v.seen v.root

-- a store's words are word 0, those of the nodes, and those of the roots; it is of this width and number of
-- flags
pub record IsTable {T : Type 0} (width flags : ℕ) (part : Part T) (store : Store) : Type 0 where
  pub is_about : IsAbout part.sized part.count store.about
  pub width_is : store.about.width ≡ width
  pub flags_are : store.about.flags ≡ flags
  pub words_are : store.table.words ≡ suc (size (node_buckets store.about)) + store.about.root_words
