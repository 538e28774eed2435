-- The rule of a plain root table: each bucket is empty or has a root pair with flags, and those that are not
-- empty are the identifiers of the history's names.
use Rattle.std.specs.Prelude.{◌≡◌, ◌≢◌, ℕ, ◌*◌, ◌^◌, ◌<◌, ◌≤◌, List, [], ◌++◌, Some, slice_index, false}
use mathlib.Core.Option.{some}
use lib.ListN.{get_elem?}
use Rattle.packed_word.specs.Word.{word_of}
use Rattle.tree_shape.specs.Tree.{Has, IsPart}
use Rattle.tdb_base.specs.History.{Vector, History, name_of, flags_of}
use Rattle.pair_rule.specs.declared.view.View.{View}
use Rattle.pair_rule.specs.declared.sizes.Sizes.{Sizes}
use Rattle.pair_rule.specs.declared.sizes.About.{About}
use Rattle.pair_rule.specs.Laws.{IsAbout}
use Rattle.pair_rule.specs.Part.{Part}
use Rattle.pair_rule.specs.Paths.{Buckets, root_buckets, size, bucket, reach, IsPair, Blocked}
use Rattle.pair_rule.specs.Rest.{FillsPaths}
use Rattle.pair_rule.specs.Rule.{Filled}
use Rattle.root_plain.specs.declared.root.Roots.{Roots}

abbrev pub nothing_known : Roots
nothing_known = record { roots = [] }

abbrev pub both_roots : Roots → Roots → Roots
both_roots t u = record { roots = t.roots ++ u.roots }

-- the sizes for which there is such a table, and how many words it has then
abbrev pub RootsFit : Sizes → Type 0
RootsFit sizes = (3 ≤ sizes.roots) × (sizes.roots ≤ 24)

abbrev pub plain_word_count : Sizes → ℕ
plain_word_count sizes = 2 ^ sizes.roots

-- what a plain store's table is about
abbrev pub IsPlain : About → Type 0
IsPlain about = IsAbout RootsFit plain_word_count about

-- the word has this pair, with these flags
pub record HoldsRoot (about : About) (word pair flags : ℕ) : Type 0 where
  pub is_pair : IsPair (root_buckets about) pair
  pub few : flags < 2 ^ about.flags
  pub word_is : word ≡ word_of about.width flags pair

-- the word has this pair, whatever its flags are
abbrev pub IsRoot : About → ℕ → ℕ → Type 0
IsRoot about word pair = (flags : ℕ) × HoldsRoot about word pair flags

abbrev pub root_at : List ℕ → ℕ → ℕ
root_at ws id = slice_index ws id

-- the word of a named vector has a pair, and the flags that the history gives the vector
pub record HasFlags (about : About) (log : History) (v : Vector) (word : ℕ) : Type 0 where
  pub pair : ℕ
  pub flags : ℕ
  pub flags_are : flags_of log v ≡ Some flags
  pub holds : HoldsRoot about word pair flags

-- The rule on the root words, the history and what each view knows of the words: the used buckets are exactly
-- the identifiers of the history's names, each with its vector's flags, and each root pair that a view knows
-- is that of its word. No entry is ruled out here.
pub record Plain (about : About) (log : History) (ws : List ℕ) (views : List (View Roots)) : Type 0 where
  pub is_about : IsPlain about
  pub filled : Filled (root_buckets about) (IsRoot about) (root_at ws)
  pub used : (id : ℕ) → id < size (root_buckets about) → root_at ws id ≢ 0
      → (v : Vector) × (name_of log v ≡ Some id)
  pub names : (v : Vector) (id : ℕ) → name_of log v ≡ Some id
      → (id < size (root_buckets about)) × HasFlags about log v (root_at ws id)
  pub roots : (j : ℕ) (v : View Roots) → get_elem? views j ≡ some v → (id pair : ℕ)
      → Has (id, pair) v.root.roots → (id < size (root_buckets about)) × IsRoot about (root_at ws id) pair

-- the identifier is a bucket of the pair's path
pub record Lies (b : Buckets) (id pair : ℕ) : Type 0 where
  pub inside : id < size b
  pub is_pair : IsPair b pair
  pub step : ℕ
  pub within : step < reach b
  pub here : bucket b pair step ≡ id

-- what the rule says of one view by itself: each root pair that it knows lies on its path
pub record LiesOnPaths (about : About) (v : View Roots) : Type 0 where
  pub is_about : IsPlain about
  pub lies : (id pair : ℕ) → Has (id, pair) v.root.roots → Lies (root_buckets about) id pair

-- what a plain root table gives to contracts
abbrev pub plain : Part Roots
plain = record {
  sized = RootsFit;
  count = plain_word_count;
  is_out = λ sizes n. (n ≡ 2) × (RootsFit sizes → ⊥);
  roots = λ about h t. t.roots;
  house = λ about map. FillsPaths (root_buckets about) map;
  is_full = λ about map pair. Blocked (root_buckets about) map pair;
  bytes = λ about n. 8 * n;
  sound = LiesOnPaths;
  split = λ t. t;
  join = both_roots;
  after_look = λ about pair found t u. (found ≡ false) × (u ≡ t);
  after_call = λ t u. IsPart t.roots u.roots;
}
