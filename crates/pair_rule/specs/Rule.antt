-- The rule: what holds of the words and of all views between any two steps.
use Rattle.std.specs.Prelude.{◌≡◌, ◌≢◌, ℕ, suc, ◌+◌, ◌<◌, ◌≤◌, ◌⊎◌, List, [], drop, map, length, slice_index}
use Rattle.std.specs.Prelude.{Bool, true, false, Some, if◌then◌else◌}
use mathlib.Core.Option.{some}
use lib.ListN.{get_elem?}
use Rattle.atomic_table.specs.Table.{State}
use Rattle.tree_shape.specs.Tree.{Has, RootStands}
use Rattle.tdb_base.specs.History.{Vector, History, name_of, calls}
use Rattle.tdb_base.specs.Legal.{IsLegal, Extends}
use Rattle.pair_rule.specs.declared.view.View.{View}
use Rattle.pair_rule.specs.declared.view.Old.{Old}
use Rattle.pair_rule.specs.declared.sizes.About.{About}
use Rattle.pair_rule.specs.Numbers.{child, Face, NoRepeats}
use Rattle.pair_rule.specs.View.{face, made_of, node_word}
use Rattle.pair_rule.specs.Paths.{Buckets, node_buckets, size, IsPair, OnPath}

-- A word has a pair in one of several forms: `Reads word pair` says so. Each bucket is empty or has a pair,
-- on that pair's path.
abbrev pub InWords : (ℕ → ℕ → Type 0) → (ℕ → ℕ) → ℕ → ℕ → Type 0
InWords Reads w i pair = Reads (w i) pair

pub record HasPair (b : Buckets) (Reads : ℕ → ℕ → Type 0) (w : ℕ → ℕ) (i pair : ℕ) : Type 0 where
  pub there : Reads (w i) pair
  pub is_pair : IsPair b pair
  pub on_path : OnPath b (InWords Reads w) i pair

abbrev pub Filled : Buckets → (ℕ → ℕ → Type 0) → (ℕ → ℕ) → Type 0
Filled b Reads w = (i : ℕ) → i < size b → (w i ≡ 0) ⊎ ((pair : ℕ) × HasPair b Reads w i pair)

-- a node's word has no flags
abbrev pub IsNode : ℕ → ℕ → Type 0
IsNode word pair = word ≡ node_word pair

-- the word of the node's bucket i, which stands behind word 0
abbrev pub at : List ℕ → ℕ → ℕ
at words i = slice_index words (suc i)

-- each bucket that is not empty was filled by one pass
pub record Made (count : ℕ) (w : ℕ → ℕ) (made : List (List ℕ)) : Type 0 where
  pub once : (i j k : ℕ) (is js : List ℕ) → get_elem? made j ≡ some is → get_elem? made k ≡ some js → Has i is
      → Has i js → j ≡ k
  pub all : (i : ℕ) → i < count → w i ≢ 0 → (j : ℕ) × (is : List ℕ) × (get_elem? made j ≡ some is) × Has i is

-- the identifiers of a history's names are those that a map has, each with a root pair that stands for the
-- name's vector in the nodes known
pub record Named (about : About) (known : List (ℕ × ℕ)) (seen : History) (roots : List (ℕ × ℕ)) : Type 0 where
  pub each : (v : Vector) (id : ℕ) → name_of seen v ≡ Some id → (pair : ℕ) × Has (id, pair) roots
  pub only : (id pair : ℕ) → Has (id, pair) roots
      → (v : Vector) × (name_of seen v ≡ Some id) × RootStands about.width about.slots known pair v
      × (length v ≡ about.slots)

-- so many probes are under way
abbrev pub open_probes : Bool → ℕ
open_probes probing = if probing then 1 else 0

-- what the table's history and the nodes' words say of one view; `roots` is the view's map from identifiers
-- to root pairs
pub record Fits {T : Type 0} (about : About) (roots : History → T → List (ℕ × ℕ)) (log : History) (w : ℕ → ℕ)
    (v : View T) : Type 0 where
  pub about_is : v.live ≡ true → v.about ≡ about
  pub known : (i pair : ℕ) → Has (i, pair) v.known → (i < size (node_buckets about)) × IsNode (w i) pair
  pub made : (i : ℕ) → Has i v.made → (pair : ℕ) × Has (i, pair) v.known
  pub made_once : NoRepeats v.made
  pub probed : length v.made + open_probes v.probing ≤ v.probes
  pub seen : Extends v.seen log
  pub own : (c : ℕ) → Has c v.numbers → calls v.seen c ≡ calls log c
  pub named : Named about v.known v.seen (roots v.seen v.root)
  pub olds : (o : Old) → Has o v.olds
      → Extends o.seen log × ((c : ℕ) → Has c o.numbers → Has c v.numbers × (calls o.seen c ≡ calls log c))
      × (length o.seen ≤ length v.seen)
  pub spent : v.live ≡ false → (v.made ≡ []) × (v.seen ≡ []) × (v.numbers ≡ []) × (v.born ≡ [])

-- each pass's number is its own, and so are those of the passes joined into it; each but 0 was split from a
-- pass that some view stands for; and no view has or bore a number that some pass has yet to give
pub record Numbers (faces : List Face) : Type 0 where
  pub mine : (j : ℕ) (f : Face) → get_elem? faces j ≡ some f → f.live ≡ true → Has f.number f.numbers
  pub sole : (c j k : ℕ) (f g : Face) → get_elem? faces j ≡ some f → get_elem? faces k ≡ some g
      → Has c f.numbers → Has c g.numbers → j ≡ k
  pub once : (j : ℕ) (f : Face) → get_elem? faces j ≡ some f → NoRepeats f.numbers
  pub unborn : (n j k : ℕ) (f g : Face) → get_elem? faces j ≡ some f → get_elem? faces k ≡ some g
      → f.live ≡ true → f.splits ≤ n → (Has (child f.number n) g.numbers ⊎ Has (child f.number n) g.born) → ⊥
  pub parents : (c j : ℕ) (f : Face) → get_elem? faces j ≡ some f → Has c f.numbers
      → (c ≡ 0) ⊎ ((k : ℕ) × (g : Face) × (p : ℕ) × (n : ℕ) × (get_elem? faces k ≡ some g) × (c ≡ child p n)
      × Has p g.numbers × Has c g.born)
  pub births : (c j : ℕ) (f : Face) → get_elem? faces j ≡ some f → Has c f.born
      → (p : ℕ) × (n : ℕ) × (c ≡ child p n) × Has p f.numbers

-- each caller of the history is some view's
abbrev pub Callers : History → List Face → Type 0
Callers log faces = (c : ℕ) → ((j : ℕ) (f : Face) → get_elem? faces j ≡ some f → Has c f.numbers → ⊥)
    → calls log c ≡ []

-- some view has seen the whole history
abbrev pub Holder : {T : Type 0} → History → List (View T) → Type 0
Holder {T} log views = (j : ℕ) × (v : View T) × (get_elem? views j ≡ some v) × (v.seen ≡ log)

-- the rule, for a root part of it that says `root` of the history, the words behind the nodes' and the views
pub record StoreRule {T : Type 0} (about : About) (roots : History → T → List (ℕ × ℕ))
    (root : History → List ℕ → List (View T) → Type 0) {S : Type 0} (s : State S (View T)) : Type 0 where
  pub log : History
  pub legal : IsLegal about.flags log
  pub holder : Holder log s.views
  pub least_nodes : 3 ≤ about.sizes.nodes
  pub wide : length s.words ≡ suc (size (node_buckets about)) + about.root_words
  pub nodes : Filled (node_buckets about) IsNode (at s.words)
  pub made : Made (size (node_buckets about)) (at s.words) (map made_of s.views)
  pub each : (j : ℕ) (v : View T) → get_elem? s.views j ≡ some v → Fits about roots log (at s.words) v
  pub numbers : Numbers (map face s.views)
  pub callers : Callers log (map face s.views)
  pub rooted : root log (drop (suc (size (node_buckets about))) s.words) s.views
