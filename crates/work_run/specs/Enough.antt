-- Sizes of a new store at which no line is answered full.
use Rattle.std.specs.Prelude.{◌≡◌, ◌-◌, ◌*◌, ◌<◌, ◌≤◌, ℕ, List, [], Some, slice_get, count_by}
use Rattle.tdb_base.specs.History.{is_fresh}
use Rattle.tdb_base.specs.declared.reply.Reply.{Reply}
use Rattle.tdb_base.specs.declared.reply.Reply.TheVariants as r
use Rattle.pair_rule.specs.declared.view.View.{View}
use Rattle.pair_rule.specs.declared.sizes.About.{About}
use Rattle.pair_rule.specs.declared.pass.PassOf.{PassOf}
use Rattle.pair_rule.specs.Paths.{Buckets, node_buckets, root_buckets, size, reach}
use Rattle.pair_rule.specs.Part.{Store, Part, root_pairs}
use Rattle.pair_rule.specs.Rest.{AtRest, Whole, view}
use Rattle.region_root.specs.Compact.{compact}
use Rattle.region_root.specs.Layout.{most}
use Rattle.root_plain.specs.Plain.{plain}

-- the view is that of all passes of a store in which nothing has a name or stands yet
pub record IsOfNewStore {T : Type 0} (v : View T) : Type 0 where
  pub whole : Whole v
  pub no_calls : v.seen ≡ []
  pub no_nodes : v.known ≡ []

-- there are so many buckets, and all of them are walked for a pair
pub record HasBucketsFor (n : ℕ) (b : Buckets) : Type 0 where
  pub all_walked : reach b ≡ size b
  pub enough : n ≤ size b

-- a tree has `slots - 2` inner positions, and there is a bucket for each of so many trees
abbrev pub HasNodesFor : About → ℕ → Type 0
HasNodesFor about lines = HasBucketsFor ((about.slots - 2) * lines) (node_buckets about)

-- as long as a pass has seen fewer than so many names, each root pair has a place
abbrev pub HasRootsFor : {T : Type 0} → Part T → Store → ℕ → Type 0
HasRootsFor part store lines =
    (p : PassOf _) (pair : ℕ) → AtRest part store p
    → count_by (λ e. is_fresh e.act) (view p).seen < lines
    → part.is_full store.about (root_pairs part (view p)) pair → ⊥

-- no line is answered so
abbrev pub NeverAnswered : List Reply → Reply → Type 0
NeverAnswered replies reply = (i : ℕ) → slice_get replies i ≡ Some reply → ⊥

-- in a new store with this room no line is full at its root
abbrev pub NoRootIsFull : {T : Type 0} → View T → Type 0 → List Reply → Type 0
NoRootIsFull old Room replies = IsOfNewStore old → Room → NeverAnswered replies r.FullRoots

-- a plain store whose root table has a bucket for each line, and a compact one of which each region has a
-- cell for each line, have a place for each root
abbrev pub PlainRootsSuffice : Type 0
PlainRootsSuffice = (store : Store) (lines : ℕ) → HasBucketsFor lines (root_buckets store.about)
    → HasRootsFor plain store lines

abbrev pub CompactRootsSuffice : ℕ → ℕ → Type 0
CompactRootsSuffice width flags = (store : Store) (lines : ℕ) → lines ≤ most store.about
    → HasRootsFor (compact width flags) store lines
