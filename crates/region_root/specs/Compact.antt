-- The rule of a compact root table: a free region's words keep the map of its names; a held one's are the
-- holder's copy; and a reader may believe what it loaded, where the lock word is still what it was.
use Rattle.cleary_core.specs.Cells.{width as cell_bits}
use Rattle.std.specs.Prelude.{◌≡◌, ◌≢◌, ℕ, suc, ◌+◌, ◌*◌, ◌/◌, ◌<◌, ◌≤◌, ◌⊎◌, List, [], ◌∷◌, map, length}
use Rattle.std.specs.Prelude.{Bool, false, slice_index, Some, MatchBool}
use mathlib.Core.Option.{some}
use lib.ListN.{get_elem?}
use Rattle.tree_shape.specs.Tree.{Has}
use Rattle.tdb_base.specs.History.{Vector, History, name_of}
use Rattle.pair_rule.specs.declared.view.View.{View}
use Rattle.pair_rule.specs.declared.sizes.About.{About}
use Rattle.pair_rule.specs.Laws.{IsAbout}
use Rattle.pair_rule.specs.Part.{Part}
use Rattle.region_root.specs.declared.root.Regions.{Regions}
use Rattle.region_root.specs.declared.root.Holding.{Holding}
use Rattle.region_root.specs.declared.root.Reading.{Reading}
use Rattle.region_root.specs.Layout.{IsSized, IsOut, cells_of, compact_word_count, regions, words_each}
use Rattle.region_root.specs.Layout.{most, lock_of, part, region_of, IsPacked, KeepsRoots}
use Rattle.region_root.specs.Maps.{roots_of, IsMapOf, InRegion, FewEach, IsFull}

-- A lock word is even where its region is free, and odd where it is held.
abbrev pub IsEven : ℕ → Type 0
IsEven n = (half : ℕ) × (n ≡ 2 * half)

abbrev pub IsOdd : ℕ → Type 0
IsOdd n = (half : ℕ) × (n ≡ suc (2 * half))

-- the last even value of a lock word, which may come again, so that no reader believes it
abbrev pub last : ℕ
last = 18446744073709551614

-- what a pass knows of regions at first
abbrev pub nothing : Regions
nothing = record { held = []; reader = []; peeks = 0; locks = 0 }

-- what a compact store's table is about
abbrev pub IsCompact : About → Type 0
IsCompact about = IsAbout (IsSized about.width about.flags) (compact_word_count about.width about.flags) about

-- A holder: the lock word is the odd value that it wrote, its copy is what the region's words are now, and
-- its base is the map of the region's names.
pub record HoldsRegion (about : About) (log : History) (ws : List ℕ) (h : Holding) : Type 0 where
  pub inside : h.region < regions about
  pub lock_is : lock_of ws h.region ≡ h.lock
  pub odd : IsOdd h.lock
  pub copy_is : h.copy ≡ part about ws h.region
  pub base_is : IsMapOf about h.region log h.base
  pub few : length h.base ≤ most about

-- A reader: where its first value is even and not the last one, the lock word has not fallen below it, and
-- while it is still that value, what was loaded stands in the region's words.
pub record ReadsRegion (about : About) (ws : List ℕ) (q : Reading) : Type 0 where
  pub inside : q.region < regions about
  pub above : IsEven q.first → q.first < last → q.first ≤ lock_of ws q.region
  pub same : IsEven q.first → q.first < last → lock_of ws q.region ≡ q.first
      → (i n : ℕ) → Has (i, n) q.loads → slice_index (part about ws q.region) i ≡ n

abbrev pub held_of : View Regions → List Holding
held_of v = v.root.held

-- what the rule says of one view, which holds at most one region
pub record Viewed (about : About) (log : History) (ws : List ℕ) (v : View Regions) : Type 0 where
  pub idle : v.busy ≡ false → v.root.held ≡ []
  pub one : length v.root.held ≤ 1
  pub holds : (h : Holding) → Has h v.root.held → HoldsRegion about log ws h
  pub reads : (q : Reading) → Has q v.root.reader → ReadsRegion about ws q

-- a region is held by one view, where its lock word is odd
pub record Locks (about : About) (ws : List ℕ) (helds : List (List Holding)) : Type 0 where
  pub sole : (j k : ℕ) (hs is : List Holding) (h i : Holding) → get_elem? helds j ≡ some hs
      → get_elem? helds k ≡ some is → Has h hs → Has i is → h.region ≡ i.region → j ≡ k
  pub taken : (g : ℕ) → g < regions about → IsOdd (lock_of ws g)
      → (j : ℕ) × (hs : List Holding) × (h : Holding) × (get_elem? helds j ≡ some hs) × Has h hs
      × (h.region ≡ g)

-- a free region's words keep the map of its names
pub record Free (about : About) (log : History) (ws : List ℕ) (g : ℕ) : Type 0 where
  pub map : List (ℕ × ℕ)
  pub keeps : KeepsRoots about (part about ws g) map
  pub is_map : IsMapOf about g log map

-- The rule on the root words, the history and what each view knows. No act is ruled out here.
pub record Compact (about : About) (log : History) (ws : List ℕ) (views : List (View Regions)) : Type 0 where
  pub is_about : IsCompact about
  pub long : length ws ≡ about.root_words
  pub packed : (v : Vector) (id : ℕ) → name_of log v ≡ Some id → IsPacked about id
  pub free : (g : ℕ) → g < regions about → IsEven (lock_of ws g) → Free about log ws g
  pub locks : Locks about ws (map held_of views)
  pub each : (j : ℕ) (v : View Regions) → get_elem? views j ≡ some v → Viewed about log ws v

-- what the rule says of one view by itself
pub record KnowsRegions (about : About) (v : View Regions) : Type 0 where
  pub is_about : IsCompact about
  pub packed : (id pair : ℕ) → Has (id, pair) (roots_of v.seen) → IsPacked about id
  pub few : FewEach about (roots_of v.seen)
  pub idle : v.busy ≡ false → v.root.held ≡ []

-- how the roots of a whole store lie: an identifier is its root, and no region has more roots than cells
pub record HousedInRegions (about : About) (roots : List (ℕ × ℕ)) : Type 0 where
  pub itself : (id pair : ℕ) → Has (id, pair) roots → (pair ≡ id) × IsPacked about id
  pub few : FewEach about roots

-- The lock word was the same at both looks of a reader: even, and not its last even value. So no other call
-- held the region between them.
pub record Unchanged (n : ℕ) (q : Reading) : Type 0 where
  pub same : n ≡ q.first
  pub even : IsEven n
  pub low : n < last

-- There was a second look, and so it was.
abbrev pub StaysFree : Reading → Type 0
StaysFree q = (n : ℕ) × (q.second ≡ Some n) × Unchanged n q

-- It was odd or its last even value at the first look; or there was a second look, which found another one.
abbrev pub LockChanged : Reading → Type 0
LockChanged q = (IsOdd q.first ⊎ (q.first ≡ last)) ⊎ ((n : ℕ) × (q.second ≡ Some n) × (n ≢ q.first))

-- What was loaded decides of the root x: whatever words of its region have it at its places and keep some
-- map, the answer says whether that map has the root.
abbrev pub LoadsTell : About → ℕ → List (ℕ × ℕ) → Bool → Type 0
LoadsTell about x loads answer = (words : List ℕ) (map : List (ℕ × ℕ)) → length words ≡ words_each about
    → ((i n : ℕ) → Has (i, n) loads → slice_index words i ≡ n) → KeepsRoots about words map
    → InRegion about (region_of about x) map
    → MatchBool answer ((flags : ℕ) × Has (x, flags) map) ((flags : ℕ) → Has (x, flags) map → ⊥)

-- One region was read once without its lock, where the root x was wanted. It was found, or found to be
-- absent, by what was loaded while no other call held the region; or it was not found, since the lock word
-- changed.
pub record Looked (about : About) (x : ℕ) (found : Bool) (t u : Regions) : Type 0 where
  pub reader : Reading
  pub knows : u ≡ record t { reader = reader ∷ []; peeks = suc t.peeks }
  pub pair_is : reader.pair ≡ x
  pub region_is : reader.region ≡ region_of about x
  pub answer : (StaysFree reader × LoadsTell about x reader.loads found)
      ⊎ ((found ≡ false) × LockChanged reader)

-- One lock was taken and given back; the reader part is as it was.
abbrev pub LockedOnce : Regions → Regions → Type 0
LockedOnce t u = u ≡ record t { locks = suc t.locks }

-- what a compact root table gives to contracts, where a part of a pair has so many bits, and a vector so many
-- flags
abbrev pub compact : ℕ → ℕ → Part Regions
compact width flags = record {
  sized = IsSized width flags;
  count = compact_word_count width flags;
  is_out = IsOut width;
  roots = λ about h t. roots_of h;
  house = HousedInRegions;
  is_full = IsFull;
  bytes = λ about names. (names * cell_bits (cells_of about) + 7) / 8;
  sound = KnowsRegions;
  split = λ t. nothing;
  join = λ t u. t;
  after_look = Looked;
  after_call = LockedOnce;
}
