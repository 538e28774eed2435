-- What the steps on lock words and on regions' words tell.
use Rattle.std.specs.Prelude.{◌≡◌, ◌≢◌, ℕ, suc, ◌+◌, ◌-◌, ◌⊎◌, List, [], ◌∷◌, length, true, false}
use Rattle.std.specs.Prelude.{Option}
use Rattle.std.specs.Prelude.{Some, None, slice_index, slice_set}
use Rattle.atomic_table.specs.Table.{Me, Step}
use Rattle.tree_shape.specs.Tree.{Has, RootStands}
use Rattle.tdb_base.specs.History.{Vector, Act, Put, History, is_fresh, name_of}
use Rattle.pair_rule.specs.declared.view.View.{View}
use Rattle.pair_rule.specs.declared.sizes.About.{About}
use Rattle.pair_rule.specs.Part.{Part}
use Rattle.pair_rule.specs.Plays.{Caught, first_root}
use Rattle.pair_rule.specs.Calls.{IsSomeRoot}
use Rattle.pair_nodes.specs.Roots.{deed}
use Rattle.region_root.specs.declared.root.Regions.{Regions}
use Rattle.region_root.specs.declared.root.Holding.{Holding}
use Rattle.region_root.specs.declared.root.Reading.{Reading}
use Rattle.region_root.specs.Layout.{words_each, start, region_of, IsPacked, KeepsRoots}
use Rattle.region_root.specs.Maps.{IsMapOf, Acts, InRegion}
use Rattle.region_root.specs.Compact.{last, Unchanged, compact}

-- the root part of a table that is about this
abbrev pub part_of : About → Part Regions
part_of about = compact about.width about.flags

-- how a call on a region ends: with none of the history's calls, or with one that did this with this root
abbrev pub Ending : Type 0
Ending = Option (ℕ × Act)

-- these are the calls of an ending
abbrev pub Ends : ℕ → About → List (ℕ × ℕ) → Ending → History → Type 0
Ends caller about known None more = more ≡ []
Ends caller about known (Some a) more = (vector : Vector)
    × RootStands about.width about.slots known a.0 vector
    × (length vector ≡ about.slots) × (more ≡ deed caller a.1 vector a.0 ∷ [])

-- a call may end so where the region g has this map, and then it has that one
abbrev pub MayEnd : About → List (ℕ × ℕ) → ℕ → List (ℕ × ℕ) → Ending → List (ℕ × ℕ) → Type 0
MayEnd about known g map None next = next ≡ map
MayEnd about known g map (Some a) next = (region_of about a.0 ≡ g) × IsPacked about a.0
    × Acts about.flags a.0 a.1 map next × (is_fresh a.1 ≡ true → IsSomeRoot about known a.0)

-- the view w is v after it caught up with a history that gives the region g this map, and then called so
pub record Told (g : ℕ) (map : List (ℕ × ℕ)) (ending : Ending) (v w : View Regions) : Type 0 where
  pub calls : History
  pub caught : Caught (part_of v.about) calls v w
  pub is_map : IsMapOf v.about g caught.log map
  pub ends : Ends v.number v.about w.known ending calls

-- the view takes a region
abbrev pub holding : Holding → View Regions → View Regions
holding h v = record v { busy = true; root = record v.root { held = h ∷ []; locks = suc v.root.locks } }

-- its copy is this now
abbrev pub recopied : List ℕ → Holding → View Regions → View Regions
recopied copy h v = record v { root = record v.root { held = (record h { copy = copy }) ∷ [] } }

-- a reader of the region g, which wants the root x, found n in the lock word
abbrev pub reading : ℕ → ℕ → ℕ → Reading
reading g x n = record { region = g; pair = x; first = n; loads = []; second = None }

abbrev pub peeking : Reading → View Regions → View Regions
peeking q v = record v { root = record v.root { reader = q ∷ []; peeks = suc v.root.peeks } }

-- its loads are these now
abbrev pub reloaded : List (ℕ × ℕ) → Reading → View Regions → View Regions
reloaded loads q v = record v { root = record v.root { reader = (record q { loads = loads }) ∷ [] } }

-- it found n in the lock word at the second look
abbrev pub seconded : ℕ → Reading → Regions → Regions
seconded n q t = record t { reader = (record q { second = Some n }) ∷ [] }

-- after the unlock of the odd value: the next one, or the last even value again
abbrev pub IsNextLock : ℕ → ℕ → Type 0
IsNextLock odd n = (n ≡ suc odd) ⊎ ((odd ≡ suc last) × (n ≡ last))

-- the place of a word in the region g
abbrev pub place_in : About → ℕ → ℕ → ℕ
place_in about word g = word - (first_root about + start about g)

-- the region was taken: its words, and the map that they keep, which has the names that the view has seen
pub record TakenRegion (g lock : ℕ) (v w : View Regions) : Type 0 where
  pub copy : List ℕ
  pub base : List (ℕ × ℕ)
  pub view_is : w ≡ holding (record { region = g; lock = lock; copy = copy; base = base }) v
  pub long : length copy ≡ words_each v.about
  pub keeps : KeepsRoots v.about copy base
  pub inside : InRegion v.about g base
  pub names : (vector : Vector) (id : ℕ) → name_of v.seen vector ≡ Some id → region_of v.about id ≡ g
      → (flags : ℕ) × Has (id, flags) base

-- What a reader learns whose second look found the first value again: there are words of the region that have
-- its loads at their places, and they keep the map of the region's names. Where the wanted root is among
-- them,
-- one call found it.
pub record Believes (q : Reading) (v w : View Regions) : Type 0 where
  pub words : List ℕ
  pub long : length words ≡ words_each v.about
  pub loads_are : (i n : ℕ) → Has (i, n) q.loads → slice_index words i ≡ n
  pub map : List (ℕ × ℕ)
  pub keeps : KeepsRoots v.about words map
  pub inside : InRegion v.about q.region map
  pub answer :
      (((flags : ℕ) → Has (q.pair, flags) map → ⊥) × Told q.region map None v w)
      ⊎ (((flags : ℕ) × Has (q.pair, flags) map) × Told q.region map (Some (q.pair, Put false)) v w)

-- what the second look tells
pub record Closed (n : ℕ) (q : Reading) (v w : View Regions) : Type 0 where
  pub root_is : w.root ≡ seconded n q v.root
  pub busy_stays : w.busy ≡ v.busy
  pub changed : (Unchanged n q → ⊥) → w ≡ record v { root = seconded n q v.root }
  pub believed : Unchanged n q → (w.olds ≡ []) × Believes q v w

module _ {S : Type 0} where
  -- a lock word is exchanged from an even value to the next one
  abbrev pub takes_tells : Step S → Me S (View Regions) → ℕ → Me S (View Regions) → Type 0
  takes_tells st m n m' = (m'.1 ≡ m.1)
      × (n ≡ st.first → TakenRegion (st.word - first_root m.0.about) st.second m.0 m'.0)
      × (n ≢ st.first → m'.0 ≡ m.0)

  -- the holder loads a word of its region
  abbrev pub copies_tells : Step S → Me S (View Regions) → ℕ → Me S (View Regions) → Type 0
  copies_tells st m n m' = (m' ≡ m) × ((h : Holding) → m.0.root.held ≡ h ∷ []
      → n ≡ slice_index h.copy (place_in m.0.about st.word h.region))

  -- the holder stores a word there
  abbrev pub stores_tells : Step S → Me S (View Regions) → ℕ → Me S (View Regions) → Type 0
  stores_tells st m n m' = (m'.1 ≡ m.1) × ((h : Holding) → m.0.root.held ≡ h ∷ []
      → m'.0 ≡ recopied (slice_set h.copy (place_in m.0.about st.word h.region) n) h m.0)

  -- the holder swaps the lock word to an even value, and its call ends so
  pub record Frees (ending : Ending) (m m' : Me S (View Regions)) : Type 0 where
    pub slots_stay : m'.1 ≡ m.1
    pub idle : m'.0.busy ≡ false
    pub no_olds : m'.0.olds ≡ []
    pub root_is : m'.0.root ≡ record m.0.root { held = [] }
    pub told : (h : Holding) → m.0.root.held ≡ h ∷ [] → Told h.region h.base ending m.0 m'.0

  abbrev pub frees_tells : Ending → Step S → Me S (View Regions) → ℕ → Me S (View Regions) → Type 0
  frees_tells ending st m n m' = Frees ending m m'

  -- a reader's first look at a lock word, where the root x is wanted
  abbrev pub peeks_tells : ℕ → Step S → Me S (View Regions) → ℕ → Me S (View Regions) → Type 0
  peeks_tells x st m n m' = (m'.1 ≡ m.1)
      × (m'.0 ≡ peeking (reading (st.word - first_root m.0.about) x n) m.0)

  -- a reader loads a word of the region
  abbrev pub reads_tells : Step S → Me S (View Regions) → ℕ → Me S (View Regions) → Type 0
  reads_tells st m n m' = (m'.1 ≡ m.1) × ((q : Reading) → m.0.root.reader ≡ q ∷ []
      → m'.0 ≡ reloaded ((place_in m.0.about st.word q.region, n) ∷ q.loads) q m.0)

  -- its second look at the lock word
  abbrev pub closes_tells : Step S → Me S (View Regions) → ℕ → Me S (View Regions) → Type 0
  closes_tells st m n m' = (m'.1 ≡ m.1) × ((q : Reading) → m.0.root.reader ≡ q ∷ [] → Closed n q m.0 m'.0)
