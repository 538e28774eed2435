-- A pass in the middle of a call: it holds a region, or reads one without its lock.
use Rattle.std.specs.Prelude.{◌≡◌, ℕ, ◌+◌, ◌<◌, List, [], ◌∷◌, length, Bool, true, false, Option, Some, None}
use Rattle.std.specs.Prelude.{Result, MatchResult}
use Rattle.tree_shape.specs.Tree.{Has, IsPart}
use Rattle.tdb_base.specs.declared.history.Act.{Act}
use Rattle.tdb_base.specs.Acts.{act_of}
use Rattle.tdb_base.specs.History.{Vector, Put, is_fresh, name_of}
use Rattle.cleary_core.specs.declared.insertion.RegionFull.{RegionFull}
use Rattle.pair_rule.specs.declared.sizes.About.{About}
use Rattle.pair_rule.specs.declared.pass.PassOf.{PassOf}
use Rattle.pair_rule.specs.Part.{Store}
use Rattle.pair_rule.specs.Plays.{first_root}
use Rattle.pair_rule.specs.Rest.{AtRest, view}
use Rattle.region_root.specs.declared.root.Regions.{Regions}
use Rattle.region_root.specs.declared.root.Holding.{Holding}
use Rattle.region_root.specs.declared.root.Reading.{Reading}
use Rattle.region_root.specs.Layout.{regions, words_each, most, start, region_of, KeepsRoots}
use Rattle.region_root.specs.Maps.{InRegion, Acts}
use Rattle.region_root.specs.Compact.{IsOdd, compact}
use Rattle.region_root.specs.Plays.{Ending, holding, recopied, reloaded}

-- how a call is to end, as its code says it
abbrev pub ending_of : Option (ℕ × Act) → Ending
ending_of None = None
ending_of (Some a) = Some (a.0, act_of a.1)

-- the pass as it would be if it held no region
abbrev pub released : PassOf Regions → PassOf Regions
released p = record p {
  seat = record p.seat {
    me = (record (view p) { busy = false; root = record (view p).root { held = [] } }, p.seat.me.1);
  };
}

-- a pass that holds this region, and else is as between two calls
pub record AtWork (width flags : ℕ) (store : Store) (h : Holding) (p : PassOf Regions) : Type 0 where
  pub rest : AtRest (compact width flags) store (released p)
  pub busy : (view p).busy ≡ true
  pub held : (view p).root.held ≡ h ∷ []
  pub region : h.region < regions store.about
  pub odd : IsOdd h.lock
  pub long : length h.copy ≡ words_each store.about
  pub inside : InRegion store.about h.region h.base

-- the pass has taken the region, whose lock word has this odd value then
pub record Locked (width flags : ℕ) (store : Store) (g lock : ℕ) (old new : PassOf Regions) : Type 0 where
  pub hold : Holding
  pub work : AtWork width flags store hold new
  pub region_is : hold.region ≡ g
  pub lock_is : hold.lock ≡ lock
  pub keeps : KeepsRoots store.about hold.copy hold.base
  pub names : (vector : Vector) (id : ℕ) → name_of (view old).seen vector ≡ Some id
      → region_of store.about id ≡ g → (flags : ℕ) × Has (id, flags) hold.base
  pub view_is : view new ≡ holding hold (view old)
  pub others : new ≡ record old { seat = new.seat }

-- whether an ending gives a vector a name
abbrev pub gives_name : Ending → Bool
gives_name None = false
gives_name (Some a) = is_fresh a.1

-- A reader's pass on the way: it rests, and its reader part has more loads.

-- the reader has loaded this word at this place
abbrev pub HasLoaded : PassOf Regions → ℕ → ℕ → Type 0
HasLoaded p place word = (r : Reading) × ((view p).root.reader ≡ r ∷ []) × Has (place, word) r.loads

-- it can reach so many words, which begin at `from`
pub record CanRead (width flags : ℕ) (store : Store) (from : ℕ) (p : PassOf Regions) (count : ℕ) : Type 0
  where
    pub all : count ≡ words_each store.about
    pub rest : AtRest (compact width flags) store p
    pub reader : (r : Reading) × ((view p).root.reader ≡ r ∷ []) × (r.region < regions store.about)
        × (from ≡ first_root store.about + start store.about r.region)

pub record ReadsOn (width flags : ℕ) (store : Store) (old new : PassOf Regions) : Type 0 where
  pub rest : AtRest (compact width flags) store old → AtRest (compact width flags) store new
  pub view_is : (r : Reading) → (view old).root.reader ≡ r ∷ []
      → (loads : List (ℕ × ℕ)) × (view new ≡ reloaded loads r (view old)) × IsPart r.loads loads
  pub others : new ≡ record old { seat = new.seat }

-- A holder's pass on the way: its copy alone changes.

abbrev pub copy_in : List Holding → List ℕ
copy_in [] = []
copy_in (h ∷ hs) = h.copy

abbrev pub held_words : PassOf Regions → List ℕ
held_words p = copy_in (view p).root.held

-- it can reach so many words, which begin at `from`
pub record CanWrite (width flags : ℕ) (store : Store) (from : ℕ) (p : PassOf Regions) (count : ℕ) : Type 0
  where
    pub all : count ≡ words_each store.about
    pub hold : Holding
    pub work : AtWork width flags store hold p
    pub begins : from ≡ first_root store.about + start store.about hold.region

pub record Rewrites (width flags : ℕ) (store : Store) (old new : PassOf Regions) : Type 0 where
  pub work : (h : Holding) → AtWork width flags store h old
      → AtWork width flags store (record h { copy = held_words new }) new
  pub view_is : (h : Holding) → (view old).root.held ≡ h ∷ []
      → view new ≡ recopied (held_words new) h (view old)
  pub others : new ≡ record old { seat = new.seat }

-- an insertion of the root x into words that kept the base: the words keep what the act left of it; or every
-- cell has another root
abbrev pub Added : About → ℕ → Result Bool RegionFull → List (ℕ × ℕ) → List ℕ → Type 0
Added about x result base words = MatchResult result
    (λ fresh. (next : List (ℕ × ℕ)) × KeepsRoots about words next × Acts about.flags x (Put fresh) base next)
    (λ _. KeepsRoots about words base × ((flags : ℕ) → Has (x, flags) base → ⊥) × (length base ≡ most about))
