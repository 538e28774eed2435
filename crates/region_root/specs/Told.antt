-- What the calls on a compact store's roots leave of a pass, beside what they leave in every store.
use Rattle.std.specs.Prelude.{◌≡◌, ℕ, ◌<◌, List, [], ◌∷◌, length, Bool, true, false, not, Some, None}
use Rattle.std.specs.Prelude.{Result, MatchResult, MatchBool, Option, option_map, ⊤}
use Rattle.tree_shape.specs.Tree.{Has, RootStands}
use Rattle.tdb_base.specs.Fakes.{counted}
use Rattle.tdb_base.specs.History.{Vector, Act, Put, Set, Clear, Look, name_of, has_bit}
use Rattle.cleary_core.specs.Access.{HasReached}
use Rattle.pair_nodes.specs.Roots.{RootPut}
use Rattle.pair_rule.specs.declared.pass.PassOf.{PassOf}
use Rattle.pair_rule.specs.Calls.{IsNoName}
use Rattle.pair_rule.specs.Part.{Store}
use Rattle.pair_rule.specs.Plays.{Caught}
use Rattle.pair_rule.specs.Rest.{AtRest, view}
use Rattle.region_root.specs.declared.flag.Doing.{Doing}
use Rattle.region_root.specs.declared.flag.Doing.TheVariants as d
use Rattle.region_root.specs.declared.peek.Peek.{Peek}
use Rattle.region_root.specs.declared.peek.Peek.TheVariants.{Seen, Absent, Changed}
use Rattle.pair_rule.specs.declared.full.RootsFull.{RootsFull}
use Rattle.pair_rule.specs.declared.view.View.{View}
use Rattle.pair_rule.specs.declared.sizes.About.{About}
use Rattle.region_root.specs.declared.root.Regions.{Regions}
use Rattle.region_root.specs.declared.root.Holding.{Holding}
use Rattle.region_root.specs.declared.root.Reading.{Reading}
use Rattle.region_root.specs.Layout.{words_each, most, region_of, KeepsRoots}
use Rattle.region_root.specs.Maps.{InRegion, with_flag_set}
use Rattle.region_root.specs.Compact.{StaysFree, LockChanged, compact}
use Rattle.region_root.specs.Plays.{Told}
use Rattle.region_root.specs.Work.{HasLoaded}

-- every cell of the region g has another root than x: the call ended with no call of the history
pub record HasNoPlace (about : About) (x g : ℕ) (base : List (ℕ × ℕ)) (v w : View Regions) : Type 0 where
  pub words : List ℕ
  pub keeps : KeepsRoots about words base
  pub absent : (flags : ℕ) → Has (x, flags) base → ⊥
  pub all : length base ≡ most about
  pub told : Told g base None v w

-- a root was put under the lock of its region
abbrev pub PutTold : About → ℕ → Result Bool RootsFull → Holding → View Regions → View Regions → Type 0
PutTold about x result h v w = MatchResult result (λ fresh. Told h.region h.base (Some (x, Put fresh)) v w)
    (λ _. HasNoPlace about x h.region h.base v w)

-- what was reached decides of the root x: whatever words of its region agree with it and keep some map, the
-- answer says whether that map has the root
pub record FindsRoot (about : About) (x : ℕ) (p : PassOf Regions) (answer : Bool) : Type 0 where
  pub decides : (words : List ℕ) (map : List (ℕ × ℕ)) → length words ≡ words_each about
      → HasReached (HasLoaded p) words → KeepsRoots about words map → InRegion about (region_of about x) map
      → MatchBool answer ((flags : ℕ) × Has (x, flags) map) ((flags : ℕ) → Has (x, flags) map → ⊥)

module _ (width flags : ℕ) (store : Store) (x : ℕ) (old new : PassOf Regions) where
  -- at one moment the region's words had no such root: its vector has no name that the pass has then seen.
  -- The lock word was even, not its last even value, and the same at both looks
  pub record RootAbsent : Type 0 where
    pub rest : AtRest (compact width flags) store new
    pub no_call : Caught (compact width flags) [] (view old) (view new)
    pub no_id : IsNoName x (view new).seen
    pub no_name : (vector : Vector)
        → RootStands store.about.width store.about.slots (view old).known x vector
        → length vector ≡ store.about.slots → name_of (view new).seen vector ≡ None
    pub looks : (q : Reading) → (view new).root.reader ≡ q ∷ [] → StaysFree q
    pub buffers : new ≡ record old { seat = new.seat }

  -- a holder was there, or the lock word can't be trusted: it was odd or its last even value at the first
  -- look, or another one at a second look
  pub record RootChanged : Type 0 where
    pub rest : AtRest (compact width flags) store new
    pub no_call : Caught (compact width flags) [] (view old) (view new)
    pub cause : (q : Reading) → (view new).root.reader ≡ q ∷ [] → LockChanged q
    pub buffers : new ≡ record old { seat = new.seat }

  -- what each answer of a peek tells
  abbrev pub PeekTold : Peek → Type 0
  PeekTold (Seen id) = RootPut (compact width flags) store x id false old new × (id ≡ x)
  PeekTold Absent = RootAbsent
  PeekTold Changed = RootChanged

-- whether a look found the root
abbrev pub finds : Peek → Bool
finds (Seen id) = true
finds Absent = false
finds Changed = false

-- how many ticks there were, where there had been so many: one more where a call was made
abbrev pub ticked : Peek → Option ℕ → Option ℕ
ticked (Seen id) count = option_map counted count
ticked Absent count = count
ticked Changed count = count

-- a root was looked for under the lock of its region
abbrev pub FindTold : ℕ → Bool → Holding → View Regions → View Regions → Type 0
FindTold x answer h v w = MatchBool answer (Told h.region h.base (Some (x, Put false)) v w)
    (((flags : ℕ) → Has (x, flags) h.base → ⊥) × Told h.region h.base None v w)

-- what a call does with flags that are these
abbrev pub act_on : Doing → ℕ → Act
act_on (d.Set bit) flags = Set bit (not (has_bit flags bit))
act_on (d.Clear bit) flags = Clear bit (has_bit flags bit)
act_on d.Look flags = Look flags

-- the flag of which a call speaks, if it speaks of one, is one of so many
abbrev pub HasFlag : ℕ → Doing → Type 0
HasFlag count (d.Set bit) = bit < count
HasFlag count (d.Clear bit) = bit < count
HasFlag count d.Look = ⊤

-- the map after a call on the root x: its flags were set to these, or all stayed
abbrev pub map_after : ℕ → Option ℕ → List (ℕ × ℕ) → List (ℕ × ℕ)
map_after x None base = base
map_after x (Some flags) base = with_flag_set x flags base
