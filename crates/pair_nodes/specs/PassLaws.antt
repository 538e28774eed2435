-- The laws of passes, whatever root table a store has.
use Rattle.std.specs.Prelude.{◌≡◌, ℕ, [], ◌∷◌, true, Some, None}
use Rattle.tree_shape.specs.Tree.{IsNaming}
use Rattle.tdb_base.specs.History.{Vector, name_of}
use Rattle.pair_rule.specs.declared.view.View.{View}
use Rattle.pair_rule.specs.declared.pass.PassOf.{PassOf}
use Rattle.pair_rule.specs.Part.{Store, Part, root_pairs}
use Rattle.pair_rule.specs.Plays.{Caught}
use Rattle.pair_rule.specs.Calls.{call, IsNoName}
use Rattle.pair_rule.specs.Rest.{AtRest, Whole, HasAll, view}

-- over the calls of all callers, vectors with one identifier are one vector
abbrev pub NamesDiffer : {T : Type 0} → Part T → Type 0
NamesDiffer {T} part = (store : Store) (p : PassOf T) → AtRest part store p → (u v : Vector) (id : ℕ)
    → name_of (view p).seen u ≡ Some id → name_of (view p).seen v ≡ Some id → u ≡ v

-- an identifier has one root pair, and a root pair one identifier
abbrev pub RootsAreNaming : {T : Type 0} → Part T → Type 0
RootsAreNaming {T} part = (store : Store) (p : PassOf T) → AtRest part store p
    → IsNaming (root_pairs part (view p))

-- before a call that is new its vector had no name, and its identifier was that of no vector
abbrev pub NewNames : {T : Type 0} → Part T → Type 0
NewNames {T} part = (caller id : ℕ) (vector : Vector) (v w : View T)
    (caught : Caught part (call caller true vector id ∷ []) v w)
    → (name_of caught.log vector ≡ None) × IsNoName id caught.log

-- a pass that stands for all passes that there are knows the whole store, whose nodes and roots lie as the
-- table has them
abbrev pub WholeHasAll : {T : Type 0} → Part T → Type 0
WholeHasAll {T} part = (store : Store) (p : PassOf T) → AtRest part store p → Whole (view p)
    → HasAll part store.about (view p)
