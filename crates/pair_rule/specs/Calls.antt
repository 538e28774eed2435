-- What a call on a store's roots leaves of the pass that makes it, whatever its root table is.
use Rattle.std.specs.Prelude.{◌≡◌, ◌≢◌, ℕ, List, [], ◌∷◌, Bool, Some, length}
use Rattle.tree_shape.specs.Tree.{Has, RootStands}
use Rattle.tdb_base.specs.History.{Vector, Put, Entry, History, name_of}
use Rattle.pair_rule.specs.declared.view.View.{View}
use Rattle.pair_rule.specs.declared.sizes.About.{About}
use Rattle.pair_rule.specs.declared.pass.PassOf.{PassOf}
use Rattle.pair_rule.specs.Part.{Part, root_pairs}
use Rattle.pair_rule.specs.Plays.{Caught}

-- a call that found or put the vector
abbrev pub call : ℕ → Bool → Vector → ℕ → Entry
call caller fresh vector id = record { caller = caller; act = Put fresh; vector = vector; id = id }

-- the identifier is that of no name
abbrev pub IsNoName : ℕ → History → Type 0
IsNoName id h = (v : Vector) → name_of h v ≢ Some id

-- the pair is the root of some vector of the store's slots
abbrev pub IsSomeRoot : About → List (ℕ × ℕ) → ℕ → Type 0
IsSomeRoot about known pair = (vector : Vector) × RootStands about.width about.slots known pair vector
    × (length vector ≡ about.slots)

module _ {T : Type 0} where
  -- w is v after it caught up and then called on the vector with this identifier, whose root is this pair
  pub record Called (part : Part T) (fresh : Bool) (id pair : ℕ) (v w : View T) : Type 0 where
    pub vector : Vector
    pub stands : RootStands v.about.width v.about.slots w.known pair vector
    pub long : length vector ≡ v.about.slots
    pub caught : Caught part (call v.number fresh vector id ∷ []) v w
    pub root : Has (id, pair) (root_pairs part w)

  -- the pass has its tree and its buffers as they were, and all counts but that of names
  abbrev pub KeepsBuffers : PassOf T → PassOf T → Type 0
  KeepsBuffers p q = q ≡ record p { seat = q.seat; names_count = q.names_count }
