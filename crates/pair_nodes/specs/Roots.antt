-- What the calls on a store's roots leave of a pass, whatever its root table is.
use Rattle.std.specs.Prelude.{◌≡◌, ℕ, ◌^◌, ◌<◌, [], ◌∷◌, Bool, true, false, Option, Some, None, length, ◌⊎◌}
use Rattle.std.specs.Prelude.{option_map, ◌≤◌}
use Rattle.tdb_base.specs.Fakes.{counted}
use Rattle.packed_word.specs.Word.{pair_of}
use Rattle.tree_shape.specs.Tree.{Has, IsPart, RootStands}
use Rattle.tdb_base.specs.History.{Vector, Act, Entry, name_of}
use Rattle.pair_rule.specs.declared.pass.PassOf.{PassOf}
use Rattle.pair_rule.specs.declared.sizes.About.{About}
use Rattle.pair_rule.specs.Laws.{IsAbout}
use Rattle.pair_rule.specs.Part.{Store, Part, root_pairs}
use Rattle.pair_rule.specs.Rest.{AtRest, view}
use Rattle.pair_rule.specs.Plays.{Caught}
use Rattle.pair_rule.specs.Calls.{call, Called, IsNoName, KeepsBuffers}

-- two numbers are the parts of a pair
abbrev pub AreParts : Store → ℕ × ℕ → Type 0
AreParts store parts = (parts.0 < 2 ^ store.about.width) × (parts.1 < 2 ^ store.about.width)

-- the pair of two parts
abbrev pub pair_in : Store → ℕ × ℕ → ℕ
pair_in store parts = pair_of store.about.width parts.0 parts.1

-- a call that did so with the vector
abbrev pub deed : ℕ → Act → Vector → ℕ → Entry
deed caller act vector id = record { caller = caller; act = act; vector = vector; id = id }

module _ {T : Type 0} (part : Part T) (store : Store) where
  -- the pair's vector was named by one call, or its name was found
  pub record RootPut (pair id : ℕ) (fresh : Bool) (old new : PassOf T) : Type 0 where
    pub rest : AtRest part store new
    pub entry : (vector : Vector)
        → RootStands store.about.width store.about.slots (view old).known pair vector
        → length vector ≡ store.about.slots
        → Caught part (call (view old).number fresh vector id ∷ []) (view old) (view new)
    pub root : Has (id, pair) (root_pairs part (view new))
    pub buffers : KeepsBuffers old new

  -- a look found no name for the pair, and no call was made
  pub record RootUnseen (old new : PassOf T) : Type 0 where
    pub rest : AtRest part store new
    pub no_call : Caught part [] (view old) (view new)
    pub buffers : KeepsBuffers old new

  -- there is no place for the pair, and no call was made
  pub record RootRefused (pair : ℕ) (old new : PassOf T) : Type 0 where
    pub rest : AtRest part store new
    pub no_call : Caught part [] (view old) (view new)
    pub full : part.is_full store.about (root_pairs part (view new)) pair
    pub buffers : KeepsBuffers old new

  -- the identifier is some vector's, whose root has these parts: one call found it
  pub record RootFound (id : ℕ) (parts : ℕ × ℕ) (old new : PassOf T) : Type 0 where
    pub rest : AtRest part store new
    pub parts_are : AreParts store parts
    pub called : Called part false id (pair_in store parts) (view old) (view new)
    pub buffers : new ≡ record old { seat = new.seat }

  -- the identifier is that of no name that the pass has then seen, and no call was made
  pub record RootUnknown (id : ℕ) (old new : PassOf T) : Type 0 where
    pub rest : AtRest part store new
    pub no_call : Caught part [] (view old) (view new)
    pub no_name : IsNoName id (view new).seen
    pub buffers : new ≡ record old { seat = new.seat }

  -- one call did so with the vector that has this identifier, whose name the pass had seen
  pub record RootActed (act : Act) (id : ℕ) (old new : PassOf T) : Type 0 where
    pub rest : AtRest part store new
    pub entry : (vector : Vector) → name_of (view old).seen vector ≡ Some id
        → Caught part (deed (view old).number act vector id ∷ []) (view old) (view new)
    pub call : part.after_call (view old).root (view new).root
    pub buffers : new ≡ record old { seat = new.seat }

  -- the root of the identifier has these parts, and no call was made
  pub record RootRead (id : ℕ) (parts : ℕ × ℕ) (old new : PassOf T) : Type 0 where
    pub rest : AtRest part store new
    pub parts_are : AreParts store parts
    pub root : Has (id, pair_in store parts) (root_pairs part (view old))
    pub no_call : Caught part [] (view old) (view new)
    pub buffers : new ≡ record old { seat = new.seat }

-- How an answer about a root pair came, by what a pass knows of its root table before and after: by one look
-- that did not find the pair's name, and then one call that put the pair; or else by one look that found it.
module _ {T : Type 0} (part : Part T) (about : About) (pair : ℕ) where
  abbrev pub IsPutAfterLook : T → T → Type 0
  IsPutAfterLook t u = (middle : T) × part.after_look about pair false t middle × part.after_call middle u

  abbrev pub IsFoundOrPut : Bool → T → T → Type 0
  IsFoundOrPut fresh t u = ((fresh ≡ false) × part.after_look about pair true t u) ⊎ IsPutAfterLook t u

-- no look was made: what the pass knows of its root table is as it was, or as after one call
abbrev pub IsUnlooked : {T : Type 0} → Part T → T → T → Type 0
IsUnlooked part t u = (u ≡ t) ⊎ part.after_call t u

-- a step was counted, or none
abbrev pub ticked_if : Bool → Option ℕ → Option ℕ
ticked_if true count = option_map counted count
ticked_if false count = count

-- no pass counts more than 2 ^ 24 names
abbrev pub HasFewNames : {T : Type 0} → Part T → Type 0
HasFewNames {T} part = (store : Store) (p : PassOf T) → AtRest part store p → p.names_count ≤ 16777216

-- What a refusal is good for, whoever is refused: among no roots none is, there is no place later either, and
-- the root's vector has no name in any history that is seen later.
pub record Refusals {T : Type 0} (part : Part T) : Type 0 where
  pub none_at_first : (about : About) (pair : ℕ) → IsAbout part.sized part.count about
      → part.is_full about [] pair → ⊥
  pub stay : (store : Store) (p q : PassOf T) (pair : ℕ) → AtRest part store p → AtRest part store q
      → IsPart (view p).known (view q).known → IsPart (root_pairs part (view p)) (root_pairs part (view q))
      → part.is_full store.about (root_pairs part (view p)) pair
      → part.is_full store.about (root_pairs part (view q)) pair
  pub for_good : (store : Store) (p q : PassOf T) (pair : ℕ) (v : Vector) → AtRest part store p
      → AtRest part store q
      → IsPart (view p).known (view q).known → IsPart (root_pairs part (view p)) (root_pairs part (view q))
      → RootStands store.about.width store.about.slots (view p).known pair v
      → part.is_full store.about (root_pairs part (view p)) pair → name_of (view q).seen v ≡ None
