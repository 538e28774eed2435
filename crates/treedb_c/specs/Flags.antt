-- What a call on the flags of a vector leaves.
use Rattle.std.specs.Prelude.{◌≡◌, ◌<◌, ℕ, [], ◌∷◌, Option, Some, None, Result, Ok, Err, Bool, true, false}
use Rattle.tdb_base.specs.History.{Vector, Act, Look, name_of}
use Rattle.pair_nodes.specs.Roots.{RootActed}
use Rattle.pair_rule.specs.Calls.{IsNoName, call}
use Rattle.pair_rule.specs.Plays.{Caught}
use Rattle.pair_rule.specs.Rest.{view}
use Rattle.pair_rule.specs.declared.pass.PassOf.{PassOf}
use Rattle.root_plain.specs.declared.root.Roots.{Roots}
use Rattle.root_plain.specs.Plain.{plain}
use Rattle.treedb_c.specs.Holding.{Holding}
use Rattle.treedb_c.specs.declared.code.Code.{Code}
use Rattle.treedb_c.specs.declared.code.Code.TheVariants as c

-- the identifier is a vector's, which one call found
pub record IsSomeName (id : ℕ) (old new : PassOf Roots) : Type 0 where
  pub vector : Vector
  pub name : name_of (view new).seen vector ≡ Some id
  pub call_is : Caught plain (call (view old).number false vector id ∷ []) (view old) (view new)

-- the identifier is no vector's, and no call was made
pub record IsNoneName (id : ℕ) (old new : PassOf Roots) : Type 0 where
  pub no_name : IsNoName id (view new).seen
  pub no_call : Caught plain [] (view old) (view new)

abbrev pub IsNameOrNone : Bool → ℕ → PassOf Roots → PassOf Roots → Type 0
IsNameOrNone true id old new = IsSomeName id old new
IsNameOrNone false id old new = IsNoneName id old new

-- the identifier was looked for
pub record IsSought (id : ℕ) (found : Bool) (old new : PassOf Roots) : Type 0 where
  pub answer : IsNameOrNone found id old new
  pub buffers : new ≡ record old { seat = new.seat }

-- one call found the identifier's vector, and the next one did so with its flags
pub record IsActed (act : Act) (id : ℕ) (before after : Holding) : Type 0 where
  pub store_stays : after.store ≡ before.store
  pub middle : PassOf Roots
  pub found : IsSought id true before.pass middle
  pub acted : RootActed plain before.store act id middle after.pass

-- no vector has the identifier
pub record IsUnnamed (id : ℕ) (before after : Holding) : Type 0 where
  pub store_stays : after.store ≡ before.store
  pub sought : IsSought id false before.pass after.pass

-- what setting or clearing a flag is answered: whether it changed, or that there is no such flag, or no such
-- name
abbrev pub IsFlagged : (Bool → Act) → ℕ → ℕ → Result Bool Code → Holding → Holding → Type 0
IsFlagged act bit id (Ok first) before after = (bit < before.store.about.flags)
    × IsActed (act first) id before after
IsFlagged act bit id (Err c.BadFlag) before after = (bit < before.store.about.flags → ⊥) × (after ≡ before)
IsFlagged act bit id (Err c.NoName) before after = (bit < before.store.about.flags)
    × IsUnnamed id before after
IsFlagged act bit id (Err _) before after = ⊥

-- what reading the flags is answered
abbrev pub AreFlags : ℕ → Option ℕ → Holding → Holding → Type 0
AreFlags id (Some flags) before after = IsActed (Look flags) id before after
AreFlags id None before after = IsUnnamed id before after
