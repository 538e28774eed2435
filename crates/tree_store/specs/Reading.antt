-- What reading a vector leaves of a pass.
use Rattle.std.specs.Prelude.{◌≡◌, ℕ, [], ◌∷◌, Some, Bool, true, false}
use Rattle.tdb_base.specs.History.{Vector, name_of}
use Rattle.pair_rule.specs.declared.pass.PassOf.{PassOf}
use Rattle.pair_rule.specs.Part.{Part}
use Rattle.pair_rule.specs.Rest.{view}
use Rattle.pair_rule.specs.Calls.{IsNoName, call}
use Rattle.pair_nodes.specs.Roots.{IsUnlooked}
use Rattle.tree_store.specs.Store.{Advanced, KeepsLastTree}

-- the pass put no node, began no probe, and has its last tree
pub record PutsNone {T : Type 0} (old new : PassOf T) : Type 0 where
  pub made : (view new).made ≡ (view old).made
  pub probes : (view new).probes ≡ (view old).probes
  pub last_stays : KeepsLastTree old new

-- the vector with the identifier was read, which the pass had seen named; no call was made
pub record IsRead {T : Type 0} (part : Part T) (id : ℕ) (out : Vector) (old new : PassOf T) : Type 0 where
  pub vector : name_of (view old).seen out ≡ Some id
  pub no_call : Advanced part [] (view old) (view new)
  pub no_look : IsUnlooked part (view old).root (view new).root
  pub puts_none : PutsNone old new

-- the vector with the identifier was found by one call and read, or the identifier is no name's, and the
-- vector is as it was
pub record IsLookedUp {T : Type 0} (part : Part T) (id : ℕ) (found : Bool) (before out : Vector)
    (old new : PassOf T) : Type 0 where
  pub call_is : found ≡ true → Advanced part (call (view old).number false out id ∷ []) (view old) (view new)
  pub no_name : found ≡ false → IsNoName id (view new).seen
  pub no_call : found ≡ false → Advanced part [] (view old) (view new)
  pub unchanged : found ≡ false → out ≡ before
  pub no_look : IsUnlooked part (view old).root (view new).root
  pub puts_none : PutsNone old new
