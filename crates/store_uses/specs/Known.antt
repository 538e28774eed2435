-- What a pass knows of identifiers and of states.
use Rattle.std.specs.Prelude.{◌≡◌, ℕ, Some, List, All}
use Rattle.tdb_base.specs.History.{Vector, name_of}
use Rattle.pair_rule.specs.declared.pass.PassOf.{PassOf}
use Rattle.pair_rule.specs.Part.{Store}
use Rattle.pair_rule.specs.Rest.{AtRest, KnowsName, view}
use Rattle.root_plain.specs.declared.root.Roots.{Roots}
use Rattle.root_plain.specs.Plain.{plain}

-- the pass has seen that the vector was given an identifier
abbrev pub IsStored : {T : Type 0} → PassOf T → Vector → Type 0
IsStored {T} pass vector = (id : ℕ) × (name_of (view pass).seen vector ≡ Some id)

-- the pass rests, and knows each identifier of its frontier
pub record IsReady (store : Store) (pass : PassOf Roots) (frontier : List ℕ) : Type 0 where
  pub rest : AtRest plain store pass
  pub frontier_known : All (KnowsName pass) frontier
