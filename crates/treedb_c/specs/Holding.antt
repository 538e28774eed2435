-- What a handle stands for, and what is known of it between two calls.
use Rattle.std.specs.Prelude.{ℕ}
use Rattle.pair_rule.specs.declared.pass.PassOf.{PassOf}
use Rattle.pair_rule.specs.Part.{Store, IsTable}
use Rattle.pair_rule.specs.Rest.{AtRest}
use Rattle.root_plain.specs.declared.root.Roots.{Roots}
use Rattle.root_plain.specs.Plain.{plain}

-- a store, and a pass of it
pub record Holding : Type 0 where
  pub store : Store
  pub pass : PassOf Roots

-- the pass is between two calls on the store, which is a plain one of this profile
pub record Rested (width flags : ℕ) (h : Holding) : Type 0 where
  pub table : IsTable width flags plain h.store
  pub rest : AtRest plain h.store h.pass
