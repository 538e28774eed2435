-- What of the laws of passes is a plain store's own.
use Rattle.std.specs.Prelude.{◌≡◌, ℕ, ◌^◌, ◌<◌, Some}
use Rattle.tdb_base.specs.History.{Vector, name_of}
use Rattle.pair_rule.specs.declared.pass.PassOf.{PassOf}
use Rattle.pair_rule.specs.Part.{Store}
use Rattle.pair_rule.specs.Rest.{AtRest, view}
use Rattle.root_plain.specs.declared.root.Roots.{Roots}
use Rattle.root_plain.specs.Plain.{plain}

-- identifiers are numbers of buckets
abbrev pub NamesAreBuckets : Type 0
NamesAreBuckets = (store : Store) (p : PassOf Roots) → AtRest plain store p → (v : Vector) (id : ℕ)
    → name_of (view p).seen v ≡ Some id → id < 2 ^ store.about.sizes.roots
