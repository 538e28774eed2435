-- What of the laws of passes is a compact store's own.
use Rattle.std.specs.Prelude.{◌≡◌, ℕ, Some}
use Rattle.tdb_base.specs.History.{Vector, name_of}
use Rattle.pair_rule.specs.declared.pass.PassOf.{PassOf}
use Rattle.pair_rule.specs.Part.{Store}
use Rattle.pair_rule.specs.Rest.{AtRest, view}
use Rattle.region_root.specs.declared.root.Regions.{Regions}
use Rattle.region_root.specs.Layout.{IsPacked}
use Rattle.region_root.specs.Compact.{compact}

-- identifiers are roots, as one number each
abbrev pub NamesArePacked : ℕ → ℕ → Type 0
NamesArePacked width flags = (store : Store) (p : PassOf Regions) → AtRest (compact width flags) store p
    → (v : Vector) (id : ℕ) → name_of (view p).seen v ≡ Some id → IsPacked store.about id
