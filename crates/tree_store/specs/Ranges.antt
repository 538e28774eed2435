-- The ranges of a store's sizes.
use Rattle.std.specs.Prelude.{◌≡◌, ◌⊎◌, ℕ, ◌≤◌}
use Rattle.pair_rule.specs.declared.sizes.Sizes.{Sizes}
use Rattle.pair_rule.specs.Part.{Part}

-- an index has to fit a part of a pair
abbrev pub NodesFit : ℕ → Sizes → Type 0
NodesFit width sizes = (3 ≤ sizes.nodes) × (sizes.nodes ≤ 25) × (sizes.nodes ≤ width)

abbrev pub ProbeFits : Sizes → Type 0
ProbeFits sizes = (1 ≤ sizes.probe) × (sizes.probe ≤ 4194304)

-- this is the number of the first size that is out of its range: 1 nodes, 2 and 3 the root table's (its roots
-- and a region), 4 probe
abbrev pub IsFirstOut : {T : Type 0} → Part T → ℕ → Sizes → ℕ → Type 0
IsFirstOut part width sizes n =
    ((n ≡ 1) × (NodesFit width sizes → ⊥))
    ⊎ ((NodesFit width sizes × part.is_out sizes n)
    ⊎ ((n ≡ 4) × NodesFit width sizes × part.sized sizes × (ProbeFits sizes → ⊥)))
