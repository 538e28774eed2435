-- After an insertion the words keep a map.
use Rattle.std.proofs.Common.{ℕ, true, false, List, ◌∷◌, Result, Ok, Err, Bool}
use Rattle.cleary_core.specs.declared.cells.Sizes.{Sizes}
use Rattle.cleary_core.specs.declared.insertion.RegionFull.{RegionFull}
use Rattle.cleary_core.specs.Answers.{Answered, new_key}
use Rattle.cleary_core.specs.Map.{Key, KeepsMap}

pub kept_of : (result : Result Bool RegionFull) (z : Sizes) (keys : List Key) (home quotient : ℕ) (new : List ℕ) → Answered result z keys home quotient new → (all : List Key) × KeepsMap z new all
kept_of (Ok true) z keys home quotient new a = (new_key home quotient ∷ keys, a.1)
kept_of (Ok false) z keys home quotient new a = (keys, a.1)
kept_of (Err e) z keys home quotient new a = (keys, a.2)
