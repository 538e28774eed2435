-- What reading an input to its end gives.
use Rattle.std.specs.Prelude.{◌<◌, ◌↔◌, ℕ, List, length, Option, Result, IsErrOf}
use Rattle.std.specs.Io.KnownBytes.{Consumes}
use Rattle.trace_csv.specs.declared.input.InError.{InError}
use Rattle.trace_csv.specs.declared.input.InError.TheVariants.{TooMuch}

abbrev pub limit : ℕ
limit = 67108864

-- what the source gave, where it tells its bytes, decides: more than the limit is too much
pub record ReadsWithin (old new : Option (List ℕ)) {T : Type 0} (result : Result T InError) : Type 0 where
  pub gave : List ℕ
  pub given : Consumes old new gave
  pub too_much : IsErrOf result TooMuch ↔ (limit < length gave)
