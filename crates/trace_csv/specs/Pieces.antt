-- A list of numbers as pieces of one length, one after the other.
use Rattle.std.specs.Prelude.{◌≡◌, ◌≤◌, ◌<◌, ◌*◌, ℕ, zero, suc, List, [], ◌∷◌, take, drop}

-- the first `count` pieces of `size` numbers each
unfoldable pub pieces : ℕ → ℕ → List ℕ → List (List ℕ)
pieces size zero numbers = []
pieces size (suc count) numbers = take size numbers ∷ pieces size count (drop size numbers)

-- so many numbers are some lines of 2 to 1024 slots each
pub record AreLines (numbers slots lines : ℕ) : Type 0 where
  pub whole : numbers ≡ lines * slots
  pub some : 0 < lines
  pub least : 2 ≤ slots
  pub most : slots ≤ 1024
