-- A history told with other numbers for its callers.
use Rattle.std.specs.Prelude.{◌==◌, ℕ, List, map}
use Rattle.std.specs.List.{position_or_len}
use Rattle.tdb_base.specs.History.{Entry, History}

-- the same call, with the number that its caller is given
abbrev pub renamed_entry : (ℕ → ℕ) → Entry → Entry
renamed_entry given e = record e { caller = given e.caller }

-- the same calls, each with the number that its caller is given
abbrev pub renamed : (ℕ → ℕ) → History → History
renamed given h = map (renamed_entry given) h

-- the place of the first element of a list that equals a number
abbrev pub position_of : List ℕ → ℕ → ℕ
position_of numbers n = position_or_len (λ x. x == n) numbers
