-- What contracts see of the sources and sinks in memory and of the adapters, and what a numbered call of them
-- does.
use Rattle.std.specs.Prelude.{◌==◌, ◌+◌, ◌-◌, ◌^◌, ℕ, Bool, List, min}
use Rattle.std.specs.List.{list_any}

-- a source in memory: the bytes still to come, the numbers of the calls that fail, how many bytes it gives a
-- call at most, and its two counts
pub record MemSourceState : Type 0 where
  pub left : List ℕ
  pub fails : List ℕ
  pub piece : ℕ
  pub calls : ℕ
  pub faults : ℕ

-- a sink in memory: the bytes taken, how many it has room for in all, the numbers of the writes that fail,
-- how many bytes it takes a call at most, its two counts, and whether it is settled
pub record MemSinkState : Type 0 where
  pub taken : List ℕ
  pub room : ℕ
  pub fails : List ℕ
  pub piece : ℕ
  pub calls : ℕ
  pub faults : ℕ
  pub settled : Bool

-- an adapter over a reader of std, with the count of its errors
pub record StdSourceState (R : Type 0) : Type 0 where
  pub inner : R
  pub faults : ℕ

-- an adapter over a writer of std
pub record StdSinkState (T : Type 0) : Type 0 where
  pub inner : T
  pub faults : ℕ
  pub settled : Bool

-- the call of this number is to fail
abbrev pub fails_at : List ℕ → ℕ → Bool
fails_at fails number = list_any (λ x. x == number) fails

-- a count that rises by one, and stands still at its last value
abbrev pub counted : ℕ → ℕ
counted n = min (n + 1) (2 ^ 64 - 1)
