-- How lines come to a worker.
use Rattle.std.specs.Prelude.{◌≡◌, ◌<◌, ◌++◌, ℕ, List, [], Option, None, IfSome, option_to_list}

-- what a worker has its lines from
pub record Giving (S : Type 0) : Type 1 where
  -- it gave these lines, one after the other, from the first state to the last
  pub gives : S → List ℕ → S → Type 0
  -- there are no more
  pub is_over : S → Type 0
  -- at most so many are still to come
  pub left : S → ℕ
  -- those that are still to come are among the first so many of a trace
  pub within : ℕ → S → Type 0

-- the laws of giving: no line is given at first, and what was given adds up
pub record AddsUp {S : Type 0} (giving : Giving S) : Type 0 where
  pub none : (s : S) → giving.gives s [] s
  pub more : (s t u : S) (first next : List ℕ) → giving.gives s first t → giving.gives t next u
      → giving.gives s (first ++ next) u

-- one line was asked for
pub record Asked {S : Type 0} (giving : Giving S) (line : Option ℕ) (old new : S) : Type 0 where
  pub given : giving.gives old (option_to_list line) new
  pub over : line ≡ None → giving.is_over new
  pub fewer : IfSome line (λ i. giving.left new < giving.left old)
  pub inside : (lines : ℕ) → giving.within lines old → giving.within lines new × IfSome line (λ i. i < lines)
