-- Lists of numbers that rise.
use Rattle.std.specs.Prelude.{◌≡◌, ◌==◌, ◌<◌, ℕ, List, [], ◌∷◌, All}
use Rattle.std.specs.Prelude.{count_by, sum_by, nat_lt, if◌then◌else◌}

-- how often the number stands in the list
abbrev pub times : ℕ → List ℕ → ℕ
times b xs = count_by (λ x. x == b) xs

-- the lists together have each number below the limit exactly once, and no other number
abbrev pub EachOnceBelow : ℕ → List (List ℕ) → Type 0
EachOnceBelow limit lists = (b : ℕ) → sum_by (times b) lists ≡ (if nat_lt b limit then 1 else 0)

-- each number is less than all that follow it
abbrev pub IsRising : List ℕ → Type 0
IsRising [] = Unit {0}
IsRising (x ∷ xs) = All (λ y. x < y) xs × IsRising xs

-- a rising list with a further number in its place
abbrev pub with_number : ℕ → List ℕ → List ℕ
with_number x [] = x ∷ []
with_number x (y ∷ ys) = if nat_lt x y then x ∷ y ∷ ys else y ∷ with_number x ys

-- two rising lists as one
abbrev pub merged : List ℕ → List ℕ → List ℕ
merged [] ys = ys
merged (x ∷ xs) ys = with_number x (merged xs ys)
