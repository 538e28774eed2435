-- The positions of a tree of pairs over k slots. Position 1 is the root, the parts of the pair at a position
-- p below k come from the positions 2 * p and 2 * p + 1, and the position k + j holds slot j.
use Rattle.std.specs.Prelude.{◌≡◌, ℕ, ◌/◌, ◌^◌, ◌≤◌}

-- the position p is above the position q: halving q some number of times gives p
abbrev pub IsAbove : ℕ → ℕ → Type 0
IsAbove p q = (n : ℕ) × (q / 2 ^ n ≡ p)

-- d is the logarithm of k to the base 2, rounded up: the least number of doublings of 1 that reach k
abbrev pub IsDepth : ℕ → ℕ → Type 0
IsDepth k d = (k ≤ 2 ^ d) × ((e : ℕ) → k ≤ 2 ^ e → d ≤ e)
