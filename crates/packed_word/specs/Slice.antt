-- The bits of a slice of words of 64 bits.
use Rattle.std.specs.Prelude.{◌⊎◌, ℕ, zero, suc, ◌+◌, ◌*◌, ◌/◌, ◌%◌, ◌≤◌, List, slice_index}
use Rattle.std.specs.Int.{bit_at}

-- the bits are counted through the slice, 64 a word
unfoldable pub bit : List ℕ → ℕ → ℕ
bit words t = bit_at (slice_index words (t / 64)) (t % 64)

-- the number whose bits are the `width` bits from bit `at` on
unfoldable pub field : List ℕ → ℕ → ℕ → ℕ
field words at zero = 0
field words at (suc width) = bit words at + 2 * field words (suc at) width

-- two fields don't overlap
abbrev pub IsApart : ℕ → ℕ → ℕ → ℕ → Type 0
IsApart at width other other_width = (at + width ≤ other) ⊎ (other + other_width ≤ at)
