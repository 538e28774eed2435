-- The hash of a packed pair: five steps on numbers below 2 ^ (2 * w), where w is the width of one part.
use Rattle.std.specs.Prelude.{◌≡◌, ℕ, ◌*◌, ◌/◌, ◌%◌, ◌^◌, ◌<◌, bit_xor}

-- the two multipliers, both odd
abbrev pub first_multiplier : ℕ
first_multiplier = 0x9E3779B97F4A7C15

abbrev pub second_multiplier : ℕ
second_multiplier = 0xBF58476D1CE4E5B9

-- a number with its upper half xored onto its lower half
unfoldable pub folded : ℕ → ℕ → ℕ
folded w x = bit_xor x (x / 2 ^ w)

-- a product modulo 2 ^ (2 * w)
unfoldable pub scaled : ℕ → ℕ → ℕ → ℕ
scaled w multiplier x = x * multiplier % 2 ^ (2 * w)

-- the hash: fold, multiply, fold, multiply, fold
unfoldable pub mix_of : ℕ → ℕ → ℕ
mix_of w x = folded w (scaled w second_multiplier (folded w (scaled w first_multiplier (folded w x))))

-- no two numbers below the bound have one value
abbrev pub IsOneToOneBelow : ℕ → (ℕ → ℕ) → Type 0
IsOneToOneBelow bound f = (x y : ℕ) → x < bound → y < bound → f x ≡ f y → x ≡ y

-- each number below the bound is the value of one below it
abbrev pub IsOntoBelow : ℕ → (ℕ → ℕ) → Type 0
IsOntoBelow bound f = (y : ℕ) → y < bound → (x : ℕ) × (x < bound) × (f x ≡ y)
