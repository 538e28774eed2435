-- The word of a bucket: a number below 2 ^ 64 with a right part, a left part, flags and the present bit.
use Rattle.std.specs.Prelude.{◌≡◌, ℕ, ◌+◌, ◌-◌, ◌*◌, ◌/◌, ◌%◌, ◌^◌, ◌<◌, ◌≤◌, bit_or}
use Rattle.std.specs.Int.{bit_at}

-- two parts of `width` bits each, some flags and the present bit fit a word
abbrev pub IsLayout : ℕ → ℕ → Type 0
IsLayout width flags = (1 ≤ width) × (width ≤ 31) × (1 ≤ flags) × (2 * width + flags + 1 ≤ 64)

-- the parts of a word, from the least bits up
abbrev pub right_of : ℕ → ℕ → ℕ
right_of width word = word % 2 ^ width

abbrev pub left_of : ℕ → ℕ → ℕ
left_of width word = word / 2 ^ width % 2 ^ width

abbrev pub flag_bits : ℕ → ℕ → ℕ → ℕ
flag_bits width flags word = word / 2 ^ (2 * width) % 2 ^ flags

-- what is above the flags: the present bit, and bits that are 0
abbrev pub above_flags : ℕ → ℕ → ℕ → ℕ
above_flags width flags word = word / 2 ^ (2 * width + flags)

-- bit 63 is set
abbrev pub IsPresent : ℕ → Type 0
IsPresent word = bit_at word 63 ≡ 1

-- the pair as one number, the left part times 2 ^ width and the right part
abbrev pub pair_of : ℕ → ℕ → ℕ → ℕ
pair_of width left right = left * 2 ^ width + right

-- a number with bit k set, and with it cleared
abbrev pub with_bit : ℕ → ℕ → ℕ
with_bit n k = bit_or n (2 ^ k)

abbrev pub without_bit : ℕ → ℕ → ℕ
without_bit n k = n - bit_at n k * 2 ^ k

-- the present word of a pair, given as one number, with the flags of a number
abbrev pub word_of : ℕ → ℕ → ℕ → ℕ
word_of width value pair = 2 ^ 63 + value * 2 ^ (2 * width) + pair

-- the new word has these flags, and all else of the old one
pub record ChangesFlags (width flags old new after : ℕ) : Type 0 where
  pub right : right_of width new ≡ right_of width old
  pub left : left_of width new ≡ left_of width old
  pub flags_after : flag_bits width flags new ≡ after
  pub present : bit_at new 63 ≡ bit_at old 63
  pub above : above_flags width flags new ≡ above_flags width flags old
  pub small : new < 2 ^ 64

-- the parts of a present word below 2 ^ 64: the pair's, these flags, and 0 between them and the present bit
pub record IsWordOf (width flags value pair word : ℕ) : Type 0 where
  pub right : right_of width word ≡ pair % 2 ^ width
  pub left : left_of width word ≡ pair / 2 ^ width
  pub flags_are : flag_bits width flags word ≡ value
  pub present : IsPresent word
  pub above : above_flags width flags word ≡ 2 ^ (63 - (2 * width + flags))
  pub small : word < 2 ^ 64
