-- The laws of words and of fields.
use Rattle.std.specs.Prelude.{◌≡◌, ℕ, ◌+◌, ◌*◌, ◌^◌, ◌%◌, ◌<◌, ◌≢◌, List, bit_and, bit_or}
use Rattle.std.specs.Int.{bit_at, bit_not, w64}
use Rattle.packed_word.specs.Word.{IsLayout, left_of, right_of, pair_of, flag_bits, with_bit, without_bit}
use Rattle.packed_word.specs.Word.{word_of, IsWordOf, ChangesFlags}
use Rattle.packed_word.specs.Slice.{bit, field}

-- `|` with a flag's mask sets this flag, and changes nothing else
abbrev pub SetsFlag : Type 0
SetsFlag =
    (width flags b word : ℕ) → IsLayout width flags → b < flags → word < 2 ^ 64
    → ChangesFlags width flags word (bit_or word (2 ^ (2 * width + b)))
    (with_bit (flag_bits width flags word) b)

-- `&` with the complement of a flag's mask clears this flag, and changes nothing else
abbrev pub ClearsFlag : Type 0
ClearsFlag =
    (width flags b word : ℕ) → IsLayout width flags → b < flags → word < 2 ^ 64
    → ChangesFlags width flags word (bit_and word (bit_not w64 (2 ^ (2 * width + b))))
    (without_bit (flag_bits width flags word) b)

-- a number that is a word of a pair and flags has these parts
abbrev pub WordHasParts : Type 0
WordHasParts =
    (width flags value pair : ℕ) → IsLayout width flags → value < 2 ^ flags → pair < 2 ^ (2 * width)
    → IsWordOf width flags value pair (word_of width value pair)

-- and only this number has these parts
abbrev pub PartsMakeWord : Type 0
PartsMakeWord =
    (width flags value pair word : ℕ) → IsLayout width flags → value < 2 ^ flags → pair < 2 ^ (2 * width)
    → IsWordOf width flags value pair word → word ≡ word_of width value pair

-- the pair of a word as one number is its lowest bits
abbrev pub PairIsLowest : Type 0
PairIsLowest = (width word : ℕ)
    → word % 2 ^ (2 * width) ≡ pair_of width (left_of width word) (right_of width word)

-- to set a flag of such a word sets the bit of its flags' number
abbrev pub SetsFlagOfWord : Type 0
SetsFlagOfWord =
    (width flags b value pair : ℕ) → IsLayout width flags → b < flags → value < 2 ^ flags
    → pair < 2 ^ (2 * width)
    → bit_or (word_of width value pair) (2 ^ (2 * width + b)) ≡ word_of width (with_bit value b) pair

-- to clear a flag of such a word clears the bit of its flags' number
abbrev pub ClearsFlagOfWord : Type 0
ClearsFlagOfWord =
    (width flags b value pair : ℕ) → IsLayout width flags → b < flags → value < 2 ^ flags
    → pair < 2 ^ (2 * width)
    → bit_and (word_of width value pair) (bit_not w64 (2 ^ (2 * width + b))) ≡ word_of width
    (without_bit value b) pair

-- a flag is the bit of the flags' number, and the bit at its place in the word
abbrev pub FlagIsBit : Type 0
FlagIsBit =
    (width flags b word : ℕ) → b < flags → bit_at (flag_bits width flags word) b ≡ bit_at word (2 * width + b)

-- to set a bit makes it 1, and leaves each other bit
abbrev pub SetsBit : Type 0
SetsBit = (n k i : ℕ) → (bit_at (with_bit n k) k ≡ 1) × (i ≢ k → bit_at (with_bit n k) i ≡ bit_at n i)

-- to clear a bit makes it 0, and leaves each other bit
abbrev pub ClearsBit : Type 0
ClearsBit = (n k i : ℕ) → (bit_at (without_bit n k) k ≡ 0) × (i ≢ k → bit_at (without_bit n k) i ≡ bit_at n i)

-- a field is the number of its width whose bits are the slice's
abbrev pub FieldFits : Type 0
FieldFits = (words : List ℕ) (at width : ℕ) → field words at width < 2 ^ width

abbrev pub FieldHasBits : Type 0
FieldHasBits =
    (words : List ℕ) (at width i : ℕ) → i < width → bit_at (field words at width) i ≡ bit words (at + i)
