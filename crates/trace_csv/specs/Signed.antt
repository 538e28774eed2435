-- Signed numbers from -2 ^ 31 to 2 ^ 31 - 1, each kept as two slots of 16 bits.
use Rattle.std.specs.Prelude.{◌≡◌, ◌+◌, ◌*◌, ◌/◌, ◌%◌, ◌^◌, ◌<◌, ◌&&◌, ℕ, ℤ, pos, negsuc, Bool, true, List, [], ◌∷◌, int_le}
use Rattle.std.specs.Prelude.{All, length}
use Rattle.std.specs.Int.{cast_signed, cast_unsigned, w32}
use Rattle.std.specs.List.{flat_map, list_all}

abbrev pub is_signed : ℤ → Bool
is_signed z = int_le (negsuc 2147483647) z && int_le z (pos 2147483647)

-- the high and the low 16 bits of a word of 32 bits
abbrev pub halves_of_word : ℕ → List ℕ
halves_of_word word = word / 65536 ∷ word % 65536 ∷ []

-- the halves of a vector's numbers, each number taken modulo 2 ^ 32
abbrev pub halves : List ℤ → List ℕ
halves vector = flat_map (λ z. halves_of_word (cast_unsigned w32 z)) vector

-- the signed numbers that have these halves
unfoldable pub signed_of : List ℕ → List ℤ
signed_of [] = []
signed_of (half ∷ []) = []
signed_of (high ∷ low ∷ rest) = cast_signed w32 (high * 65536 + low) ∷ signed_of rest

-- the slots are the halves of a signed vector
pub record AreHalves (line : List ℕ) : Type 0 where
  pub vector : List ℤ
  pub signed : list_all is_signed vector ≡ true
  pub is : line ≡ halves vector

-- the halves of a signed vector tell it, and slots of 16 bits, two for each number, are the halves of the
-- signed vector that they tell
abbrev pub ToldByHalves : Type 0
ToldByHalves = (v : List ℤ) → list_all is_signed v ≡ true → signed_of (halves v) ≡ v

abbrev pub HalvesOfTold : Type 0
HalvesOfTold = (slots : List ℕ) → length slots % 2 ≡ 0 → All (λ n. n < 65536) slots
    → (halves (signed_of slots) ≡ slots) × (list_all is_signed (signed_of slots) ≡ true)

-- different signed vectors have different halves
abbrev pub OneSignedVector : Type 0
OneSignedVector =
    (v w : List ℤ) → list_all is_signed v ≡ true → list_all is_signed w ≡ true → halves v ≡ halves w → v ≡ w
