-- A set of vectors with flags, told as the history of the calls on it.
use Rattle.std.specs.Prelude.{◌+◌, ◌-◌, ◌/◌, ◌%◌, ◌^◌, ◌==◌, ◌&&◌, ℕ, Bool, true, false, List, Option, Some}
use Rattle.std.specs.Prelude.{None, fold, filter, if◌then◌else◌, option_map}
use Rattle.std.specs.Str.{bytes_eq}

-- a state: its slots, each a number
abbrev pub Vector : Type 0
Vector = List ℕ

-- what a call did with its vector: it found or put it, and says whether it was fresh; it set or cleared a
-- flag, and says whether the flag changed; or it read the flags
pub data Act : Type 0 where
  Put : Bool → Act
  Set : ℕ → Bool → Act
  Clear : ℕ → Bool → Act
  Look : ℕ → Act

-- one call: who made it, what it did, with which vector, and the vector's identifier
pub record Entry : Type 0 where
  pub caller : ℕ
  pub act : Act
  pub vector : Vector
  pub id : ℕ

-- the calls on one set, the oldest first
abbrev pub History : Type 0
History = List Entry

-- whether two vectors are the same
abbrev pub same : Vector → Vector → Bool
same = bytes_eq

-- the act gives its vector a name
abbrev pub is_fresh : Act → Bool
is_fresh (Put fresh) = fresh
is_fresh (Set bit first) = false
is_fresh (Clear bit first) = false
is_fresh (Look flags) = false

-- the entry gives this vector a name
abbrev pub names : Entry → Vector → Bool
names e v = is_fresh e.act && same e.vector v

-- the identifier of a vector, if it has one: the last entry that names it decides
unfoldable pub name_of : History → Vector → Option ℕ
name_of h v = fold (λ now e. if names e v then Some e.id else now) None h

-- whether a number's bit is set, and the number with that bit set or cleared
abbrev pub has_bit : ℕ → ℕ → Bool
has_bit n bit = n / 2 ^ bit % 2 == 1

abbrev pub with_bit : ℕ → ℕ → ℕ
with_bit n bit = if has_bit n bit then n else n + 2 ^ bit

abbrev pub without_bit : ℕ → ℕ → ℕ
without_bit n bit = if has_bit n bit then n - 2 ^ bit else n

-- a vector's flags after an act on it
abbrev pub flags_after : Act → Option ℕ → Option ℕ
flags_after (Put true) flags = Some 0
flags_after (Put false) flags = flags
flags_after (Set bit first) flags = option_map (λ n. with_bit n bit) flags
flags_after (Clear bit first) flags = option_map (λ n. without_bit n bit) flags
flags_after (Look n) flags = flags

-- the flags of a vector, as one number, if it has a name
unfoldable pub flags_of : History → Vector → Option ℕ
flags_of h v = fold (λ now e. if same e.vector v then flags_after e.act now else now) None h

-- the calls of one caller, in their order
abbrev pub calls : History → ℕ → History
calls h caller = filter (λ e. e.caller == caller) h
