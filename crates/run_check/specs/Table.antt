-- A hash table of lines that are answered new.
use Rattle.std.specs.Prelude.{◌≡◌, ◌≢◌, ◌<◌, ◌+◌, ◌*◌, ◌%◌, ◌/◌, ◌^◌, ℕ, Bool, true, false, List}
use Rattle.std.specs.Prelude.{Option, Some, None, bit_xor, length, fold, slice_index, slice_set}
use Rattle.tdb_base.specs.History.{Vector}
use Rattle.tdb_base.specs.declared.reply.Reply.{Reply}
use Rattle.tdb_base.specs.declared.reply.Reply.TheVariants as r
use Rattle.run_check.specs.Reached.{Line}
use Rattle.run_check.specs.declared.table.Key.{Key}
use Rattle.run_check.specs.declared.table.Key.TheVariants as k
use Rattle.run_check.specs.declared.table.Place.{Place}
use Rattle.run_check.specs.declared.table.Place.TheVariants as p

-- the line is answered new, and has this vector or this identifier
abbrev pub HasKey : List Vector → List Reply → ℕ → Key → Type 0
HasKey trace replies i (k.Vector v) = (id : ℕ) × Line trace replies i v.now (r.New id)
HasKey trace replies i (k.Identifier id) = (v : Vector) × Line trace replies i v (r.New id)

abbrev pub is_vector : Key → Bool
is_vector (k.Vector v) = true
is_vector (k.Identifier id) = false

abbrev pub mixed : ℕ → ℕ → ℕ
mixed h x = (h * 0x9E37_79B9_7F4A_7C15 + x) % 2 ^ 64

unfoldable pub vector_hash : Vector → ℕ
vector_hash v = fold mixed 0 v

-- a number whose low half also has what its high half has
abbrev pub folded_key : ℕ → ℕ
folded_key h = bit_xor h (h / 2 ^ 32)

-- the high half of a number that is folded_key and mixed twice, so that all its bits reach it and no multiples of
-- a number lie in steps
abbrev pub spread : ℕ → ℕ
spread h = mixed (folded_key (mixed (folded_key h) 0)) 0 / 2 ^ 32

abbrev pub key_hash : Key → ℕ
key_hash (k.Vector v) = spread (vector_hash v.now)
key_hash (k.Identifier id) = spread id

-- the slots of a table that are looked at for a hash, one after the other
abbrev pub probe : ℕ → ℕ → ℕ → ℕ
probe size hash step = (hash % size + step) % size

-- the first slot for a hash that is free
pub record IsFree (slots : List ℕ) (hash slot : ℕ) : Type 0 where
  pub step : ℕ
  pub few : step < length slots
  pub place : slot ≡ probe (length slots) hash step
  pub empty : slice_index slots slot ≡ 0
  pub before : (t : ℕ) → t < step → slice_index slots (probe (length slots) hash t) ≢ 0

-- a slot has a line where it has the number after the line's
pub record HasSlot (slots : List ℕ) (hash line : ℕ) : Type 0 where
  pub step : ℕ
  pub few : step < length slots
  pub here : slice_index slots (probe (length slots) hash step) ≡ line + 1
  pub before : (t : ℕ) → t < step → slice_index slots (probe (length slots) hash t) ≢ 0

-- each line in a table is one of so many
abbrev pub AreWithin : ℕ → List ℕ → Type 0
AreWithin lines slots = (slot line : ℕ) → slice_index slots slot ≡ line + 1 → line < lines

-- a table has the lines below a number that are answered new, by their vectors or by their identifiers
pub record IsTableOf (trace : List Vector) (replies : List Reply) (i : ℕ) (vectors : Bool) (slots : List ℕ)
    : Type 0 where
  pub some : 0 < length slots
  pub within : AreWithin i slots
  pub there : (line : ℕ) (key : Key) → line < i → HasKey trace replies line key → is_vector key ≡ vectors
      → HasSlot slots (key_hash key) line

-- no line below a number has the key
abbrev pub NoneHas : List Vector → List Reply → ℕ → Key → Type 0
NoneHas trace replies i key = (line : ℕ) → line < i → HasKey trace replies line key → ⊥

-- the line that has the key, or none
abbrev pub IsLineOf : List Vector → List Reply → ℕ → Key → Option ℕ → Type 0
IsLineOf trace replies i key None = NoneHas trace replies i key
IsLineOf trace replies i key (Some line) = (line < i) × HasKey trace replies line key

abbrev pub line_of_place : Place → Option ℕ
line_of_place (p.Line line) = Some line
line_of_place (p.Free slot) = None
line_of_place p.Full = None

-- where the slot is free
abbrev pub IsRoom : List ℕ → ℕ → Place → Type 0
IsRoom slots hash (p.Line line) = Unit {0}
IsRoom slots hash (p.Free slot) = IsFree slots hash slot
IsRoom slots hash p.Full = Unit {0}

abbrev pub IsPlaceOf : List Vector → List Reply → ℕ → Key → List ℕ → Place → Type 0
IsPlaceOf trace replies i key slots place =
    IsLineOf trace replies i key (line_of_place place) × IsRoom slots (key_hash key) place

-- a line is put at a free place
abbrev pub StoredAt : List ℕ → Place → ℕ → List ℕ → Type 0
StoredAt old (p.Line other) line new = ⊥
StoredAt old (p.Free slot) line new = new ≡ slice_set old slot (line + 1)
StoredAt old p.Full line new = ⊥

-- what a search in a table finds, where it has the lines below a number
abbrev pub IsFound : List Vector → List Reply → Key → List ℕ → Place → Type 0
IsFound trace replies key slots place =
    (i : ℕ) → IsTableOf trace replies i (is_vector key) slots → IsPlaceOf trace replies i key slots place
