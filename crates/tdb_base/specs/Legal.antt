-- Which histories a set of vectors with flags can have, and when one goes on from another.
use Rattle.std.specs.Prelude.{◌≡◌, ◌≢◌, ◌<◌, ◌++◌, ◌∷◌, ℕ, Bool, true, false, not, Some, None, Contains}
use Rattle.tdb_base.specs.History.{Vector, Act, Put, Set, Clear, Look, Entry, History, name_of, flags_of}
use Rattle.tdb_base.specs.History.{has_bit}

-- an act that may come next: a fresh one takes a vector that has no name and an identifier that names no
-- vector; every other one is on a named vector, by its name, and tells its flags as they are. The vectors
-- have so many flags
abbrev pub Allows : ℕ → History → Vector → ℕ → Act → Type 0
Allows flag_count h v id (Put true) = (name_of h v ≡ None) × ((w : Vector) → name_of h w ≢ Some id)
Allows flag_count h v id (Put false) = name_of h v ≡ Some id
Allows flag_count h v id (Set bit first) = (name_of h v ≡ Some id) × (bit < flag_count)
    × ((flags : ℕ) × (flags_of h v ≡ Some flags) × (first ≡ not (has_bit flags bit)))
Allows flag_count h v id (Clear bit first) = (name_of h v ≡ Some id) × (bit < flag_count)
    × ((flags : ℕ) × (flags_of h v ≡ Some flags) × (first ≡ has_bit flags bit))
Allows flag_count h v id (Look flags) = (name_of h v ≡ Some id) × (flags_of h v ≡ Some flags)

-- each entry is one that may come after those before it
pub record IsLegal (flag_count : ℕ) (h : History) : Type 0 where
  pub each : (before : History) (e : Entry) (after : History) → h ≡ before ++ e ∷ after
      → Allows flag_count before e.vector e.id e.act

-- the later history begins with the earlier one
pub record Extends (earlier later : History) : Type 0 where
  pub more : History
  pub whole : later ≡ earlier ++ more

-- a name is kept for good
abbrev pub KeepsNames : ℕ → History → Type 0
KeepsNames flag_count h = (later : History) → IsLegal flag_count later → Extends h later
    → (v : Vector) (id : ℕ) → name_of h v ≡ Some id → name_of later v ≡ Some id

-- no entry sets, clears or reads flags
abbrev pub PutsOnly : History → Type 0
PutsOnly h = (e : Entry) → Contains h e → (fresh : Bool) × (e.act ≡ Put fresh)

-- some entry gave the vector this name
pub record IsNamedIn (h : History) (v : Vector) (id : ℕ) : Type 0 where
  pub entry : Entry
  pub there : Contains h entry
  pub fresh : entry.act ≡ Put true
  pub vector : entry.vector ≡ v
  pub named : entry.id ≡ id
