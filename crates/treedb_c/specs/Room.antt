-- How much room states need.
use Rattle.std.specs.Prelude.{◌≡◌, ◌≤◌, ◌<◌, ◌*◌, ◌-◌, ◌^◌, ◌⊎◌, ℕ, min}
use Rattle.pair_rule.specs.declared.sizes.Sizes.{Sizes}
use Rattle.treedb_c.specs.Calls.{HasProfile, AreSlots}
use Rattle.treedb_c.specs.declared.code.Code.{Code}
use Rattle.treedb_c.specs.declared.code.Code.TheVariants as c
use Rattle.treedb_c.specs.declared.room.Room.{Room}

-- the least number from 3 to a greatest one whose power of two reaches the need
pub record IsLeast (most need exponent : ℕ) : Type 0 where
  pub at_least : 3 ≤ exponent
  pub at_most : exponent ≤ most
  pub reaches : need ≤ 2 ^ exponent
  pub least : (q : ℕ) → 3 ≤ q → q < exponent → 2 ^ q < need

-- a vector's tree has an inner node for each slot but two
abbrev pub nodes_of : ℕ → ℕ → ℕ
nodes_of slots states = (slots - 2) * states

-- the most that the exponent of a node table can be in a profile
abbrev pub most_nodes : ℕ → ℕ
most_nodes profile = min profile 25

-- there is a place for each state and for each inner node of its tree, all places are searched, and no less
-- room has both
pub record IsRoomFor (profile slots states : ℕ) (room : Room) : Type 0 where
  pub nodes : IsLeast (most_nodes profile) (nodes_of slots states) room.nodes
  pub roots : IsLeast 24 states room.roots
  pub all_searched : room.probe ≡ 4194304

-- why there is no such room, the first of the reasons
abbrev pub HasNoRoom : Code → ℕ → ℕ → ℕ → Type 0
HasNoRoom c.BadProfile profile slots states = HasProfile profile → ⊥
HasNoRoom c.BadSlots profile slots states = HasProfile profile × (AreSlots slots → ⊥)
HasNoRoom c.TooMany profile slots states = HasProfile profile × AreSlots slots
    × ((2 ^ most_nodes profile < nodes_of slots states) ⊎ (2 ^ 24 < states))
HasNoRoom _ profile slots states = ⊥

-- the sizes of a store with this room
abbrev pub sizes_of : Room → Sizes
sizes_of room = record { nodes = room.nodes; roots = room.roots; region = 0; probe = room.probe }

-- what is answered: the room, or why there is none, and then what was to be written is as it was
abbrev pub IsAnsweredRoom : ℕ → ℕ → ℕ → Code → Room → Room → Type 0
IsAnsweredRoom profile slots states code old new =
    ((code ≡ c.Done) × HasProfile profile × AreSlots slots × IsRoomFor profile slots states new)
    ⊎ (HasNoRoom code profile slots states × (new ≡ old))
