-- What a full answer says of a table whose lines are all searched: each of its places is taken.
use Rattle.std.specs.Prelude.{◌≡◌, ℕ, ◌<◌, ◌^◌, Some, ⊤}
use Rattle.tree_shape.specs.Tree.{Has}
use Rattle.tdb_base.specs.History.{Vector, name_of}
use Rattle.tdb_base.specs.declared.reply.Reply.{Reply}
use Rattle.tdb_base.specs.declared.reply.Reply.TheVariants as r
use Rattle.pair_rule.specs.Rest.{view}
use Rattle.treedb_c.specs.Holding.{Holding}

-- a node stands in each place of the table of nodes, and the pass knows it
abbrev pub HasAllNodes : Holding → Type 0
HasAllNodes h = (i : ℕ) → i < 2 ^ h.store.about.sizes.nodes → (pair : ℕ) × Has (i, pair) (view h.pass).known

-- each identifier below 2 ^ roots is some vector's
abbrev pub HasAllNames : Holding → Type 0
HasAllNames h = (id : ℕ) → id < 2 ^ h.store.about.sizes.roots
    → (v : Vector) × (name_of (view h.pass).seen v ≡ Some id)

-- what a full answer says of its table, where all lines are searched
abbrev pub IsTakenUp : Reply → Holding → Type 0
IsTakenUp (r.New id) after = ⊤
IsTakenUp (r.Seen id) after = ⊤
IsTakenUp r.FullNodes after = after.store.about.sizes.probe ≡ 4194304 → HasAllNodes after
IsTakenUp r.FullRoots after = after.store.about.sizes.probe ≡ 4194304 → HasAllNames after
