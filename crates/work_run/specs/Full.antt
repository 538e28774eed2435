-- Why lines are answered full, and where the nodes come from.
use Rattle.std.specs.Prelude.{ℕ, List, Bool, true, false, count_by, ⊤}
use Rattle.tree_shape.specs.Tree.{Has}
use Rattle.tdb_base.specs.History.{Vector}
use Rattle.tdb_base.specs.declared.reply.Reply.{Reply}
use Rattle.tdb_base.specs.declared.reply.Reply.TheVariants as r
use Rattle.pair_rule.specs.declared.sizes.About.{About}
use Rattle.pair_rule.specs.Part.{Part}
use Rattle.tree_store.specs.Vectors.{IsInTree, IsBlockedInside, IsBlockedRoot}

-- a vector that is answered full has a pair for which there is no place: inside its tree, or its root
abbrev pub Barred : {T : Type 0} → Part T → About → (nodes roots : List (ℕ × ℕ)) → Vector → Reply → Type 0
Barred part about nodes roots v r.FullNodes = IsBlockedInside about nodes v
Barred part about nodes roots v r.FullRoots = IsBlockedRoot about nodes (part.is_full about roots) v
Barred part about nodes roots v (r.New id) = ⊤
Barred part about nodes roots v (r.Seen id) = ⊤

-- a pair inside the tree of the line's vector had no place
abbrev pub is_full_inside : Reply → Bool
is_full_inside r.FullNodes = true
is_full_inside r.FullRoots = false
is_full_inside (r.New id) = false
is_full_inside (r.Seen id) = false

-- how many lines were answered so
abbrev pub full_inside : List Reply → ℕ
full_inside replies = count_by is_full_inside replies

-- the index is that of an inner node in the tree of one of the vectors
abbrev pub IsOfOne : About → List (ℕ × ℕ) → List Vector → ℕ → Type 0
IsOfOne about nodes vectors index = (v : Vector) × Has v vectors × IsInTree about nodes v index

-- each node is in the tree of one of the vectors
abbrev pub AreOfVectors : About → List (ℕ × ℕ) → List Vector → Type 0
AreOfVectors about nodes vectors = (index pair : ℕ) → Has (index, pair) nodes
    → IsOfOne about nodes vectors index
