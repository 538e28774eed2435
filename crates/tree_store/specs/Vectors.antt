-- Vectors of a store, and the trees that keep them.
use Rattle.std.specs.Prelude.{◌≡◌, ◌≢◌, ℕ, zero, suc, ◌+◌, ◌-◌, ◌*◌, ◌^◌, ◌<◌, ◌≤◌, List, ◌++◌, All, Option, Some}
use Rattle.std.specs.Prelude.{None, Bool, false, length, drop, slice_index, slice_index_or, option_map}
use Rattle.std.specs.Prelude.{if◌then◌else◌}
use Rattle.tree_shape.specs.Tree.{Has, Stands, RootStands}
use Rattle.tree_shape.specs.Changed.{IsChanged, IsMarked, marked_count, changed_count}
use Rattle.tdb_base.specs.History.{Vector}
use Rattle.tdb_base.specs.Fakes.{counted}
use Rattle.packed_word.specs.Word.{pair_of}
use Rattle.pair_rule.specs.declared.view.View.{View}
use Rattle.pair_rule.specs.declared.sizes.About.{About}
use Rattle.pair_rule.specs.declared.pass.PassOf.{PassOf}
use Rattle.pair_rule.specs.View.{Grown}
use Rattle.pair_rule.specs.Paths.{node_buckets, Blocked}
use Rattle.pair_rule.specs.Rest.{last_vector}

-- the vector has the store's slots, each below 2 ^ width
pub record IsVector (about : About) (v : Vector) : Type 0 where
  pub slots : length v ≡ about.slots
  pub below : All (λ x. x < 2 ^ about.width) v

-- a count, where it is told, that rose so many times by one, and stands still at its last value
abbrev pub raised : ℕ → Option ℕ → Option ℕ
raised zero count = count
raised (suc n) count = option_map counted (raised n count)

-- it rose some times, at most so many
abbrev pub RaisedWithin : ℕ → Option ℕ → Option ℕ → Type 0
RaisedWithin most old new = (n : ℕ) × (n ≤ most) × (new ≡ raised n old)

-- one for a position that is marked
abbrev pub mark_at : List Bool → ℕ → ℕ
mark_at marks position = if slice_index_or marks position false then 1 else 0

-- how many marks are set at this position and later ones
abbrev pub marks_from : ℕ → List Bool → ℕ
marks_from position marks = marked_count (drop position marks)

-- the index stands for a part of the vector at an inner position of its tree
abbrev pub IsInTree : About → List (ℕ × ℕ) → Vector → ℕ → Type 0
IsInTree about nodes v index = (position : ℕ) × (2 ≤ position) × (position < about.slots)
    × Stands about.width about.slots nodes v position index

-- at some inner position of the vector's tree a pair belongs for which there is no place: its whole path has
-- other pairs
pub record IsBlockedInside (about : About) (nodes : List (ℕ × ℕ)) (v : Vector) : Type 0 where
  pub position : ℕ
  pub inner : (2 ≤ position) × (position < about.slots)
  pub left : ℕ
  pub right : ℕ
  pub left_stands : Stands about.width about.slots nodes v (2 * position) left
  pub right_stands : Stands about.width about.slots nodes v (2 * position + 1) right
  pub blocked : Blocked (node_buckets about) nodes (pair_of about.width left right)

-- there is no place for the vector's root pair among the roots, of which this says for which pairs so
abbrev pub IsBlockedRoot : About → List (ℕ × ℕ) → (ℕ → Type 0) → Vector → Type 0
IsBlockedRoot about nodes IsBlocked v = (pair : ℕ) × RootStands about.width about.slots nodes pair v
    × IsBlocked pair

-- how many inner positions a vector's tree has to be put at: those above a slot in which it differs from the
-- last vector, or all
abbrev pub puts_after : About → Option Vector → Vector → ℕ
puts_after about (Some last) v = changed_count about.slots last v
puts_after about None v = about.slots - 2

-- at each inner position that is not marked the vector in a new tree has the slots below that the old one has
abbrev pub MarksChanges : About → List Bool → List ℕ → List ℕ → Type 0
MarksChanges about marks last next =
    (position : ℕ) → 2 ≤ position → position < about.slots → (IsMarked marks position → ⊥)
    → IsChanged about.slots (drop about.slots last) (drop about.slots next) position → ⊥

-- no position from one on and before another is marked
abbrev pub NoneMarked : List Bool → ℕ → ℕ → Type 0
NoneMarked marks from end = (p : ℕ) → from ≤ p → p < end → IsMarked marks p → ⊥

-- the last inner position before the end that is marked
pub record IsLastMarked (marks : List Bool) (end p : ℕ) : Type 0 where
  pub inner : 2 ≤ p
  pub before : p < end
  pub marked : IsMarked marks p
  pub none_later : NoneMarked marks (p + 1) end

-- a tree of so many slots has the inner positions of another one, and its own slots
pub record IsTakenOver (slots : ℕ) (last old new : List ℕ) : Type 0 where
  pub long : length new ≡ 2 * slots
  pub slots_stay : drop slots new ≡ drop slots old
  pub inner : (p : ℕ) → 2 ≤ p → p < slots → slice_index new p ≡ slice_index last p

-- at all positions but one a tree is as it was
abbrev pub KeepsOthers : ℕ → List ℕ → List ℕ → Type 0
KeepsOthers p old new = (q : ℕ) → q ≢ p → slice_index new q ≡ slice_index old q

-- the vector in the slots of a tree
abbrev pub slots_of : About → List ℕ → Vector
slots_of about tree = drop about.slots tree

-- the tree that is being put stands at the positions from this one on
abbrev pub StandsFrom : About → Vector → ℕ → List (ℕ × ℕ) → List ℕ → Type 0
StandsFrom about v first nodes tree = (position : ℕ) → first ≤ position → position < 2 * about.slots
    → Stands about.width about.slots nodes v position (slice_index tree position)

-- the tree that is being read stands at the positions before this one
abbrev pub StandsTo : About → Vector → ℕ → List (ℕ × ℕ) → List ℕ → Type 0
StandsTo about v end nodes tree = (position : ℕ) → 2 ≤ position → position < end
    → Stands about.width about.slots nodes v position (slice_index tree position)

module _ {T : Type 0} where
  -- the new view put some nodes of the vector's tree, at most so many, and no others
  pub record Gained (about : About) (v : Vector) (most : ℕ) (old new : View T) : Type 0 where
    pub more : List ℕ
    pub made : new.made ≡ more ++ old.made
    pub few : length more ≤ most
    pub in_tree : (index : ℕ) → Has index more → IsInTree about new.known v index

  -- so many puts of nodes of the vector's tree
  pub record Building (about : About) (v : Vector) (puts : ℕ) (old new : View T) : Type 0 where
    pub grown : Grown old new
    pub gained : Gained about v puts old new
    pub probes_are : new.probes ≡ old.probes + puts

  -- so many puts and one that found no place, all in all at most so many
  pub record Refused (about : About) (v : Vector) (most : ℕ) (old new : View T) : Type 0 where
    pub puts : ℕ
    pub fewer : puts < most
    pub grown : Grown old new
    pub gained : Gained about v puts old new
    pub probes_are : new.probes ≡ old.probes + (puts + 1)
    pub blocked : IsBlockedInside about new.known v

  -- the vector with which a new one is compared: that of the last tree if this is asked for, or none
  abbrev pub compared : Bool → PassOf T → Option Vector
  compared from_last p = if from_last then last_vector p else None

  -- all of the pass but its view, its count of nodes and its scratch is as it was
  abbrev pub KeepsLast : PassOf T → PassOf T → Type 0
  KeepsLast old new = new ≡ record old {
    seat = new.seat;
    nodes_count = new.nodes_count;
    next_tree = new.next_tree;
    marks = new.marks;
  }
