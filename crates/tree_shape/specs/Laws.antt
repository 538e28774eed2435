-- The laws of trees of pairs.
use Rattle.std.specs.Prelude.{◌≡◌, ℕ, ◌+◌, ◌*◌, ◌^◌, ◌-◌, ◌<◌, ◌≤◌, ◌↔◌, IsTrue, List, length, slice_index}
use Rattle.tree_shape.specs.Changed.{DiffersBelow, IsChanged, is_changed}
use Rattle.tree_shape.specs.Tree.{left_part, right_part, IsNaming, IsPart, Stands, IsIndexOfParts, RootStands}

-- a pair as one number has its left part above its right part
abbrev pub PartsOfPair : Type 0
PartsOfPair =
    (width left right : ℕ) → right < 2 ^ width
    → (left_part width (left * 2 ^ width + right) ≡ left)
    × (right_part width (left * 2 ^ width + right) ≡ right)

-- at a slot's position exactly the slot stands for it
abbrev pub StandsAtSlot : Type 0
StandsAtSlot =
    (width slots : ℕ) (nodes : List (ℕ × ℕ)) (vector : List ℕ) (p x : ℕ) → slots ≤ p
    → Stands width slots nodes vector p x ↔ (x ≡ slice_index vector (p - slots))

-- at an inner position exactly the indexes of the pairs stand whose parts stand below
abbrev pub StandsAtPair : Type 0
StandsAtPair =
    (width slots : ℕ) (nodes : List (ℕ × ℕ)) (vector : List ℕ) (p x : ℕ) → p < slots
    → Stands width slots nodes vector p x ↔ IsIndexOfParts width slots nodes vector p x

-- over a naming, a root pair stands for at most one vector
abbrev pub OneVector : Type 0
OneVector =
    (width slots : ℕ) (nodes : List (ℕ × ℕ)) (pair : ℕ) (u v : List ℕ) → 2 ≤ slots → IsNaming nodes
    → length u ≡ slots
    → length v ≡ slots → RootStands width slots nodes pair u → RootStands width slots nodes pair v → u ≡ v

-- over a naming, a vector has at most one root pair
abbrev pub OneRoot : Type 0
OneRoot =
    (width slots : ℕ) (nodes : List (ℕ × ℕ)) (pair other : ℕ) (vector : List ℕ) → IsNaming nodes
    → RootStands width slots nodes pair vector → RootStands width slots nodes other vector → pair ≡ other

-- over a naming, one position has at most one number for a vector
abbrev pub OneNumber : Type 0
OneNumber =
    (width slots : ℕ) (nodes : List (ℕ × ℕ)) (vector : List ℕ) (p x y : ℕ) → IsNaming nodes
    → Stands width slots nodes vector p x → Stands width slots nodes vector p y → x ≡ y

-- more nodes keep what a number stands for
abbrev pub StandsWithMore : Type 0
StandsWithMore =
    (width slots : ℕ) (nodes more : List (ℕ × ℕ)) (vector : List ℕ) (p x : ℕ) → IsPart nodes more
    → Stands width slots nodes vector p x → Stands width slots more vector p x

-- more nodes keep what a root pair stands for
abbrev pub RootStandsWithMore : Type 0
RootStandsWithMore =
    (width slots : ℕ) (nodes more : List (ℕ × ℕ)) (pair : ℕ) (vector : List ℕ) → IsPart nodes more
    → RootStands width slots nodes pair vector → RootStands width slots more pair vector

-- a number that stands for a part of one vector stands for that of another that has the same slots there
abbrev pub StandsWhereSame : Type 0
StandsWhereSame =
    (width slots : ℕ) (nodes : List (ℕ × ℕ)) (u v : List ℕ) (p x : ℕ) → length u ≡ slots → length v ≡ slots
    → (DiffersBelow slots u v p → ⊥) → Stands width slots nodes u p x → Stands width slots nodes v p x

-- the test of the changed set answers whether a position is in it
abbrev pub TestsChanged : Type 0
TestsChanged = (k : ℕ) (u v : List ℕ) (p : ℕ) → IsTrue (is_changed k u v p) ↔ IsChanged k u v p
