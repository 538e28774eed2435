-- What the numbers of a tree of pairs stand for.
use Rattle.std.specs.Prelude.{◌≡◌, ◌⊎◌, ℕ, ◌+◌, ◌-◌, ◌*◌, ◌/◌, ◌%◌, ◌^◌, ◌<◌, ◌≤◌, List, [], ◌∷◌, slice_index}

-- x is in the list
abbrev pub Has : {X : Type 0} → X → List X → Type 0
Has x [] = ⊥
Has x (y ∷ ys) = (x ≡ y) ⊎ Has x ys

-- A pair of two parts below 2 ^ width is one number: the left part times 2 ^ width, and the right part.
abbrev pub left_part : ℕ → ℕ → ℕ
left_part width pair = pair / 2 ^ width

abbrev pub right_part : ℕ → ℕ → ℕ
right_part width pair = pair % 2 ^ width

-- A finite map from indexes to pairs is a list of both, read by what it has. It names pairs where no index
-- has two pairs and no pair has two indexes.
pub record IsNaming (nodes : List (ℕ × ℕ)) : Type 0 where
  pub one_pair : (index pair other : ℕ) → Has (index, pair) nodes → Has (index, other) nodes → pair ≡ other
  pub one_index : (index other pair : ℕ) → Has (index, pair) nodes → Has (other, pair) nodes → index ≡ other

-- the map is a part of the other
abbrev pub IsPart : List (ℕ × ℕ) → List (ℕ × ℕ) → Type 0
IsPart nodes more = (index pair : ℕ) → Has (index, pair) nodes → Has (index, pair) more

-- The number x at the position p, from 2 on, stands for the part of the vector below p: at a slot's position
-- it is the slot, at an inner position it is the index of a pair whose parts stand for what is below them.
pub data Stands (width slots : ℕ) (nodes : List (ℕ × ℕ)) (vector : List ℕ) : ℕ → ℕ → Type 0 where
  slot : {p x : ℕ} → slots ≤ p → x ≡ slice_index vector (p - slots) → Stands width slots nodes vector p x
  node : {p x : ℕ} (pair : ℕ) → p < slots → Has (x, pair) nodes
      → Stands width slots nodes vector (2 * p) (left_part width pair)
      → Stands width slots nodes vector (2 * p + 1) (right_part width pair)
      → Stands width slots nodes vector p x

-- x is the index of a pair whose parts stand for what is below the position p
abbrev pub IsIndexOfParts : (width slots : ℕ) → List (ℕ × ℕ) → List ℕ → ℕ → ℕ → Type 0
IsIndexOfParts width slots nodes vector p x =
    (pair : ℕ) × Has (x, pair) nodes × Stands width slots nodes vector (2 * p) (left_part width pair)
    × Stands width slots nodes vector (2 * p + 1) (right_part width pair)

-- the root's pair stands for the whole vector
abbrev pub RootStands : (width slots : ℕ) → List (ℕ × ℕ) → ℕ → List ℕ → Type 0
RootStands width slots nodes pair vector =
    Stands width slots nodes vector 2 (left_part width pair)
    × Stands width slots nodes vector 3 (right_part width pair)
