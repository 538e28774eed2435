-- The numbers of passes. The first pass has 0, and a new pass takes its number from the pass that it is split
-- from alone.
use Rattle.std.specs.Prelude.{ℕ, zero, suc, ◌+◌, ◌*◌, List, [], ◌∷◌, ◌++◌, Bool, true, false, ◌≡◌}
use Rattle.tree_shape.specs.Tree.{Has}

-- the number of the pass that is split n-th, from 0, from the pass with this number: no two such numbers are
-- the same
abbrev pub child : ℕ → ℕ → ℕ
child number zero = 2 * number + 1
child number (suc n) = 2 * child number n

-- the number d is this one, or that of a pass which comes of its pass by splits
pub data Descends (number : ℕ) : ℕ → Type 0 where
  itself : {d : ℕ} → d ≡ number → Descends number d
  onward : {d : ℕ} (parent n : ℕ) → d ≡ child parent n → Descends number parent → Descends number d

-- no element comes twice
abbrev pub NoRepeats : List ℕ → Type 0
NoRepeats [] = Unit {0}
NoRepeats (x ∷ xs) = (Has x xs → ⊥) × NoRepeats xs

-- which passes a view stands for: whether it is some pass's, the number of that, how often it was split, the
-- numbers of all passes that were joined into it, and of all that were split from these
pub record Face : Type 0 where
  pub live : Bool
  pub number : ℕ
  pub splits : ℕ
  pub numbers : List ℕ
  pub born : List ℕ

abbrev pub parent_face : Face → Face
parent_face f = record f { splits = suc f.splits; born = child f.number f.splits ∷ f.born }

abbrev pub child_face : Face → Face
child_face f = record {
  live = true;
  number = child f.number f.splits;
  splits = 0;
  numbers =
      child f.number f.splits ∷ [];
  born = [];
}

abbrev pub joint_face : Face → Face → Face
joint_face f g = record f { numbers = f.numbers ++ g.numbers; born = f.born ++ g.born }

abbrev pub no_face : Face
no_face = record { live = false; number = 0; splits = 0; numbers = []; born = [] }
