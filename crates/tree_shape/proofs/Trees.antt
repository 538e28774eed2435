-- What numbers stand for: one number for a vector, one vector for a root pair, and more nodes keep both.
use Rattle.std.proofs.Common.{◌≡◌, ℕ, ◌+◌, ◌-◌, ◌*◌, ◌^◌, ◌<◌, ◌≤◌, List, length, get_or, sym, ◌∙◌, subst, ⊎_elim, arith}
use Rattle.std.proofs.lemmas.Nat.{shr_split}
use Rattle.std.proofs.lemmas.Bool.{cases_lt, cases_eq}
use Rattle.std.proofs.lemmas.List.{get_or_past}
use Rattle.std.proofs.lemmas.Grind.{same_number_lists}
use Rattle.tree_shape.specs.Positions.{IsAbove}
use Rattle.tree_shape.specs.Changed.{DiffersBelow}
use Rattle.tree_shape.specs.Tree.{Has, left_part, right_part, IsNaming, IsPart, Stands, slot, node, IsIndexOfParts, RootStands}
use Rattle.tree_shape.proofs.Places.{above_left, above_right, below_part, slot_alone, below_root}

-- a pair is its parts
same_pair : (width pair other : ℕ) → left_part width pair ≡ left_part width other → right_part width pair ≡ right_part width other → pair ≡ other
same_pair width pair other lefts rights = sym (shr_split pair width) ∙ (λ i. lefts i * 2 ^ width + rights i) ∙ shr_split other width

-- by cases
pub at_slot : (width slots : ℕ) (nodes : List (ℕ × ℕ)) (vector : List ℕ) (p x : ℕ) → slots ≤ p → Stands width slots nodes vector p x → x ≡ get_or vector (p - slots) 0
at_slot width slots nodes vector p x leaf (slot _ e) = e
at_slot width slots nodes vector p x leaf (node pair inner has l r) = absurd (omega arith)

pub at_pair : (width slots : ℕ) (nodes : List (ℕ × ℕ)) (vector : List ℕ) (p x : ℕ) → p < slots → Stands width slots nodes vector p x → IsIndexOfParts width slots nodes vector p x
at_pair width slots nodes vector p x inner (slot leaf e) = absurd (omega arith)
at_pair width slots nodes vector p x inner (node pair _ has l r) = (pair, has, l, r)

-- more nodes
pub stands_more : (width slots : ℕ) (nodes more : List (ℕ × ℕ)) (vector : List ℕ) (p x : ℕ) → IsPart nodes more → Stands width slots nodes vector p x → Stands width slots more vector p x
stands_more width slots nodes more vector p x part (slot leaf e) = slot leaf e
stands_more width slots nodes more vector p x part (node pair inner has l r) =
    node pair inner (part x pair has) (stands_more width slots nodes more vector (2 * p) (left_part width pair) part l) (stands_more width slots nodes more vector (2 * p + 1) (right_part width pair) part r)

-- the same slots below
pub stands_same : (width slots : ℕ) (nodes : List (ℕ × ℕ)) (u v : List ℕ) (p x : ℕ) → ((j : ℕ) → IsAbove p (slots + j) → get_or u j 0 ≡ get_or v j 0) → Stands width slots nodes u p x → Stands width slots nodes v p x
stands_same width slots nodes u v p x same (slot leaf e) = slot leaf (e ∙ same (p - slots) (0, omega arith))
stands_same width slots nodes u v p x same (node pair inner has l r) =
    node pair inner has
    (stands_same width slots nodes u v (2 * p) (left_part width pair) (λ j h. same j (above_left p (slots + j) h)) l)
    (stands_same width slots nodes u v (2 * p + 1) (right_part width pair) (λ j h. same j (above_right p (slots + j) h)) r)

-- vectors that don't differ below a position have the same slots there
pub same_slots : (slots : ℕ) (u v : List ℕ) (p : ℕ) → length u ≡ slots → length v ≡ slots → (DiffersBelow slots u v p → ⊥) → (j : ℕ) → IsAbove p (slots + j) → get_or u j 0 ≡ get_or v j 0
same_slots slots u v p long_u long_v none j above = ⊎_elim
    (λ (lt : j < slots). ⊎_elim (λ (same : get_or u j 0 ≡ get_or v j 0). same) (λ (other : get_or u j 0 ≡ get_or v j 0 → ⊥). absurd (none (j, lt, other, above))) (cases_eq (get_or u j 0) (get_or v j 0)))
    (λ (past : slots ≤ j). get_or_past u j 0 (omega arith) ∙ sym (get_or_past v j 0 (omega arith)))
    (cases_lt j slots)

module _ (width slots : ℕ) (nodes : List (ℕ × ℕ)) (naming : IsNaming nodes) where
  -- one number at a position for a vector
  pub one_number : (vector : List ℕ) (p x y : ℕ) → Stands width slots nodes vector p x → Stands width slots nodes vector p y → x ≡ y
  one_number vector p x y (slot leaf e) (slot _ d) = e ∙ sym d
  one_number vector p x y (slot leaf e) (node other inner has l r) = absurd (omega arith)
  one_number vector p x y (node pair inner has l r) (slot leaf e) = absurd (omega arith)
  one_number vector p x y (node pair inner has l r) (node other _ had m s) =
      let lefts = one_number vector (2 * p) (left_part width pair) (left_part width other) l m in
      let rights = one_number vector (2 * p + 1) (right_part width pair) (right_part width other) r s in
      naming.one_index x y other (subst (λ (n : ℕ). Has (x, n) nodes) (same_pair width pair other lefts rights) has) had

  pub one_root : (pair other : ℕ) (vector : List ℕ) → RootStands width slots nodes pair vector → RootStands width slots nodes other vector → pair ≡ other
  one_root pair other vector h k =
      same_pair width pair other (one_number vector 2 (left_part width pair) (left_part width other) h.0 k.0) (one_number vector 3 (right_part width pair) (right_part width other) h.1 k.1)

  -- one value of each slot below a position for a number
  one_slot : (u v : List ℕ) (p x j : ℕ) → j < slots → IsAbove p (slots + j) → Stands width slots nodes u p x → Stands width slots nodes v p x → get_or u j 0 ≡ get_or v j 0
  one_slot u v p x j lt above (slot leaf e) (slot _ d) =
      let here : p - slots ≡ j = omega (arith, slot_alone slots p j leaf lt above) in
      subst (λ (m : ℕ). get_or u m 0 ≡ get_or v m 0) here (sym e ∙ d)
  one_slot u v p x j lt above (slot leaf e) (node other inner has l r) = absurd (omega arith)
  one_slot u v p x j lt above (node pair inner has l r) (slot leaf e) = absurd (omega arith)
  one_slot u v p x j lt above (node pair inner has l r) (node other _ had m s) =
      let same : other ≡ pair = naming.one_pair x other pair had has in
      ⊎_elim
      (λ (a : IsAbove (2 * p) (slots + j)). one_slot u v (2 * p) (left_part width pair) j lt a l (subst (λ (n : ℕ). Stands width slots nodes v (2 * p) (left_part width n)) same m))
      (λ (a : IsAbove (2 * p + 1) (slots + j)). one_slot u v (2 * p + 1) (right_part width pair) j lt a r (subst (λ (n : ℕ). Stands width slots nodes v (2 * p + 1) (right_part width n)) same s))
      (below_part p (slots + j) (omega arith) above)

  pub one_vector : (pair : ℕ) (u v : List ℕ) → 2 ≤ slots → length u ≡ slots → length v ≡ slots → RootStands width slots nodes pair u → RootStands width slots nodes pair v → u ≡ v
  one_vector pair u v some long_u long_v h k = same_number_lists u v (long_u ∙ sym long_v) (λ j lt. ⊎_elim
      (λ (a : IsAbove 2 (slots + j)). one_slot u v 2 (left_part width pair) j (omega arith) a h.0 k.0)
      (λ (a : IsAbove 3 (slots + j)). one_slot u v 3 (right_part width pair) j (omega arith) a h.1 k.1)
      (below_root (slots + j) (omega arith)))
