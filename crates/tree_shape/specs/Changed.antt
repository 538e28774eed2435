-- The changed set of two vectors: the inner positions whose pairs can differ in their trees.
use Rattle.std.specs.Prelude.{◌≡◌, ◌≢◌, ℕ, zero, suc, ◌+◌, ◌/◌, ◌^◌, ◌<◌, ◌≤◌, Bool, true, false, not, ◌&&◌}
use Rattle.std.specs.Prelude.{◌||◌, ◌==◌, nat_lt, nat_le, List, slice_index, slice_index_or, count_by}
use Rattle.std.specs.List.{range_with_len}
use Rattle.tree_shape.specs.Positions.{IsAbove}

-- the vectors differ in slot j
abbrev pub DiffersAt : List ℕ → List ℕ → ℕ → Type 0
DiffersAt u v j = slice_index u j ≢ slice_index v j

-- from slot j on the vectors are the same in all slots before the end
abbrev pub AreSame : List ℕ → List ℕ → ℕ → ℕ → Type 0
AreSame u v j end = (i : ℕ) → j ≤ i → i < end → slice_index u i ≡ slice_index v i

-- the vectors of k slots differ in a slot that the position p is above
abbrev pub DiffersBelow : ℕ → List ℕ → List ℕ → ℕ → Type 0
DiffersBelow k u v p = (j : ℕ) × (j < k) × DiffersAt u v j × IsAbove p (k + j)

-- p is in the changed set of the vectors of k slots: an inner position above a slot in which they differ
abbrev pub IsChanged : ℕ → List ℕ → List ℕ → ℕ → Type 0
IsChanged k u v p = (2 ≤ p) × (p < k) × DiffersBelow k u v p

-- some number below n passes the test
abbrev pub any_below : (ℕ → Bool) → ℕ → Bool
any_below test zero = false
any_below test (suc n) = test n || any_below test n

-- halving q some number of times, fewer than k, gives p
abbrev pub is_above : ℕ → ℕ → ℕ → Bool
is_above k p q = any_below (λ n. q / 2 ^ n == p) k

-- the test of `IsChanged`, that tries the slots and the halvings in turn
unfoldable pub is_changed : ℕ → List ℕ → List ℕ → ℕ → Bool
is_changed k u v p =
    nat_le 2 p && nat_lt p k && any_below
    (λ j. not (slice_index u j == slice_index v j) && is_above k p (k + j)) k

-- the size of the changed set
unfoldable pub changed_count : ℕ → List ℕ → List ℕ → ℕ
changed_count k u v = count_by (is_changed k u v) (range_with_len 0 k)

-- the mark of the position p is set
abbrev pub IsMarked : List Bool → ℕ → Type 0
IsMarked marks p = slice_index_or marks p false ≡ true

-- how many marks are set
abbrev pub marked_count : List Bool → ℕ
marked_count marks = count_by (λ mark. mark) marks
