-- Inner positions that are taken over from the last tree, and those that are marked among them.
use Rattle.std.proofs.Common.{◌≡◌, ℕ, zero, suc, ◌+◌, ◌-◌, ◌*◌, ◌<◌, ◌≤◌, List, length, get_or, take, drop, Bool, sym, ap, ◌∙◌, subst, arith}
use Rattle.std.proofs.lemmas.List.{get_or-drop, get_or-take, drop_all}
use Rattle.std.specs.List.{between}
use Rattle.std.proofs.lemmas.Slice.{between_is, between-put_mid}
use borrow.Rule.Slice.PartMut.{put_mid}
use Rattle.std.specs.Prelude.{count_by, if◌then◌else◌}
use Rattle.tree_shape.specs.Changed.{IsMarked}
use Rattle.tree_store.specs.Vectors.{mark_at, marks_from, NoneMarked}
use Rattle.tree_store.proofs.Marks.{marks_step, unmarked}

-- an element of a part of a list
at_between : (a e p : ℕ) (l : List ℕ) → a ≤ p → p < e → get_or (between a e l) (p - a) 0 ≡ get_or l p 0
at_between a e p l low high =
    ap (λ (m : List ℕ). get_or m (p - a) 0) (between_is l a e)
    ∙ (get_or-drop a (take e l) (p - a) 0
    ∙ (ap (λ (n : ℕ). get_or (take e l) n 0) (let place : a + (p - a) ≡ p = omega (arith, low) in place)
    ∙ get_or-take e l p 0 high))

-- the part of a tree that was copied has the last tree's numbers
pub taken : (k : ℕ) (next last part : List ℕ) → 2 ≤ k → length next ≡ 2 * k → length last ≡ 2 * k → length part ≡ k - 2 → part ≡ between 2 k last
    → (p : ℕ) → 2 ≤ p → p < k → get_or (put_mid 2 (k - 2) next part) p 0 ≡ get_or last p 0
taken k next last part two long long_last size is p low high =
    sym (at_between 2 k p (put_mid 2 (k - 2) next part) low high)
    ∙ (ap (λ (l : List ℕ). get_or l (p - 2) 0) (between-put_mid 2 (k - 2) next part k (omega (arith, two, long)) size ∙ is) ∙ at_between 2 k p last low high)

-- among unmarked positions nothing is counted
pub none_counted : (marks : List Bool) (n from end : ℕ) → end ≡ from + n → end ≤ length marks → NoneMarked marks from end → marks_from from marks ≡ marks_from end marks
none_counted marks zero from end e le none = ap (λ (m : ℕ). marks_from m marks) (let same : from ≡ end = omega (arith, e) in same)
none_counted marks (suc n) from end e le none =
    let step = marks_step marks from (omega (arith, e, le)) in
    let here = unmarked marks from (none from (omega arith) (omega (arith, e))) in
    let rest = none_counted marks n (from + 1) end (omega (arith, e)) le (λ p low high. none p (omega (arith, low)) high) in
    omega (arith, step, here, rest)

-- the last mark before the end
pub one_counted : (marks : List Bool) (p end : ℕ) → p < end → end ≤ length marks → mark_at marks p ≡ 1 → NoneMarked marks (p + 1) end → marks_from p marks ≡ marks_from end marks + 1
one_counted marks p end lt le marked none =
    let step = marks_step marks p (omega (arith, lt, le)) in
    let rest = none_counted marks (end - (p + 1)) (p + 1) end (omega (arith, lt)) le none in
    omega (arith, step, marked, rest)

-- trees with the same slots
pub same_after : (k : ℕ) (a b : List ℕ) → drop k a ≡ drop k b → (p : ℕ) → k ≤ p → get_or a p 0 ≡ get_or b p 0
same_after k a b same p le =
    let place : k + (p - k) ≡ p = omega (arith, le) in
    subst (λ (n : ℕ). get_or a n 0 ≡ get_or b n 0) place
    (sym (get_or-drop k a (p - k) 0) ∙ (ap (λ (l : List ℕ). get_or l (p - k) 0) same ∙ get_or-drop k b (p - k) 0))

pub marks_end : (marks : List Bool) (n : ℕ) → length marks ≤ n → marks_from n marks ≡ 0
marks_end marks n le = ap (λ (l : List Bool). count_by (λ mark. mark) l) (drop_all n marks le)

pub mark_counts : (marks : List Bool) (p : ℕ) → IsMarked marks p → mark_at marks p ≡ 1
mark_counts marks p marked = ap (λ (b : Bool). if b then 1 else 0) marked
