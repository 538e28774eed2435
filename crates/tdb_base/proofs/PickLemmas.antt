-- The elements at some places of a list, and the entries that the replies at these places tell of.
use Rattle.std.proofs.Common.{◌≡◌, ◌<◌, ◌≤◌, ◌+◌, ◌∙◌, ℕ, zero, suc, List, [], ◌∷◌, ◌++◌, length, Option, Some, refl, ap, arith}
use Rattle.std.proofs.lemmas.List.Elements.{All-cons, All-filter, All-head, All-nil, All-tail, filter_map-append}
use Rattle.std.specs.Prelude.{◌==◌, ◌/◌, ◌%◌, All, slice_get}
use Rattle.std.specs.List.{cons_option, filter_map, range_with_len, zip}
use Rattle.tdb_base.specs.Agrees.{entry_of_line, entry_of, entries_of}
use Rattle.tdb_base.specs.History.{Vector, Entry}
use Rattle.tdb_base.specs.Lines.{mine, picked}
use Rattle.tdb_base.specs.declared.reply.Reply.{Reply}
use Rattle.tdb_base.proofs.ListLemmas.{at-within}

-- a place within two lists of one length holds an element of each
picked-both : {A B : Type 0} (xs : List A) (ys : List B) (k : ℕ) → length ys ≡ length xs → k < length xs
    → (x : A) × (y : B) × (slice_get xs k ≡ Some x) × (slice_get ys k ≡ Some y)
picked-both xs ys k same within =
    let x = at-within xs k within in
    let y = at-within ys k (omega arith) in
    (x.0, y.0, x.1, y.1)

-- so many elements are picked as there are places
pub picked_length : {A : Type 0} (xs : List A) (places : List ℕ) → All (λ k. k < length xs) places → length (picked xs places) ≡ length places
picked_length xs [] within = refl
picked_length xs (k ∷ places) within =
    let x = at-within xs k (All-head (λ (k : ℕ). k < length xs) k places within) in
    let rest = picked_length xs places (All-tail (λ (k : ℕ). k < length xs) k places within) in
    rw x.1 (omega (arith, rest))

-- one place more
pub picked_push : {A : Type 0} (xs : List A) (places : List ℕ) (k : ℕ) (x : A) → slice_get xs k ≡ Some x → picked xs (places ++ k ∷ []) ≡ picked xs places ++ x ∷ []
picked_push xs places k x at = filter_map-append (slice_get xs) places (k ∷ []) ∙ ap (λ (o : Option _). picked xs places ++ cons_option o []) at

-- a worker's lines are lines of the trace
pub mine_below : (lines workers block worker : ℕ) → All (λ k. k < lines) (mine lines workers block worker)
mine_below lines workers block worker =
    All-filter (λ (k : ℕ). k / block % workers == worker) (λ (k : ℕ). k < lines) (range_with_len 0 lines) (range-below 0 lines (omega arith))
  where
    range-below : (from count : ℕ) → from + count ≤ lines → All (λ k. k < lines) (range_with_len from count)
    range-below from zero low = All-nil (λ (k : ℕ). k < lines)
    range-below from (suc count) low =
        All-cons (λ (k : ℕ). k < lines) from (range_with_len (from + 1) count) (omega arith) (range-below (from + 1) count (omega arith))

-- one vector and its reply more
pub entries_push : (caller : ℕ) (vectors : List Vector) (replies : List Reply) (v : Vector) (reply : Reply) → length replies ≡ length vectors
    → entries_of caller (vectors ++ v ∷ []) (replies ++ reply ∷ []) ≡ entries_of caller vectors replies ++ cons_option (entry_of caller v reply) []
entries_push caller vectors replies v reply same =
    ap (filter_map entry) (zip-push vectors replies v reply same) ∙ filter_map-append entry (zip vectors replies) ((v, reply) ∷ [])
  where
    entry : Vector × Reply → Option Entry
    entry line = entry_of caller line.0 line.1

    zip-push : {A B : Type 0} (xs : List A) (ys : List B) (x : A) (y : B) → length ys ≡ length xs → zip (xs ++ x ∷ []) (ys ++ y ∷ []) ≡ zip xs ys ++ (x, y) ∷ []
    zip-push [] [] x y same = refl
    zip-push [] (b ∷ ys) x y same = absurd (omega arith)
    zip-push (a ∷ xs) [] x y same = absurd (omega arith)
    zip-push (a ∷ xs) (b ∷ ys) x y same = ap (λ (t : List _). (a, b) ∷ t) (zip-push xs ys x y (omega arith))

-- the entries that the replies at some places tell of are those of the vectors and replies picked there
pub entries_picked : (caller : ℕ) (trace : List Vector) (replies : List Reply) (places : List ℕ) → length replies ≡ length trace → All (λ k. k < length trace) places
    → filter_map (entry_of_line caller trace replies) places ≡ entries_of caller (picked trace places) (picked replies places)
entries_picked caller trace replies [] same within = refl
entries_picked caller trace replies (k ∷ places) same within =
    let line = picked-both trace replies k same (All-head (λ (k : ℕ). k < length trace) k places within) in
    let rest = entries_picked caller trace replies places same (All-tail (λ (k : ℕ). k < length trace) k places within) in
    rw (line.2, line.3) (ap (cons_option (entry_of caller line.0 line.1)) rest)
