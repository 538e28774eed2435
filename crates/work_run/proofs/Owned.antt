-- The lines of each worker.
use Rattle.std.proofs.Common.{◌≡◌, ◌<◌, ◌≤◌, ◌+◌, ℕ, zero, suc, Bool, cond, List, [], ◌∷◌, ◌++◌, length, Some, refl, ap, ◌∙◌, arith, append-nil, length-append}
use Rattle.std.specs.Prelude.{◌==◌, All, filter}
use Rattle.std.specs.List.{range_with_len}
use Rattle.std.proofs.lemmas.Bool.{eq-eqb, ne_eqb}
use Rattle.std.proofs.lemmas.List.Elements.{All-cons, All-filter, All-nil, filter-append}
use Rattle.tdb_base.proofs.ListLemmas.{At, at-filter, at-range}
use Rattle.tdb_base.specs.Lines.{owned}

-- they are lines of the trace
pub owned_below : (lines : ℕ) (owner : ℕ → ℕ) (worker : ℕ) → All (λ k. k < lines) (owned lines owner worker)
owned_below lines owner worker = All-filter (λ (k : ℕ). owner k == worker) (λ (k : ℕ). k < lines) (range_with_len 0 lines) (range-below 0 lines (omega arith))
  where
    range-below : (from count : ℕ) → from + count ≤ lines → All (λ k. k < lines) (range_with_len from count)
    range-below from zero low = All-nil (λ (k : ℕ). k < lines)
    range-below from (suc count) low =
        All-cons (λ (k : ℕ). k < lines) from (range_with_len (from + 1) count) (omega arith) (range-below (from + 1) count (omega arith))

-- each line is among its worker's
pub owned_at : (lines : ℕ) (owner : ℕ → ℕ) (i : ℕ) → i < lines → At (owned lines owner (owner i)) i
owned_at lines owner i lt = at-filter (λ (k : ℕ). owner k == owner i) (range_with_len 0 lines) i i (at-range 0 lines i lt ∙ ap Some (omega arith)) (eq-eqb (owner i) (owner i) refl)

-- a line more
range_more : (from n : ℕ) → range_with_len from (n + 1) ≡ range_with_len from n ++ (from + n) ∷ []
range_more from zero = ap (λ (k : ℕ). k ∷ []) (omega arith)
range_more from (suc n) =
    let e : suc n + 1 ≡ suc (n + 1) = omega arith in
    let last : (from + 1) + n ≡ from + suc n = omega arith in
    ap (λ (m : ℕ). range_with_len from m) e
    ∙ ap (λ (xs : List ℕ). from ∷ xs) (range_more (from + 1) n ∙ ap (λ (k : ℕ). range_with_len (from + 1) n ++ k ∷ []) last)

pub owned_more : (lines : ℕ) (owner : ℕ → ℕ) (worker : ℕ) → owned (lines + 1) owner worker ≡ owned lines owner worker ++ cond (owner lines == worker) (lines ∷ []) []
owned_more lines owner worker =
    ap (filter own) (range_more 0 lines ∙ ap (λ (k : ℕ). range_with_len 0 lines ++ k ∷ []) (omega arith))
    ∙ filter-append own (range_with_len 0 lines) (lines ∷ [])
  where
    own : ℕ → Bool
    own i = owner i == worker

-- with more lines no fewer
pub owned_grows : (fewer extra : ℕ) (owner : ℕ → ℕ) (worker : ℕ) → length (owned fewer owner worker) ≤ length (owned (fewer + extra) owner worker)
owned_grows fewer zero owner worker =
    let e : fewer + 0 ≡ fewer = omega arith in
    let same = ap (λ (n : ℕ). length (owned n owner worker)) e in
    omega (arith, same)
owned_grows fewer (suc extra) owner worker =
    let n : ℕ = fewer + extra in
    let e : n + 1 ≡ fewer + suc extra = omega arith in
    let rest = owned_grows fewer extra owner worker in
    let step = ap (λ (xs : List ℕ). length xs) (owned_more n owner worker) ∙ length-append (owned n owner worker) (cond (owner n == worker) (n ∷ []) []) in
    let same = ap (λ (m : ℕ). length (owned m owner worker)) e in
    omega (arith, rest, step, same)

-- a worker's next line
pub owned_own : (lines : ℕ) (owner : ℕ → ℕ) (worker : ℕ) → owner lines ≡ worker → owned (lines + 1) owner worker ≡ owned lines owner worker ++ lines ∷ []
owned_own lines owner worker own = owned_more lines owner worker ∙ ap (λ (b : Bool). owned lines owner worker ++ cond b (lines ∷ []) []) (eq-eqb (owner lines) worker own)

pub owned_other : (lines : ℕ) (owner : ℕ → ℕ) (worker : ℕ) → (owner lines ≡ worker → ⊥) → owned (lines + 1) owner worker ≡ owned lines owner worker
owned_other lines owner worker other =
    owned_more lines owner worker
    ∙ (ap (λ (b : Bool). owned lines owner worker ++ cond b (lines ∷ []) []) (ne_eqb (owner lines) worker other)
    ∙ append-nil (owned lines owner worker))
