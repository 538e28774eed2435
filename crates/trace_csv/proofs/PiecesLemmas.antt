-- A list of numbers as pieces of one length.
use Rattle.std.proofs.Common.{◌≡◌, ◌≤◌, ◌<◌, ◌+◌, ◌*◌, ℕ, zero, suc, List, [], ◌∷◌, ◌++◌, length, take, drop, Some, refl, ap, arith, ◌∙◌, add-one, length-drop}
use Rattle.std.proofs.lemmas.List.{drop-append-le, drop-drop, length-take, take-append-le, take_all}
use Rattle.std.proofs.Math.Nat.{mul-le-mul_right, zero-mul}
use Rattle.std.proofs.lemmas.List.Elements.{All-cons}
use Rattle.std.specs.Prelude.{slice_get, All}
use Rattle.trace_csv.specs.Pieces.{pieces}

pub length-pieces : (size count : ℕ) (xs : List ℕ) → length (pieces size count xs) ≡ count
unfolding pieces
length-pieces size zero xs = refl
length-pieces size (suc count) xs = ap suc (length-pieces size count (drop size xs))

-- the piece of a number
pub slice_get-pieces : (size count : ℕ) (xs : List ℕ) (i : ℕ) → i < count → slice_get (pieces size count xs) i ≡ Some (take size (drop (i * size) xs))
unfolding pieces
slice_get-pieces size zero xs i h = absurd (omega arith)
slice_get-pieces size (suc count) xs zero h = rw zero-mul refl
slice_get-pieces size (suc count) xs (suc i) h =
    slice_get-pieces size count (drop size xs) i (omega arith)
    ∙ ap (λ (t : List ℕ). Some (take size t)) (drop-drop (i * size) size xs ∙ ap (λ k. drop k xs) (let f : size + i * size ≡ suc i * size = omega arith in f))

-- each piece has its length
pub All-pieces : (size count : ℕ) (xs : List ℕ) → length xs ≡ count * size → All (λ piece. length piece ≡ size) (pieces size count xs)
unfolding pieces
All-pieces size zero xs h = λ k d e. absurd (omega arith)
All-pieces size (suc count) xs h =
    All-cons (λ (piece : List ℕ). length piece ≡ size) (take size xs) (pieces size count (drop size xs))
    (simp length-take (omega arith))
    (All-pieces size count (drop size xs) (simp length-drop (omega arith)))

-- one piece more
pub pieces-append : (size count : ℕ) (xs ys : List ℕ) → length xs ≡ count * size → length ys ≡ size
    → pieces size (count + 1) (xs ++ ys) ≡ pieces size count xs ++ ys ∷ []
unfolding pieces
pieces-append size zero [] ys h k = let all : take size ys ≡ ys = take_all size ys (omega arith) in ap (λ t. t ∷ []) all
pieces-append size zero (x ∷ xs) ys h k = absurd (omega arith)
pieces-append size (suc count) xs ys h k =
    let few : size ≤ length xs = omega arith in
    let rest : length (drop size xs) ≡ count * size = simp length-drop (omega arith) in
    let later = rw add-one at (pieces-append size count (drop size xs) ys rest k) in
    rw (add-one, take-append-le size xs ys few, drop-append-le size xs ys few) (ap (λ (t : List (List ℕ)). take size xs ∷ t) later)

-- a piece and those before it are within the whole
pub piece-within : (size count i total : ℕ) → i < count → total ≡ count * size → i * size + size ≤ total
piece-within size count i total h e =
    let next : i + 1 ≤ count = omega arith in
    let more : (i + 1) * size ≤ count * size = mul-le-mul_right size next in
    omega arith
