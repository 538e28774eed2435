-- One line more, and the end, of the generated trace.
use Rattle.std.proofs.Common.{◌≡◌, ◌∙◌, ◌+◌, ◌*◌, ◌<◌, ◌≤◌, ◌%◌, ◌/◌, ℕ, zero, suc, ◌-◌, List, [], ◌∷◌, ◌++◌, length, refl, sym, ap, arith, append_assoc, subst}
use Rattle.std.proofs.lemmas.List.{append-nil, length-replicate, length-set, take_all}
use Rattle.std.proofs.lemmas.List.Elements.{All-cons, All-replicate, All-set}
use Rattle.std.specs.Prelude.{All, replicate}
use Rattle.rand_pcg.specs.Lcg.{Lcg}
use Rattle.rand_pcg.specs.Pcg.{pcg64}
use Rattle.trace_csv.specs.Pieces.{pieces}
use Rattle.trace_csv.specs.Walk.{lines_after, moved, seeded, walk}
use Rattle.trace_csv.proofs.PiecesLemmas.{pieces-append}

one-line : (slots values count : ℕ) (random : Lcg) (line : List ℕ)
    → lines_after slots values (suc count) random line ≡ moved slots values (pcg64 random).0 line ∷ lines_after slots values count (pcg64 random).1 (moved slots values (pcg64 random).0 line)
unfolding lines_after
one-line slots values count random line = refl

-- the lines that are done and those that are left, one line on
pub go-on : (slots values turn n count : ℕ) (g h : Lcg) (w : ℕ) (all : List (List ℕ)) (numbers longer line : List ℕ) → n ≡ suc count → (w, h) ≡ pcg64 g
    → length numbers ≡ turn * slots → length (moved slots values w line) ≡ slots → longer ≡ numbers ++ moved slots values w line
    → all ≡ pieces slots turn numbers ++ lines_after slots values n g line
    → all ≡ pieces slots (turn + 1) longer ++ lines_after slots values count h (moved slots values w line)
go-on slots values turn n count g h w all numbers longer line e d size each f a =
    let next = moved slots values w line in
    let step : lines_after slots values (suc count) g line ≡ next ∷ lines_after slots values count h next =
    subst (λ (p : ℕ × Lcg). lines_after slots values (suc count) g line ≡ moved slots values p.0 line ∷ lines_after slots values count p.1 (moved slots values p.0 line)) (sym d) (one-line slots values count g line) in
    let grown : pieces slots (turn + 1) longer ≡ pieces slots turn numbers ++ next ∷ [] =
    ap (pieces slots (turn + 1)) f ∙ pieces-append slots turn numbers next size each in
    a ∙ ap (λ k. pieces slots turn numbers ++ lines_after slots values k g line) e ∙ ap (λ t. pieces slots turn numbers ++ t) step
    ∙ sym (append_assoc (pieces slots turn numbers) (next ∷ []) (lines_after slots values count h next))
    ∙ ap (λ t. t ++ lines_after slots values count h next) (sym grown)

pub all-done : (slots values n : ℕ) (g : Lcg) (all done : List (List ℕ)) (line : List ℕ) → n ≡ 0 → all ≡ done ++ lines_after slots values n g line → done ≡ all
unfolding lines_after
all-done slots values n g all done line e a = sym (a ∙ ap (λ k. done ++ lines_after slots values k g line) e ∙ append-nil done)

one-piece : (size : ℕ) (xs : List ℕ) → length xs ≡ size → pieces size 1 xs ≡ xs ∷ []
unfolding pieces
one-piece size xs h = ap (λ t. t ∷ []) (take_all size xs (omega arith))

-- the first line
pub first-line : (lines slots values seed : ℕ) (g : Lcg) (line numbers : List ℕ) → g ≡ seeded seed → line ≡ replicate slots 0 → numbers ≡ line
    → walk lines slots values seed ≡ pieces slots 1 numbers ++ lines_after slots values (lines - 1) g line
first-line lines slots values seed g line numbers d e f =
    let zeros = replicate slots 0 in
    let one : pieces slots 1 numbers ≡ zeros ∷ [] = ap (pieces slots 1) (f ∙ e) ∙ one-piece slots zeros (length-replicate slots 0) in
    ap (λ t. zeros ∷ t) (ap (λ r. lines_after slots values (lines - 1) r zeros) (sym d) ∙ ap (λ t. lines_after slots values (lines - 1) g t) (sym e))
    ∙ ap (λ t. t ++ lines_after slots values (lines - 1) g line) (sym one)

-- what holds of a line and is kept by a step holds of all lines after it
after-all : (P : List ℕ → Type 0) (slots values : ℕ) → ((w : ℕ) (line : List ℕ) → P line → P (moved slots values w line))
    → (count : ℕ) (g : Lcg) (line : List ℕ) → P line → All P (lines_after slots values count g line)
unfolding lines_after
after-all P slots values keep zero g line p = λ k d few. absurd (omega arith)
after-all P slots values keep (suc count) g line p =
    let next = keep (pcg64 g).0 line p in
    All-cons P _ _ next (after-all P slots values keep count (pcg64 g).1 _ next)

-- each line has so many slots
pub walk-each : (lines slots values seed : ℕ) → All (λ line. length line ≡ slots) (walk lines slots values seed)
walk-each lines slots values seed =
    let P = λ (line : List ℕ). length line ≡ slots in
    let zeros : length (replicate slots 0) ≡ slots = length-replicate slots 0 in
    All-cons P (replicate slots 0) _ zeros
    (after-all P slots values (λ w line size. length-set line (w % slots) (w / slots % values) ∙ size) (lines - 1) (seeded seed) (replicate slots 0) zeros)

-- each number is below the count of values
pub walk-below : (lines slots values seed : ℕ) → 1 ≤ values → All (λ line. All (λ n. n < values) line) (walk lines slots values seed)
walk-below lines slots values seed some =
    let P = λ (line : List ℕ). All (λ n. n < values) line in
    let zeros : P (replicate slots 0) = All-replicate (λ n. n < values) slots 0 some in
    All-cons P (replicate slots 0) _ zeros
    (after-all P slots values (λ w line below. All-set (λ n. n < values) line (w % slots) (w / slots % values) (let h : w / slots % values < values = omega arith in h) below) (lines - 1) (seeded seed) (replicate slots 0) zeros)
