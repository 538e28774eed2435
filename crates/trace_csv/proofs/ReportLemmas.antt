-- The lines of a report, one after the other.
use Rattle.std.proofs.Common.{◌≡◌, ℕ, suc, List, [], ◌∷◌, ◌++◌, ◌+◌, ◌<◌, refl, sym, append_assoc, ◌∙◌, ap, take, drop, length, get_or, arith}
use Rattle.std.proofs.lemmas.List.{append-nil, length-take, take-append-drop, take_more}
use Rattle.std.proofs.Common.{◌≤◌, Option}
use Rattle.trace_csv.specs.Page.{Carries}
use Rattle.trace_csv.proofs.PageLemmas.{carries-add}
use Rattle.tdb_base.specs.declared.reply.Reply.{Reply}
use Rattle.trace_csv.specs.Report.{Extras, line_ending, lines_with}

pub lines-none : (extras : Extras) (n : ℕ) → lines_with extras n [] ≡ []
unfolding lines_with
lines-none extras n = refl

-- the lines of a list that is cut in two
pub lines-append : (extras : Extras) (n : ℕ) (xs ys : List Reply) → lines_with extras n (xs ++ ys) ≡ lines_with extras n xs ++ lines_with extras (n + length xs) ys
unfolding lines_with
lines-append extras n [] ys = ap (λ k. lines_with extras k ys) (let e : n ≡ n + 0 = omega arith in e)
lines-append extras n (x ∷ xs) ys =
    ap (λ t. line_ending (extras.ends n x) (n + 1) x ++ t) (lines-append extras (n + 1) xs ys ∙ ap (λ k. lines_with extras (n + 1) xs ++ lines_with extras k ys) (let e : (n + 1) + length xs ≡ n + suc (length xs) = omega arith in e))
    ∙ sym (append_assoc (line_ending (extras.ends n x) (n + 1) x) (lines_with extras (n + 1) xs) (lines_with extras (n + suc (length xs)) ys))

pub lines-one : (extras : Extras) (n : ℕ) (x : Reply) → lines_with extras n (x ∷ []) ≡ line_ending (extras.ends n x) (n + 1) x
unfolding lines_with
lines-one extras n x = append-nil (line_ending (extras.ends n x) (n + 1) x)

-- the lines before a place and the line there
pub lines-more : (extras : Extras) (xs : List Reply) (i : ℕ) (d : Reply) → i < length xs
    → lines_with extras 0 (take (i + 1) xs) ≡ lines_with extras 0 (take i xs) ++ line_ending (extras.ends i (get_or xs i d)) (i + 1) (get_or xs i d)
lines-more extras xs i d h =
    let at : 0 + length (take i xs) ≡ i = simp length-take (omega arith) in
    ap (lines_with extras 0) (take_more xs i d h) ∙ lines-append extras 0 (take i xs) (get_or xs i d ∷ [])
    ∙ ap (λ k. lines_with extras 0 (take i xs) ++ lines_with extras k (get_or xs i d ∷ [])) at
    ∙ ap (λ t. lines_with extras 0 (take i xs) ++ t) (lines-one extras i (get_or xs i d))

-- all lines are those before a place and the others
pub lines-split : (extras : Extras) (xs : List Reply) (i : ℕ) → i ≤ length xs
    → lines_with extras 0 xs ≡ lines_with extras 0 (take i xs) ++ lines_with extras i (drop i xs)
lines-split extras xs i h =
    let at : 0 + length (take i xs) ≡ i = simp length-take (omega arith) in
    ap (lines_with extras 0) (sym (take-append-drop i xs)) ∙ lines-append extras 0 (take i xs) (drop i xs)
    ∙ ap (λ k. lines_with extras 0 (take i xs) ++ lines_with extras k (drop i xs)) at

-- a text of the lines before a place, and then the line there, is one of the lines before the next place
pub lines-next : (extras : Extras) (a b : Option (List ℕ)) (p q r : List ℕ) (xs : List Reply) (i : ℕ) (d : Reply) → i < length xs
    → Carries a b p q (lines_with extras 0 (take i xs)) → r ≡ q ++ line_ending (extras.ends i (get_or xs i d)) (i + 1) (get_or xs i d) → Carries a b p r (lines_with extras 0 (take (i + 1) xs))
lines-next extras a b p q r xs i d h before this = rw (lines-more extras xs i d h) (carries-add a b p q r _ _ before this)
