-- How many lines were marked first, line after line.
use Rattle.std.proofs.Common.{◌≡◌, ◌<◌, ◌+◌, ℕ, List, [], ◌∷◌, ◌++◌, length, get_or, take, Bool, cond, refl, ap, ◌∙◌, arith, ◌≤◌, true, false}
use Rattle.std.specs.Prelude.{◌&&◌, count_by, not}
use Rattle.std.specs.List.{zip}
use Rattle.std.proofs.lemmas.List.{length-take, take_more}
use Rattle.std.proofs.lemmas.List.Sums.{sum_by_push}
use Rattle.tdb_base.specs.Replies.{is_full}
use Rattle.tdb_base.specs.declared.reply.Reply.{Reply}
use Rattle.trace_csv.specs.Report.{marked_count}

zip-push : {A B : Type 0} (xs : List A) (ys : List B) (x : A) (y : B) → length ys ≡ length xs → zip (xs ++ x ∷ []) (ys ++ y ∷ []) ≡ zip xs ys ++ (x, y) ∷ []
zip-push [] [] x y same = refl
zip-push [] (b ∷ ys) x y same = absurd (omega arith)
zip-push (a ∷ xs) [] x y same = absurd (omega arith)
zip-push (a ∷ xs) (b ∷ ys) x y same = ap (λ (t : List _). (a, b) ∷ t) (zip-push xs ys x y (omega arith))

pub marked-more : (replies : List Reply) (firsts : List Bool) (i : ℕ) (d : Reply) (e : Bool) → i < length replies → length firsts ≡ length replies
    → marked_count (take (i + 1) replies) (take (i + 1) firsts) ≡ marked_count (take i replies) (take i firsts) + cond (not (is_full (get_or replies i d)) && get_or firsts i e) 1 0
marked-more replies firsts i d e lt same =
    let one = take_more replies i d lt in
    let other = take_more firsts i e (omega arith) in
    let long : length (take i firsts) ≡ length (take i replies) = simp length-take (omega arith) in
    (λ k. marked_count (one k) (other k))
    ∙ (ap (λ (t : List (Reply × Bool)). count_by (λ line. not (is_full line.0) && line.1) t) (zip-push (take i replies) (take i firsts) (get_or replies i d) (get_or firsts i e) long)
    ∙ sum_by_push (λ (line : Reply × Bool). cond (not (is_full line.0) && line.1) 1 0) (zip (take i replies) (take i firsts)) (get_or replies i d, get_or firsts i e))

pub one-at-most : (b : Bool) (n : ℕ) → n ≡ cond b 1 0 → n ≤ 1
one-at-most true n e = omega (arith, e)
one-at-most false n e = omega (arith, e)
