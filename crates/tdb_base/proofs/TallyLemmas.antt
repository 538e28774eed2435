-- Whatever is counted over the lines of a trace and their replies counts the same over the entries of a history that agrees with them.
use Rattle.std.proofs.Common.{◌≡◌, ◌≢◌, ◌<◌, ◌+◌, ◌/◌, ℕ, zero, suc, List, [], ◌∷◌, length, Option, Some, None, Bool, true, false, refl, sym, ap, arith, ◌∙◌}
use Rattle.std.proofs.lemmas.Nat.{mod_below}
use Rattle.std.proofs.lemmas.Option.{slice_get_within, get_or_from_slice_get}
use Rattle.std.specs.Prelude.{◌==◌, Contains, slice_get, count_by, sum_by}
use Rattle.std.specs.List.{range_with_len, zip}
use Rattle.tdb_base.specs.Agrees.{AgreesOwned, entry_of_line, entry_of, entry_of_both}
use Rattle.tdb_base.specs.History.{Vector, Entry, History, calls, is_fresh}
use Rattle.tdb_base.specs.Lines.{AreShared, dealt_to, owned}
use Rattle.tdb_base.specs.declared.reply.Reply.{Reply}
use Rattle.tdb_base.specs.declared.reply.Reply.TheVariants as r
use Rattle.tdb_base.proofs.AgreesLemmas.{insertion-entries}
use Rattle.tdb_base.proofs.DistinctLemmas.{count-cons}
use Rattle.tdb_base.proofs.ListLemmas.{At, at-contained}
use Rattle.tdb_base.proofs.SumLemmas.{count-range, sum-by-classes, sum-filter_map, sum-places, sum-same, weight_of}

pub contained-at : {A : Type 0} (xs : List A) (x : A) → At xs x → Contains xs x
contained-at xs x h = (h.0, slice_get_within xs h.0 x h.1, get_or_from_slice_get xs h.0 x x h.1)

-- an element that no place holds is not counted, and one that a single place holds is counted once
count-absent : (xs : List ℕ) (x : ℕ) → ((k : ℕ) → slice_get xs k ≢ Some x) → count_by (λ c. x == c) xs ≡ 0
count-absent [] x h = refl
count-absent (y ∷ xs) x h =
    let differ : x ≢ y = λ (e : x ≡ y). h zero (ap Some (sym e)) in
    let no : (x == y) ≡ false = grind arith in
    count-cons (λ (c : ℕ). x == c) y xs ∙ rw (no, count-absent xs x (λ k e. h (suc k) e)) refl

pub count-single : (xs : List ℕ) (x k : ℕ) → ((i j : ℕ) → slice_get xs i ≡ Some x → slice_get xs j ≡ Some x → i ≡ j) → slice_get xs k ≡ Some x
    → count_by (λ c. x == c) xs ≡ 1
count-single [] x k single e = cc e
count-single (y ∷ xs) x zero single e =
    let one : y ≡ x = cc e in
    let here : (x == y) ≡ true = grind arith in
    count-cons (λ (c : ℕ). x == c) y xs ∙ rw (here, count-absent xs x (λ k f. let bad : zero ≡ suc k = single zero (suc k) e f in absurd (omega arith))) refl
count-single (y ∷ xs) x (suc k) single e =
    let differ : x ≢ y = λ (f : x ≡ y). (let bad : zero ≡ suc k = single zero (suc k) (ap Some (sym f)) e in absurd (omega arith)) in
    let no : (x == y) ≡ false = grind arith in
    count-cons (λ (c : ℕ). x == c) y xs
    ∙ rw (no, count-single xs x k (λ i j a b. let next : suc i ≡ suc j = single (suc i) (suc j) a b in omega arith) e) refl

pub zip-at : {A B : Type 0} (xs : List A) (ys : List B) (p : A × B) (k : ℕ) → slice_get (zip xs ys) k ≡ Some p → (slice_get xs k ≡ Some p.0) × (slice_get ys k ≡ Some p.1)
zip-at [] ys p k e = cc e
zip-at (x ∷ xs) [] p k e = cc e
zip-at (x ∷ xs) (y ∷ ys) p zero e = let one : (x, y) ≡ p = cc e in (ap (λ (q : _ × _). Some q.0) one, ap (λ (q : _ × _). Some q.1) one)
zip-at (x ∷ xs) (y ∷ ys) p (suc k) e = zip-at xs ys p k e

pub length-zip : {A B : Type 0} (xs : List A) (ys : List B) → length ys ≡ length xs → length (zip xs ys) ≡ length xs
length-zip [] ys h = refl
length-zip (x ∷ xs) [] h = absurd (omega arith)
length-zip (x ∷ xs) (y ∷ ys) h = let rest = length-zip xs ys (omega arith) in omega (arith, rest)

-- what an entry weighs, by its vector and whether it is fresh; and what a line weighs, by its reply
abbrev pub entry_weight : (Vector → Bool → ℕ) → Entry → ℕ
entry_weight w e = w e.vector (is_fresh e.act)

abbrev pub line_weight : (Vector → Bool → ℕ) → Vector × Reply → ℕ
line_weight w line = weight_of (entry_weight w) (entry_of 0 line.0 line.1)

any-caller : (w : Vector → Bool → ℕ) (c : ℕ) (v : Vector) (reply : Reply) → weight_of (entry_weight w) (entry_of c v reply) ≡ line_weight w (v, reply)
any-caller w c v (r.New id) = refl
any-caller w c v (r.Seen id) = refl
any-caller w c v r.FullNodes = refl
any-caller w c v r.FullRoots = refl

-- what the line with a number weighs
abbrev pub place_weight : (Vector → Bool → ℕ) → List Vector → List Reply → ℕ → ℕ
place_weight w trace replies i = weight_of (entry_weight w) (entry_of_line 0 trace replies i)

any-caller-at : (w : Vector → Bool → ℕ) (c : ℕ) (trace : List Vector) (replies : List Reply) (i : ℕ)
    → weight_of (entry_weight w) (entry_of_line c trace replies i) ≡ place_weight w trace replies i
any-caller-at w c trace replies i = by (slice_get trace i) (slice_get replies i)
  where
    by : (v : Option Vector) (reply : Option Reply) → weight_of (entry_weight w) (entry_of_both c v reply) ≡ weight_of (entry_weight w) (entry_of_both 0 v reply)
    by (Some v) (Some reply) = any-caller w c v reply
    by (Some v) None = refl
    by None (Some reply) = refl
    by None None = refl

place-weight : (w : Vector → Bool → ℕ) (trace : List Vector) (replies : List Reply) (i : ℕ) (v : Vector) (reply : Reply)
    → slice_get trace i ≡ Some v → slice_get replies i ≡ Some reply → line_weight w (v, reply) ≡ place_weight w trace replies i
place-weight w trace replies i v reply a b = rw (a, b) refl

-- a number of a range is below its end
range-below : (n from k x : ℕ) → slice_get (range_with_len from n) k ≡ Some x → x < from + n
range-below zero from k x at = cc at
range-below (suc n) from zero x at = let first : from ≡ x = cc at in omega arith
range-below (suc n) from (suc k) x at = let rest = range-below n (from + 1) k x at in omega (arith, rest)

-- each line is dealt out to some worker
pub dealt-shared : (lines workers block : ℕ) → 0 < workers → AreShared lines workers (dealt_to workers block)
dealt-shared lines workers block some i lt = mod_below (i / block) workers some

-- the entries of a history from nothing, worker by worker, against the lines
pub tally : (count : ℕ) (owner : ℕ → ℕ) (trace : List Vector) (replies : List Reply) (workers : ℕ) (h : History) (callers : List ℕ) (w : Vector → Bool → ℕ)
    → AgreesOwned count owner trace replies workers [] h callers → AreShared (length trace) workers owner
    → sum_by (entry_weight w) h ≡ sum_by (line_weight w) (zip trace replies)
tally count owner trace replies workers h callers w agrees shared =
    let numbers = range_with_len 0 (length trace) in
    let place = place_weight w trace replies in
    let mine_of = λ (j : ℕ). owned (length trace) owner j in
    let by-caller : sum_by (entry_weight w) h ≡ sum_by (λ c. sum_by (entry_weight w) (calls h c)) callers =
    sum-by-classes (λ (a b : ℕ). a == b) (λ (e : Entry). e.caller) callers (entry_weight w) h
    (λ e at. let known = at-contained callers e.caller (agrees.no_others h refl e (contained-at h e at)) in
    count-single callers e.caller known.0 (λ i j a b. agrees.among.callers_differ i j e.caller a b) known.1) in
    let worker : (j c : ℕ) → slice_get callers j ≡ Some c → sum_by (entry_weight w) (calls h c) ≡ sum_by place (mine_of j) =
    λ j c at. ap (λ (t : History). sum_by (entry_weight w) t)
    (agrees.among.in_order j c at ∙ insertion-entries c trace replies (mine_of j))
    ∙ sum-filter_map (entry_weight w) (entry_of_line c trace replies) (mine_of j)
    ∙ sum-same (λ (i : ℕ). weight_of (entry_weight w) (entry_of_line c trace replies i)) place (mine_of j) (λ i k. any-caller-at w c trace replies i) in
    let by-worker : sum_by (λ c. sum_by (entry_weight w) (calls h c)) callers ≡ sum_by (λ j. sum_by place (mine_of j)) (range_with_len 0 (length callers)) =
    sum-places (λ (c : ℕ). sum_by (entry_weight w) (calls h c)) (λ (j : ℕ). sum_by place (mine_of j)) 0 callers
    (λ k c at. worker k c at ∙ ap (λ (j : ℕ). sum_by place (mine_of j)) (omega arith)) in
    let all-lines : sum_by place numbers ≡ sum_by (λ j. sum_by place (mine_of j)) (range_with_len 0 workers) =
    sum-by-classes (λ (a b : ℕ). a == b) owner (range_with_len 0 workers) place numbers
    (λ i at. let below = shared i (let lt = range-below (length trace) 0 at.0 i at.1 in omega (arith, lt)) in count-range workers 0 (owner i) (omega arith) (omega arith)) in
    let lines : sum_by (line_weight w) (zip trace replies) ≡ sum_by place (range_with_len 0 (length (zip trace replies))) =
    sum-places (line_weight w) place 0 (zip trace replies)
    (λ k line at. let both = zip-at trace replies line k at in
    place-weight w trace replies k line.0 line.1 both.0 both.1 ∙ ap place (omega arith)) in
    by-caller ∙ by-worker ∙ ap (λ (n : ℕ). sum_by (λ j. sum_by place (mine_of j)) (range_with_len 0 n)) agrees.among.callers_count
    ∙ sym all-lines ∙ ap (λ (n : ℕ). sum_by place (range_with_len 0 n)) (sym (length-zip trace replies agrees.among.one_each)) ∙ sym lines
