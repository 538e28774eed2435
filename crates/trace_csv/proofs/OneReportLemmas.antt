-- A report is read in one way: a number ends where its digits do, and a line tells its reply.
use Rattle.std.proofs.Common.{◌≡◌, ◌≤◌, ◌<◌, ◌+◌, ◌^◌, ◌∙◌, ℕ, zero, suc, List, [], ◌∷◌, ◌++◌, length, get_or, take, drop, true, false, codes, decimal, refl, sym, ap, subst, arith, append_assoc, length-append}
use Rattle.std.proofs.lemmas.List.{append_cancel_left, get_or_append_left, get_or_at, take_at}
use Rattle.std.proofs.lemmas.Option.{get_or_from_slice_get, slice_get-get_or}
use Rattle.std.proofs.lemmas.List.Elements.{All-get_or, All-head, All-tail}
use Rattle.std.proofs.lemmas.List.Sums.{prefix_len_is}
use Rattle.std.specs.Char.{is_ascii_digit}
use Rattle.std.specs.List.{prefix_len}
use Rattle.std.specs.Prelude.{◌==◌, All, Bool, slice_index, slice_index_or, ⊤}
use Rattle.tdb_base.specs.Replies.{is_full}
use Rattle.tdb_base.specs.declared.reply.Reply.{Reply}
use Rattle.tdb_base.specs.declared.reply.Reply.TheVariants as r
use Rattle.trace_csv.specs.OneReport.{AreMarks, HasWordId, OneDrawnReport, OneMarkedReport, OneReport}
use Rattle.trace_csv.specs.Report.{Extras, answer, answer_ending, drawers, line_ending, lines_with, mark_ending, marked_count, marks, named_line, no_extras, reply_line, summary_with}
use Rattle.trace_csv.specs.declared.report.Summary.{Summary}
use Rattle.trace_csv.proofs.DecimalLemmas.{decimal-digit, decimal-own, decimal-some}

-- the digits at the front of a number's text are that number's
pub front-digits : (n c : ℕ) (x : List ℕ) → is_ascii_digit c ≡ false
    → prefix_len is_ascii_digit (decimal n ++ c ∷ x) ≡ length (decimal n)
front-digits n c x stop =
    let size : length (decimal n) ≤ length (decimal n ++ c ∷ x) = simp length-append (omega arith) in
    prefix_len_is is_ascii_digit (decimal n ++ c ∷ x) (length (decimal n)) 0 size
    (λ k lt. ap is_ascii_digit (get_or_append_left (decimal n) (c ∷ x) 0 k lt) ∙ decimal-digit n k lt)
    (λ _. ap is_ascii_digit (get_or_at (decimal n) c x 0 (length (decimal n)) refl) ∙ stop)

tail-same : (b c : ℕ) (x y : List ℕ) → b ∷ x ≡ c ∷ y → x ≡ y
tail-same b c x y e = cc e

-- of two numbers at the front the first has 64 bits
pub number-cancel : (a b c : ℕ) (x y : List ℕ) → a < 2 ^ 64 → is_ascii_digit c ≡ false
    → decimal a ++ c ∷ x ≡ decimal b ++ c ∷ y → (a ≡ b) × (x ≡ y)
number-cancel a b c x y one stop e =
    let size : length (decimal a) ≡ length (decimal b) = sym (front-digits a c x stop) ∙ ap (prefix_len is_ascii_digit) e ∙ front-digits b c y stop in
    let digits : decimal a ≡ decimal b =
    sym (take_at (decimal a) (c ∷ x) (length (decimal a)) refl) ∙ ap (take (length (decimal a))) e ∙ take_at (decimal b) (c ∷ y) (length (decimal a)) (sym size) in (
      decimal-own a b one digits,
      tail-same c c x y (append_cancel_left (decimal a) (c ∷ x) (c ∷ y) (e ∙ ap (λ (t : List ℕ). t ++ c ∷ y) (sym digits))),
    )

-- a text that begins with a digit
pub digit-first : (n : ℕ) (x : List ℕ) → is_ascii_digit (get_or (decimal n ++ x) 0 0) ≡ true
digit-first n x =
    ap is_ascii_digit (get_or_append_left (decimal n) x 0 0 (decimal-some n)) ∙ decimal-digit n 0 (decimal-some n)

not-digit-first : (n c : ℕ) (x y : List ℕ) → is_ascii_digit c ≡ false → decimal n ++ x ≡ c ∷ y → ⊥
not-digit-first n c x y stop e =
    let first = digit-first n x in
    let same : get_or (decimal n ++ x) 0 0 ≡ c = ap (λ (t : List ℕ). get_or t 0 0) e in
    cc (first, ap is_ascii_digit same, stop)

-- what stands before the number, and what stands after the byte behind it
number-text : (n c : ℕ) (u x : List ℕ) → (decimal n ++ c ∷ u) ++ x ≡ decimal n ++ c ∷ (u ++ x)
number-text n c u x = append_assoc (decimal n) (c ∷ u) x

comma-cancel : (a b : ℕ) (u v x y : List ℕ) → a < 2 ^ 64 → (decimal a ++ 44 ∷ u) ++ x ≡ (decimal b ++ 44 ∷ v) ++ y → (a ≡ b) × (u ++ x ≡ v ++ y)
comma-cancel a b u v x y one e =
    number-cancel a b 44 (u ++ x) (v ++ y) one refl (sym (number-text a 44 u x) ∙ e ∙ number-text b 44 v y)

pub comma-first : (n : ℕ) (u v x : List ℕ) → (decimal n ++ u) ++ x ≡ 44 ∷ v → ⊥
comma-first n u v x e = not-digit-first n 44 (u ++ x) v refl (sym (append_assoc (decimal n) u x) ∙ e)

apart : true ≡ false → ⊥
apart e = cc e

new-seen : (u v x y : List ℕ) → (codes "new" ++ u) ++ x ≡ (codes "seen" ++ v) ++ y → ⊥
new-seen u v x y e = apart (ap (λ (t : List ℕ). get_or t 0 0 == 110) e)

nodes-roots : (u v x y : List ℕ) → (codes ",full-nodes" ++ u) ++ x ≡ (codes ",full-roots" ++ v) ++ y → ⊥
nodes-roots u v x y e = apart (ap (λ (t : List ℕ). get_or t 6 0 == 110) e)

-- an answer, and what its line ends with
pub answer-ends : (u v : List ℕ) (p q : Reply) (x y : List ℕ) → HasWordId p → answer_ending u p ++ x ≡ answer_ending v q ++ y
    → (p ≡ q) × (u ++ x ≡ v ++ y)
answer-ends u v (r.New a) (r.New b) x y one e =
    let both = comma-cancel a b (codes "new" ++ u) (codes "new" ++ v) x y one e in (ap r.New both.0, append_cancel_left (codes "new") (u ++ x) (v ++ y) both.1)
answer-ends u v (r.New a) (r.Seen b) x y one e = absurd (new-seen u v x y (comma-cancel a b (codes "new" ++ u) (codes "seen" ++ v) x y one e).1)
answer-ends u v (r.New a) r.FullNodes x y one e = absurd (comma-first a (codes ",new" ++ u) (codes "full-nodes" ++ (v ++ y)) x e)
answer-ends u v (r.New a) r.FullRoots x y one e = absurd (comma-first a (codes ",new" ++ u) (codes "full-roots" ++ (v ++ y)) x e)
answer-ends u v (r.Seen a) (r.New b) x y one e = absurd (new-seen v u y x (sym (comma-cancel a b (codes "seen" ++ u) (codes "new" ++ v) x y one e).1))
answer-ends u v (r.Seen a) (r.Seen b) x y one e =
    let both = comma-cancel a b (codes "seen" ++ u) (codes "seen" ++ v) x y one e in (ap r.Seen both.0, append_cancel_left (codes "seen") (u ++ x) (v ++ y) both.1)
answer-ends u v (r.Seen a) r.FullNodes x y one e = absurd (comma-first a (codes ",seen" ++ u) (codes "full-nodes" ++ (v ++ y)) x e)
answer-ends u v (r.Seen a) r.FullRoots x y one e = absurd (comma-first a (codes ",seen" ++ u) (codes "full-roots" ++ (v ++ y)) x e)
answer-ends u v r.FullNodes (r.New b) x y one e = absurd (comma-first b (codes ",new" ++ v) (codes "full-nodes" ++ (u ++ x)) y (sym e))
answer-ends u v r.FullNodes (r.Seen b) x y one e = absurd (comma-first b (codes ",seen" ++ v) (codes "full-nodes" ++ (u ++ x)) y (sym e))
answer-ends u v r.FullNodes r.FullNodes x y one e = (refl, append_cancel_left (codes ",full-nodes") (u ++ x) (v ++ y) e)
answer-ends u v r.FullNodes r.FullRoots x y one e = absurd (nodes-roots u v x y e)
answer-ends u v r.FullRoots (r.New b) x y one e = absurd (comma-first b (codes ",new" ++ v) (codes "full-roots" ++ (u ++ x)) y (sym e))
answer-ends u v r.FullRoots (r.Seen b) x y one e = absurd (comma-first b (codes ",seen" ++ v) (codes "full-roots" ++ (u ++ x)) y (sym e))
answer-ends u v r.FullRoots r.FullNodes x y one e = absurd (nodes-roots v u y x (sym e))
answer-ends u v r.FullRoots r.FullRoots x y one e = (refl, append_cancel_left (codes ",full-roots") (u ++ x) (v ++ y) e)

pub answer-cancel : (p q : Reply) (x y : List ℕ) → HasWordId p → answer p ++ x ≡ answer q ++ y → (p ≡ q) × (x ≡ y)
answer-cancel p q x y one e = let both = answer-ends (codes "\n") (codes "\n") p q x y one e in (both.0, tail-same 10 10 x y both.1)

-- a line, and what it ends with
line-ends : (n : ℕ) (u v : List ℕ) (p q : Reply) (x y : List ℕ) → HasWordId p → line_ending u n p ++ x ≡ line_ending v n q ++ y
    → (p ≡ q) × ((u ++ codes "\n") ++ x ≡ (v ++ codes "\n") ++ y)
line-ends n u v p q x y one e =
    answer-ends (u ++ codes "\n") (v ++ codes "\n") p q x y one
    (append_cancel_left (decimal n ++ codes ",") (answer_ending (u ++ codes "\n") p ++ x) (answer_ending (v ++ codes "\n") q ++ y)
    (sym (append_assoc (decimal n ++ codes ",") (answer_ending (u ++ codes "\n") p) x) ∙ e ∙ append_assoc (decimal n ++ codes ",") (answer_ending (v ++ codes "\n") q) y))

pub line-cancel : (n : ℕ) (p q : Reply) (x y : List ℕ) → HasWordId p → reply_line n p ++ x ≡ reply_line n q ++ y → (p ≡ q) × (x ≡ y)
line-cancel n p q x y one e = let both = line-ends n [] [] p q x y one e in (both.0, tail-same 10 10 x y both.1)

named-text : (name : List ℕ) (n : ℕ) (x : List ℕ) → named_line name n ++ x ≡ name ++ (decimal n ++ 10 ∷ x)
named-text name n x = append_assoc (name ++ decimal n) (codes "\n") x ∙ append_assoc name (decimal n) (10 ∷ x)

pub named-cancel : (name : List ℕ) (a b : ℕ) (x y : List ℕ) → a < 2 ^ 64 → named_line name a ++ x ≡ named_line name b ++ y → (a ≡ b) × (x ≡ y)
named-cancel name a b x y one e =
    number-cancel a b 10 x y one refl
    (append_cancel_left name (decimal a ++ 10 ∷ x) (decimal b ++ 10 ∷ y) (sym (named-text name a x) ∙ e ∙ named-text name b y))

-- a line of a reply doesn't begin as a summary does
summary-other : (end : List ℕ) (n : ℕ) (p : Reply) (x counts : List ℕ) (s : Summary) → line_ending end n p ++ x ≡ summary_with counts s → ⊥
summary-other end n p x counts s e =
    let answered = answer_ending (end ++ codes "\n") p in
    let text = append_assoc (decimal n ++ codes ",") answered x ∙ append_assoc (decimal n) (codes ",") (answered ++ x) in
    not-digit-first n 108 (codes "," ++ (answered ++ x)) (drop 1 (summary_with counts s)) refl (sym text ∙ e)

-- the ends of lines with one number and one reply tell something of these, and where they end
abbrev TellsAt : (one other : Extras) → (ℕ → Reply → Type 0) → ℕ → Type 0
TellsAt one other Tells i = (p : Reply) (x y : List ℕ)
    → (one.ends i p ++ codes "\n") ++ x ≡ (other.ends i p ++ codes "\n") ++ y → Tells i p × (x ≡ y)

-- what is told of the replies to lines that are numbered from n on
abbrev ToldFrom : (ℕ → Reply → Type 0) → ℕ → List Reply → Type 0
ToldFrom Tells n xs = (k : ℕ) → k < length xs → Tells (n + k) (get_or xs k r.FullNodes)

-- what is told of a reply and of those behind it
told-from : (Tells : ℕ → Reply → Type 0) (n : ℕ) (p : Reply) (xs : List Reply) → Tells n p → ToldFrom Tells (n + 1) xs → ToldFrom Tells n (p ∷ xs)
told-from Tells n p xs first rest zero lt = subst (λ (m : ℕ). Tells m p) (let e : n ≡ n + 0 = omega arith in e) first
told-from Tells n p xs first rest (suc k) lt = subst (λ (m : ℕ). Tells m (get_or xs k r.FullNodes)) (let e : (n + 1) + k ≡ n + suc k = omega arith in e) (rest k (omega arith))

-- reports with these ends have the same replies, and lines with one number tell what their ends do
lines-same : (one other : Extras) (Tells : ℕ → Reply → Type 0) (s t : Summary) (n : ℕ) (xs ys : List Reply) → All HasWordId xs
    → ((k : ℕ) → k < length xs → TellsAt one other Tells (n + k))
    → lines_with one n xs ++ summary_with one.counts s ≡ lines_with other n ys ++ summary_with other.counts t
    → (xs ≡ ys) × ToldFrom Tells n xs
unfolding lines_with
lines-same one other Tells s t n [] [] all tell e = (refl, λ k lt. absurd (omega (arith, lt)))
lines-same one other Tells s t n [] (q ∷ ys) all tell e =
    absurd (summary-other (other.ends n q) (n + 1) q (lines_with other (n + 1) ys ++ summary_with other.counts t) one.counts s
    (sym (append_assoc (line_ending (other.ends n q) (n + 1) q) (lines_with other (n + 1) ys) (summary_with other.counts t)) ∙ sym e))
lines-same one other Tells s t n (p ∷ xs) [] all tell e =
    absurd (summary-other (one.ends n p) (n + 1) p (lines_with one (n + 1) xs ++ summary_with one.counts s) other.counts t
    (sym (append_assoc (line_ending (one.ends n p) (n + 1) p) (lines_with one (n + 1) xs) (summary_with one.counts s)) ∙ e))
lines-same one other Tells s t n (p ∷ xs) (q ∷ ys) all tell e =
    let more = lines_with one (n + 1) xs ++ summary_with one.counts s in
    let others = lines_with other (n + 1) ys ++ summary_with other.counts t in
    let both = line-ends (n + 1) (one.ends n p) (other.ends n q) p q more others (All-head HasWordId p xs all)
    (sym (append_assoc (line_ending (one.ends n p) (n + 1) p) (lines_with one (n + 1) xs) (summary_with one.counts s)) ∙ e
    ∙ append_assoc (line_ending (other.ends n q) (n + 1) q) (lines_with other (n + 1) ys) (summary_with other.counts t)) in
    let here : TellsAt one other Tells n = subst (TellsAt one other Tells) (let z : n + 0 ≡ n = omega arith in z) (tell 0 (omega arith)) in
    let told = here p more others (subst (λ (z : Reply). (one.ends n p ++ codes "\n") ++ more ≡ (other.ends n z ++ codes "\n") ++ others) (sym both.0) both.1) in
    let rest = lines-same one other Tells s t (n + 1) xs ys (All-tail HasWordId p xs all)
    (λ k lt. subst (TellsAt one other Tells) (let z : n + suc k ≡ (n + 1) + k = omega arith in z) (tell (suc k) (omega arith))) told.1 in (
      ap (λ (z : Reply). z ∷ xs) both.0 ∙ ap (λ (zs : List Reply). q ∷ zs) rest.0,
      told-from Tells n p xs told.0 rest.1,
    )

pub one-report : OneReport
one-report replies others summary other all e =
    (lines-same no_extras no_extras (λ k p. ⊤) summary other 0 replies others all (λ k lt p x y f. (tt, tail-same 10 10 x y f)) e).0

-- lists of one length with the same numbers at all places are the same
same-numbers : (xs ys : List ℕ) → length xs ≡ length ys → ((k : ℕ) → k < length xs → slice_index xs k ≡ slice_index ys k) → xs ≡ ys
same-numbers [] [] long same = refl
same-numbers [] (y ∷ ys) long same = absurd (omega (arith, long))
same-numbers (x ∷ xs) [] long same = absurd (omega (arith, long))
same-numbers (x ∷ xs) (y ∷ ys) long same =
    let first : x ≡ y = same 0 (omega arith) in
    let rest = same-numbers xs ys (omega (arith, long)) (λ k lt. same (suc k) (omega arith)) in
    ap (λ (z : ℕ). z ∷ xs) first ∙ ap (λ (zs : List ℕ). y ∷ zs) rest

pub one-drawn-report : OneDrawnReport
one-drawn-report replies others drawn workers summary other all fit long same e =
    let Tells : ℕ → Reply → Type 0 = λ k p. slice_index drawn k ≡ slice_index workers k in
    let both = lines-same (drawers drawn) (drawers workers) Tells summary other 0 replies others all
    (λ k lt p x y f. number-cancel (slice_index drawn (0 + k)) (slice_index workers (0 + k)) 10 x y (All-get_or (λ (j : ℕ). j < 2 ^ 64) drawn (0 + k) 0 (omega arith) fit) refl
    (sym (number-text (slice_index drawn (0 + k)) 10 [] x) ∙ tail-same 44 44 _ _ f ∙ number-text (slice_index workers (0 + k)) 10 [] y)) e in
    let count = ap (λ (z : List Reply). length z) both.0 in (
      both.0,
      same-numbers drawn workers (omega (arith, long, same, count)) (λ k lt. subst (λ (m : ℕ). slice_index drawn m ≡ slice_index workers m) (let z : 0 + k ≡ k = omega arith in z) (both.1 k (omega (arith, lt, long)))),
    )

-- a mark at the end of a line that isn't full tells whether the line was marked first
mark-ends : (b d : Bool) (p : Reply) (x y : List ℕ) → (mark_ending b p ++ codes "\n") ++ x ≡ (mark_ending d p ++ codes "\n") ++ y
    → (is_full p ≡ false → b ≡ d) × (x ≡ y)
mark-ends true true p x y e = (λ f. refl, append_cancel_left (mark_ending true p ++ codes "\n") x y e)
mark-ends false false p x y e = (λ f. refl, append_cancel_left (mark_ending false p ++ codes "\n") x y e)
mark-ends true false (r.New id) x y e = absurd (apart (ap (λ (t : List ℕ). get_or t 1 0 == 102) e))
mark-ends true false (r.Seen id) x y e = absurd (apart (ap (λ (t : List ℕ). get_or t 1 0 == 102) e))
mark-ends true false r.FullNodes x y e = (λ f. cc f, tail-same 10 10 x y e)
mark-ends true false r.FullRoots x y e = (λ f. cc f, tail-same 10 10 x y e)
mark-ends false true (r.New id) x y e = absurd (apart (ap (λ (t : List ℕ). get_or t 1 0 == 102) (sym e)))
mark-ends false true (r.Seen id) x y e = absurd (apart (ap (λ (t : List ℕ). get_or t 1 0 == 102) (sym e)))
mark-ends false true r.FullNodes x y e = (λ f. cc f, tail-same 10 10 x y e)
mark-ends false true r.FullRoots x y e = (λ f. cc f, tail-same 10 10 x y e)

-- lists of one length with the same marks at all places are the same
same-marks : (xs ys : List Bool) → length xs ≡ length ys → ((k : ℕ) → k < length xs → slice_index_or xs k false ≡ slice_index_or ys k false) → xs ≡ ys
same-marks [] [] long same = refl
same-marks [] (y ∷ ys) long same = absurd (omega (arith, long))
same-marks (x ∷ xs) [] long same = absurd (omega (arith, long))
same-marks (x ∷ xs) (y ∷ ys) long same =
    let first : x ≡ y = same 0 (omega arith) in
    let rest = same-marks xs ys (omega (arith, long)) (λ k lt. same (suc k) (omega arith)) in
    ap (λ (z : Bool). z ∷ xs) first ∙ ap (λ (zs : List Bool). y ∷ zs) rest

-- a full line has no mark
no-mark : (replies : List Reply) (firsts : List Bool) (k : ℕ) (d : Reply) → AreMarks replies firsts → k < length replies → is_full (get_or replies k d) ≡ true → slice_index_or firsts k false ≡ false
no-mark replies firsts k d mine lt full = get_or_from_slice_get firsts k false false (mine.full k (get_or replies k d) (slice_get-get_or replies k d lt) full)

pub one-marked-report : OneMarkedReport
one-marked-report replies others firsts marked summary other all mine its e =
    let Tells : ℕ → Reply → Type 0 = λ k p. is_full p ≡ false → slice_index_or firsts k false ≡ slice_index_or marked k false in
    let both = lines-same (marks firsts (marked_count replies firsts)) (marks marked (marked_count others marked)) Tells summary other 0 replies others all
    (λ k lt p x y f. mark-ends (slice_index_or firsts (0 + k) false) (slice_index_or marked (0 + k) false) p x y f) e in
    let same : replies ≡ others = both.0 in
    let long = ap (λ (z : List Reply). length z) same in
    let own = mine.one_each in
    let other-own = its.one_each in
    let theirs : AreMarks replies marked = subst (λ (z : List Reply). AreMarks z marked) (sym same) its in
    (same, same-marks firsts marked (omega (arith, long, own, other-own)) (λ k lt. at k (omega (arith, lt, own)) theirs (both.1 k (omega (arith, lt, own)))))
  where
    at : (k : ℕ) → k < length replies → AreMarks replies marked → (is_full (get_or replies k r.FullNodes) ≡ false → slice_index_or firsts (0 + k) false ≡ slice_index_or marked (0 + k) false)
        → slice_index_or firsts k false ≡ slice_index_or marked k false
    at k lt theirs told = by (is_full (get_or replies k r.FullNodes)) refl
      where
        by : (b : Bool) → is_full (get_or replies k r.FullNodes) ≡ b → slice_index_or firsts k false ≡ slice_index_or marked k false
        by false f = subst (λ (m : ℕ). slice_index_or firsts m false ≡ slice_index_or marked m false) (let z : 0 + k ≡ k = omega arith in z) (told f)
        by true f = no-mark replies firsts k r.FullNodes mine lt f ∙ sym (no-mark replies marked k r.FullNodes theirs lt f)
