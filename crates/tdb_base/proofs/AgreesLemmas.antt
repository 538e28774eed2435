-- Lists read from the front, as the plain slow decider of agreement reads them.
use Rattle.std.proofs.Common.{◌≡◌, ◌≢◌, ◌≤◌, ◌<◌, ◌+◌, ◌/◌, ◌%◌, ℕ, zero, suc, List, [], ◌∷◌, ◌++◌, length, Option, Some, None, Bool, true, false, cond, refl, sym, ap, subst, arith, ◌∙◌, take, append-nil, length-append, eq-eqb}
use Rattle.std.proofs.lemmas.List.{take_all, take_more}
use Rattle.std.proofs.lemmas.List.Elements.{filter-append, filter_map-append}
use Rattle.std.proofs.lemmas.Option.{slice_get_within, slice_get_past, get_or_from_slice_get}
use Rattle.std.specs.Prelude.{◌&&◌, ◌==◌, ◌↔◌, IsTrue, filter, flat_map, if◌then◌else◌, is_some, not, nat_lt, slice_get}
use Rattle.std.specs.List.{filter_map}
use Rattle.std.specs.Option.{option_copied}
use Rattle.std.specs.Borrow.{Bor}
use Rattle.tdb_base.specs.Agrees.{entries_of_insertion, entry_of, entry_of_line}
use Rattle.tdb_base.specs.History.{Vector, Entry, History, calls}
use Rattle.tdb_base.specs.Lines.{mine}
use Rattle.tdb_base.specs.Replies.{is_full}
use Rattle.tdb_base.specs.declared.reply.Reply.{Reply}
use Rattle.tdb_base.specs.declared.reply.Reply.TheVariants as r
use Rattle.tdb_base.proofs.DistinctLemmas.{mine-more}
use Rattle.tdb_base.proofs.ListLemmas.{At, at-filter, at-within, flat_map-options}

pub at-after : {A : Type 0} (xs ys : List A) (x : A) (k : ℕ) → slice_get ys k ≡ Some x → slice_get (xs ++ ys) (k + length xs) ≡ Some x
at-after [] ys x k e = let same : k ≡ k + 0 = omega arith in subst (λ (n : ℕ). slice_get ys n ≡ Some x) same e
at-after (z ∷ xs) ys x k e =
    let same : suc (k + length xs) ≡ k + length (z ∷ xs) = omega arith in
    subst (λ (n : ℕ). slice_get (z ∷ (xs ++ ys)) n ≡ Some x) same (at-after xs ys x k e)

pub at-past : {A : Type 0} (xs ys : List A) (x : A) (k : ℕ) → length xs ≤ k → slice_get (xs ++ ys) k ≡ Some x → At ys x
at-past [] ys x k h e = (k, e)
at-past (z ∷ xs) ys x zero h e = absurd (omega arith)
at-past (z ∷ xs) ys x (suc k) h e = at-past xs ys x k (omega arith) e

-- what a list has one element more
take-here : {A : Type 0} (xs : List A) (i : ℕ) (x : A) → slice_get xs i ≡ Some x → take (i + 1) xs ≡ take i xs ++ x ∷ []
take-here xs i x e = take_more xs i x (slice_get_within xs i x e) ∙ ap (λ (y : _). take i xs ++ y ∷ []) (get_or_from_slice_get xs i x x e)

-- an element that a filter keeps stands behind those of the elements before it that it keeps
pub filter-here : {A : Type 0} (p : A → Bool) (xs : List A) (i : ℕ) (x : A) → slice_get xs i ≡ Some x → p x ≡ true
    → slice_get (filter p xs) (length (filter p (take i xs))) ≡ Some x
filter-here p [] i x e t = cc e
filter-here p (y ∷ xs) zero x e t = let one : y ≡ x = cc e in let yes : p y ≡ true = ap p one ∙ t in rw yes (ap Some one)
filter-here p (y ∷ xs) (suc i) x e t = by (p y) (filter-here p xs i x e t)
  where
    by : (b : Bool) → slice_get (filter p xs) (length (filter p (take i xs))) ≡ Some x
        → slice_get (cond b (y ∷ filter p xs) (filter p xs)) (length (cond b (y ∷ filter p (take i xs)) (filter p (take i xs)))) ≡ Some x
    by true h = h
    by false h = h

pub filter-count : {A : Type 0} (p : A → Bool) (xs : List A) (i : ℕ) (x : A) → slice_get xs i ≡ Some x
    → length (filter p (take (i + 1) xs)) ≡ length (filter p (take i xs)) + cond (p x) 1 0
filter-count p xs i x e = ap (λ (t : List _). length (filter p t)) (take-here xs i x e) ∙ ap length (filter-append p (take i xs) (x ∷ [])) ∙ by (p x)
  where
    by : (b : Bool) → length (filter p (take i xs) ++ cond b (x ∷ []) []) ≡ length (filter p (take i xs)) + cond b 1 0
    by true = simp length-append
    by false = simp length-append

-- a list begins with some elements and one more, where it begins with the ones and has the one behind them
next-there : {A : Type 0} (ys xs : List A) (e : A) → take (suc (length ys)) xs ≡ ys ++ e ∷ [] → (take (length ys) xs ≡ ys) × (slice_get xs (length ys) ≡ Some e)
next-there [] [] e h = cc h
next-there [] (x ∷ xs) e h = (refl, cc h)
next-there (y ∷ ys) [] e h = cc h
next-there (y ∷ ys) (x ∷ xs) e h =
    let one : x ≡ y = cc h in
    let rest : take (suc (length ys)) xs ≡ ys ++ e ∷ [] = cc h in
    let more = next-there ys xs e rest in
    (cc (one, more.0), more.1)

pub begins-more : {A : Type 0} (xs ys : List A) (n : ℕ) (e : A) → n ≡ length ys → ((take n xs ≡ ys) × (slice_get xs n ≡ Some e)) ↔ (take (n + 1) xs ≡ ys ++ e ∷ [])
begins-more xs ys n e len = (
  λ h. take-here xs n e h.1 ∙ ap (λ (t : List _). t ++ e ∷ []) h.0,
  λ h. let longer : take (suc (length ys)) xs ≡ ys ++ e ∷ [] = ap (λ (k : ℕ). take (suc k) xs) (sym len) ∙ (let one : suc n ≡ n + 1 = omega arith in ap (λ (k : ℕ). take k xs) one) ∙ h in
      let there = next-there ys xs e longer in
      subst (λ (k : ℕ). (take k xs ≡ ys) × (slice_get xs k ≡ Some e)) (sym len) there,
)

-- a list is some elements, where it begins with them and has none behind them
pub begins-all : {A : Type 0} (xs ys : List A) (n : ℕ) → n ≡ length ys → ((take n xs ≡ ys) × (slice_get xs n ≡ None)) ↔ (xs ≡ ys)
begins-all xs ys n len = (
  λ h. sym (take_all n xs (past h.1)) ∙ h.0,
  λ h. let same : length xs ≡ length ys = ap length h in
      let all : length xs ≤ n = omega arith in
      (take_all n xs all ∙ h, slice_get_past xs n all),
)
  where
    past : slice_get xs n ≡ None → length xs ≤ n
    past e = by (nat_lt n (length xs)) refl
      where
        by : (b : Bool) → nat_lt n (length xs) ≡ b → length xs ≤ n
        by true t = let inside : n < length xs = grind arith in let there = at-within xs n inside in cc (e, there.1)
        by false t = grind arith

-- a reply that isn't full tells of an entry
pub told-entry : (c : ℕ) (v : Vector) (reply : Reply) → is_full reply ≡ false → (e : Entry) × (entry_of c v reply ≡ Some e)
told-entry c v (r.New id) f = (_, refl)
told-entry c v (r.Seen id) f = (_, refl)
told-entry c v r.FullNodes f = cc f
told-entry c v r.FullRoots f = cc f

full-silent : (c : ℕ) (v : Vector) (reply : Reply) → is_full reply ≡ true → entry_of c v reply ≡ None
full-silent c v (r.New id) f = cc f
full-silent c v (r.Seen id) f = cc f
full-silent c v r.FullNodes f = refl
full-silent c v r.FullRoots f = refl

pub at-line : (c : ℕ) (trace : List Vector) (replies : List Reply) (i : ℕ) (v : Vector) (reply : Reply) → slice_get trace i ≡ Some v → slice_get replies i ≡ Some reply
    → entry_of_line c trace replies i ≡ entry_of c v reply
at-line c trace replies i v reply a b = rw (a, b) refl

-- inserting some lines makes the entries that the replies to them tell of
pub insertion-entries : (c : ℕ) (trace : List Vector) (replies : List Reply) (places : List ℕ)
    → flat_map (entries_of_insertion trace replies c) places ≡ filter_map (entry_of_line c trace replies) places
insertion-entries c trace replies places = flat_map-options (entry_of_line c trace replies) places

-- the entries that the replies to the first lines of a worker's tell of
abbrev pub dealt_entries : ℕ → List Vector → List Reply → ℕ → ℕ → ℕ → ℕ → List Entry
dealt_entries c trace replies workers block worker lines = filter_map (entry_of_line c trace replies) (mine lines workers block worker)

entries-line : (c : ℕ) (trace : List Vector) (replies : List Reply) (workers block worker i : ℕ)
    → dealt_entries c trace replies workers block worker (i + 1)
    ≡ dealt_entries c trace replies workers block worker i ++ filter_map (entry_of_line c trace replies) (if i / block % workers == worker then i ∷ [] else [])
entries-line c trace replies workers block worker i =
    ap (filter_map (entry_of_line c trace replies)) (mine-more i workers block worker)
    ∙ filter_map-append (entry_of_line c trace replies) (mine i workers block worker) (if i / block % workers == worker then i ∷ [] else [])

both : (a b : Bool) → true ≡ (a && b) → (a ≡ true) × (b ≡ true)
both true true e = (refl, refl)
both true false e = cc e
both false b e = cc e

-- one line more, which tells of an entry or not
pub entries-more : (c : ℕ) (trace : List Vector) (replies : List Reply) (workers block worker i : ℕ) (v : Vector) (reply : Reply) (e : Entry)
    → slice_get trace i ≡ Some v → slice_get replies i ≡ Some reply → true ≡ ((i / block % workers == worker) && not (is_full reply)) → entry_of c v reply ≡ Some e
    → dealt_entries c trace replies workers block worker (i + 1) ≡ dealt_entries c trace replies workers block worker i ++ e ∷ []
entries-more c trace replies workers block worker i v reply e a b tells is =
    let own = (both (i / block % workers == worker) (not (is_full reply)) tells).0 in
    let here : entry_of_line c trace replies i ≡ Some e = at-line c trace replies i v reply a b ∙ is in
    entries-line c trace replies workers block worker i ∙ ap (λ (t : List Entry). dealt_entries c trace replies workers block worker i ++ t) (rw (own, here) refl)

pub entries-same : (c : ℕ) (trace : List Vector) (replies : List Reply) (workers block worker i : ℕ) (v : Vector) (reply : Reply)
    → slice_get trace i ≡ Some v → slice_get replies i ≡ Some reply → false ≡ ((i / block % workers == worker) && not (is_full reply))
    → dealt_entries c trace replies workers block worker (i + 1) ≡ dealt_entries c trace replies workers block worker i
entries-same c trace replies workers block worker i v reply a b silent =
    entries-line c trace replies workers block worker i
    ∙ ap (λ (t : List Entry). dealt_entries c trace replies workers block worker i ++ t) (by (i / block % workers == worker) (is_full reply) refl silent)
    ∙ append-nil (dealt_entries c trace replies workers block worker i)
  where
    by : (own full : Bool) → is_full reply ≡ full → false ≡ (own && not full) → filter_map (entry_of_line c trace replies) (if own then i ∷ [] else []) ≡ []
    by false full f e = refl
    by true true f e = let none : entry_of_line c trace replies i ≡ None = at-line c trace replies i v reply a b ∙ full-silent c v reply f in rw none refl
    by true false f e = cc e

-- a caller of no entry has no calls, and the caller of an entry has some
pub calls-none : (h : History) (c : ℕ) → ((k : ℕ) (e : Entry) → slice_get h k ≡ Some e → e.caller ≡ c → ⊥) → calls h c ≡ []
calls-none [] c free = refl
calls-none (e ∷ h) c free = by (e.caller == c) refl (calls-none h c (λ k f at. free (suc k) f at))
  where
    by : (b : Bool) → (e.caller == c) ≡ b → calls h c ≡ [] → cond b (e ∷ calls h c) (calls h c) ≡ []
    by true t rest = let own : e.caller ≡ c = grind arith in absurd (free zero e refl own)
    by false t rest = rest

pub calls-some : (h : History) (k : ℕ) (e : Entry) → slice_get h k ≡ Some e → calls h e.caller ≢ []
calls-some h k e at none =
    let there = at-filter (λ (f : Entry). f.caller == e.caller) h e k at (eq-eqb e.caller e.caller refl) in
    let nowhere : None ≡ Some e = ap (λ (t : History). slice_get t there.0) (sym none) ∙ there.1 in
    cc nowhere

and-iff : (f g : Bool) (P Q R : Type 0) → (IsTrue f ↔ P) → (IsTrue g ↔ Q) → ((P × Q) ↔ R) → (IsTrue (f && g) ↔ R)
and-iff true g P Q R here next whole = (λ t. whole.0 (here.0 refl, next.0 t), λ r. next.1 (whole.1 r).1)
and-iff false g P Q R here next whole = (λ t. cc t, λ r. here.1 (whole.1 r).0)

-- a walk over the lines that compares the entries with the caller's calls: one line more, which tells of an entry
pub walk-more : (c : ℕ) (trace : List Vector) (replies : List Reply) (workers block worker i : ℕ) (v : Vector) (reply : Reply) (mine_all : List Entry) (n : ℕ) (fine one : Bool)
    → slice_get trace i ≡ Some v → slice_get replies i ≡ Some reply → true ≡ ((i / block % workers == worker) && not (is_full reply))
    → (IsTrue fine ↔ (take n mine_all ≡ dealt_entries c trace replies workers block worker i)) → n ≡ length (dealt_entries c trace replies workers block worker i)
    → (IsTrue one ↔ (slice_get mine_all n ≡ entry_of c v reply))
    → (IsTrue (fine && one) ↔ (take (n + 1) mine_all ≡ dealt_entries c trace replies workers block worker (i + 1))) × (n + 1 ≡ length (dealt_entries c trace replies workers block worker (i + 1)))
walk-more c trace replies workers block worker i v reply mine_all n fine one a b tells same count next =
    let heard : is_full reply ≡ false = not-full (is_full reply) (both (i / block % workers == worker) (not (is_full reply)) tells).1 in
    let entry = told-entry c v reply heard in
    let longer = entries-more c trace replies workers block worker i v reply entry.0 a b tells entry.1 in
    let begins = begins-more mine_all (dealt_entries c trace replies workers block worker i) n entry.0 count in (
      and-iff fine one (take n mine_all ≡ dealt_entries c trace replies workers block worker i) (slice_get mine_all n ≡ entry_of c v reply)
          (take (n + 1) mine_all ≡ dealt_entries c trace replies workers block worker (i + 1)) same next
          (λ h. begins.0 (h.0, h.1 ∙ entry.1) ∙ sym longer, λ h. let there = begins.1 (h ∙ longer) in (there.0, there.1 ∙ sym entry.1)),
      (let one_more = ap length longer in omega (arith, one_more, count, length-append (dealt_entries c trace replies workers block worker i) (entry.0 ∷ []))),
    )
  where
    not-full : (full : Bool) → not full ≡ true → full ≡ false
    not-full true e = cc e
    not-full false e = refl

-- a reference that may be there, and what it refers to
pub nothing-there : {A : Type 0} (r : Option (Bor A)) (none : Bool) (o : Option A) → is_some r ≡ not none → option_copied r ≡ o → (IsTrue none ↔ (o ≡ None))
nothing-there None true o some same = (λ t. sym same, λ e. refl)
nothing-there None false o some same = cc some
nothing-there (Some x) true o some same = cc some
nothing-there (Some x) false o some same = (λ t. cc t, λ e. cc (same, e))
