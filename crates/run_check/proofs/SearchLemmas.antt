-- What is left to find of a history, call by call.
use Rattle.std.proofs.Common.{◌≡◌, ◌≤◌, ◌<◌, ◌+◌, ◌-◌, ◌∙◌, ℕ, zero, suc, List, [], ◌∷◌, ◌++◌, length, Option, Some, None, Bool, true, refl, sym, ap, subst, arith, append_assoc, append-nil, length-append, ⊎_elim}
use Rattle.std.proofs.Math.Seq.{take-append_seam}
use Rattle.std.proofs.lemmas.List.Sums.{sum_by-cons}
use Rattle.std.specs.Prelude.{◌==◌, ◌/◌, ◌%◌, ◌↔◌, Result, Ok, Err, IfOk, IsTrue, slice_get, sum_by, take}
use Rattle.std.specs.List.{cons_option, filter_map, range_with_len, zip}
use Rattle.tdb_base.specs.Agrees.{Agrees, entry_of_line}
use Rattle.tdb_base.specs.History.{Vector, Entry, History}
use Rattle.tdb_base.specs.Legal.{IsLegal}
use Rattle.tdb_base.specs.Lines.{dealt_to, mine}
use Rattle.tdb_base.specs.declared.reply.Reply.{Reply}
use Rattle.tdb_base.specs.declared.reply.Reply.TheVariants as r
use Rattle.tdb_base.proofs.AgreesLemmas.{at-after, insertion-entries}
use Rattle.tdb_base.proofs.ListLemmas.{At, at-contained, at-filter, at-next, at-range, before-or-last, filter-at}
use Rattle.tdb_base.proofs.SumLemmas.{sum-ones}
use Rattle.tdb_base.proofs.TallyLemmas.{contained-at, dealt-shared, length-zip, line_weight, tally}
use Rattle.run_check.specs.Reached.{owner}
use Rattle.run_check.specs.Search.{GoesOn}
use Rattle.run_check.specs.Sentences.{HasHistory}
use Rattle.run_check.proofs.Building.{place-in-range, zero-plus}

pub range-push : (from n : ℕ) → range_with_len from (suc n) ≡ range_with_len from n ++ (from + n) ∷ []
range-push from zero = let same : from ≡ from + 0 = omega arith in ap (λ (k : ℕ). k ∷ []) same
range-push from (suc n) =
    let same : (from + 1) + n ≡ from + suc n = omega arith in
    ap (λ (t : List ℕ). from ∷ t) (range-push (from + 1) n ∙ ap (λ (k : ℕ). range_with_len (from + 1) n ++ k ∷ []) same)

pub count-push : (n : ℕ) → range_with_len 0 (n + 1) ≡ range_with_len 0 n ++ n ∷ []
count-push n =
    let next : n + 1 ≡ suc n = omega arith in
    ap (λ (k : ℕ). range_with_len 0 k) next ∙ range-push 0 n ∙ ap (λ (k : ℕ). range_with_len 0 n ++ k ∷ []) (sym (zero-plus n))

-- a list that took an element and gave it back
pub popped : {A : Type 0} (old new h : List A) (e : A) (n : ℕ) → n ≡ length old → old ≡ h ++ e ∷ [] → new ≡ take (n - 1) old → new ≡ h
popped {A} old new h e n count is rest =
    let long = length-append h (e ∷ []) in
    let same : n - 1 ≡ length h = omega (arith, count, ap (λ (t : List A). length t) is, long) in
    rest ∙ ap (λ (k : ℕ). take k old) same ∙ ap (λ (t : List A). take (length h) t) is ∙ take-append_seam h (e ∷ [])

pub none-more : (P : ℕ → Type 0) (i : ℕ) → ((k : ℕ) → k < i → P k → ⊥) → (P i → ⊥) → (k : ℕ) → k < i + 1 → P k → ⊥
none-more P i before here k lt p = ⊎_elim (λ (less : k < i). before k less p) (λ (last : k ≡ i). here (subst P last p)) (before-or-last k i lt)

-- where an element of a list of values comes from
source : {A B : Type 0} (f : A → Option B) (xs : List A) (y : B) (k : ℕ) → slice_get (filter_map f xs) k ≡ Some y → (x : A) × At xs x × (f x ≡ Some y)
source f [] y k e = cc e
source {A} f (x ∷ xs) y k e = by (source f xs y) (f x) refl k e
  where
    further : (x2 : A) × At xs x2 × (f x2 ≡ Some y) → (x2 : A) × At (x ∷ xs) x2 × (f x2 ≡ Some y)
    further it = (it.0, at-next x xs it.0 it.1, it.2)

    by : ((k : ℕ) → slice_get (filter_map f xs) k ≡ Some y → (x2 : A) × At xs x2 × (f x2 ≡ Some y)) → (o : Option _) → f x ≡ o → (k : ℕ) → slice_get (cons_option o (filter_map f xs)) k ≡ Some y
        → (x2 : A) × At (x ∷ xs) x2 × (f x2 ≡ Some y)
    by more None is k e = further (more k e)
    by more (Some z) is zero e = (x, (zero, refl), is ∙ e)
    by more (Some z) is (suc k) e = further (more k e)

sum-few : {A : Type 0} (f : A → ℕ) (xs : List A) → ((x : A) → f x ≤ 1) → sum_by f xs ≤ length xs
sum-few f [] few = omega arith
sum-few f (x ∷ xs) few = let one = few x in let rest = sum-few f xs few in let both = sum_by-cons f x xs in omega (arith, one, rest, both)

-- a line has one call at most
one-call : (line : Vector × Reply) → line_weight (λ v fresh. 1) line ≤ 1
one-call (v, r.New id) = omega arith
one-call (v, r.Seen id) = omega arith
one-call (v, r.FullNodes) = omega arith
one-call (v, r.FullRoots) = omega arith

module _ (trace : List Vector) (replies : List Reply) (workers block : ℕ) where
  abbrev pub AgreesNow : History → Type 0
  AgreesNow h = Agrees 0 trace replies workers block [] h (range_with_len 0 workers)

  -- the reply to a line tells of a call, and these and that one go on
  abbrev pub GoesOnBy : History → ℕ → ℕ → Type 0
  GoesOnBy h left i = (e : Entry) × (entry_of_line (owner workers block i) trace replies i ≡ Some e)
      × GoesOn trace replies workers block (h ++ e ∷ []) left

  pub goes-here : (h : History) (left : ℕ) → AgreesNow h → GoesOn trace replies workers block h left
  goes-here h left a = record { more = []; few = omega arith; agrees = subst AgreesNow (sym (append-nil h)) a }

  pub goes-by : (h : History) (left i : ℕ) → 0 < left → GoesOnBy h (left - 1) i → GoesOn trace replies workers block h left
  goes-by h left i some g =
      let few = g.2.few in record {
        more = g.0 ∷ g.2.more;
        few = omega (arith, few, some);
        agrees = subst AgreesNow (append_assoc h (g.0 ∷ []) g.2.more) g.2.agrees;
      }

  -- the next call of a history that has the replies is told of by one of them
  next-line : (h : History) (e : Entry) (more : History) → AgreesNow (h ++ e ∷ more)
      → (i : ℕ) × (i < length trace) × (entry_of_line (owner workers block i) trace replies i ≡ Some e)
  next-line h e more a =
      let all = h ++ e ∷ more in
      let at : slice_get all (0 + length h) ≡ Some e = at-after h (e ∷ more) e 0 refl in
      let known = at-contained (range_with_len 0 workers) e.caller (a.no_others all refl e (contained-at all e (0 + length h, at))) in
      let place = place-in-range workers known.0 e.caller known.1 in
      let own : slice_get (range_with_len 0 workers) e.caller ≡ Some e.caller = at-range 0 workers e.caller place.1 ∙ ap Some (sym (zero-plus e.caller)) in
      let told = a.among.in_order e.caller e.caller own ∙ insertion-entries e.caller trace replies (mine (length trace) workers block e.caller) in
      let self : (e.caller == e.caller) ≡ true = grind arith in
      let there = at-filter (λ (x : Entry). x.caller == e.caller) all e (0 + length h) at self in
      let from = source (entry_of_line e.caller trace replies) (mine (length trace) workers block e.caller) e there.0
      (ap (λ (t : List Entry). slice_get t there.0) (sym told) ∙ there.1) in
      let line = filter-at (λ i. i / block % workers == e.caller) (range_with_len 0 (length trace)) from.0 from.1.0 from.1.1 in
      let within = place-in-range (length trace) line.0.0 from.0 line.0.1 in
      let his : owner workers block from.0 ≡ e.caller = let is = line.1 in grind arith in
      (from.0, within.1, ap (λ (c : ℕ). entry_of_line c trace replies from.0) his ∙ from.2)

  pub goes-nowhere : (h : History) (left : ℕ) → (AgreesNow h → ⊥)
      → (0 < left → (k : ℕ) → k < length trace → GoesOnBy h (left - 1) k → ⊥) → GoesOn trace replies workers block h left → ⊥
  goes-nowhere h left not_here none g = by g.more g.few g.agrees
    where
      by : (more : History) → length more ≤ left → AgreesNow (h ++ more) → ⊥
      by [] few a = not_here (subst AgreesNow (append-nil h) a)
      by (e ∷ more) few a =
          let line = next-line h e more a in
          none (omega (arith, few)) line.0 line.1 (e, line.2, record { more = more; few = omega (arith, few); agrees = subst AgreesNow (sym (append_assoc h (e ∷ []) more)) a })

  pub goes-legally : (h : History) (left : ℕ) → GoesOn trace replies workers block h left → IsLegal 0 h
  goes-legally h left g = record {
    each = λ before e after cut.
        g.agrees.among.legal.each before e (after ++ g.more) (ap (λ (t : History). t ++ g.more) cut ∙ append_assoc before (e ∷ after) g.more);
  }

  -- a history that has the replies has no more calls than there are lines
  short : (h : History) → 0 < workers → AgreesNow h → length h ≤ length trace
  short h some a =
      let all = tally 0 (dealt_to workers block) trace replies workers h (range_with_len 0 workers) (λ v fresh. 1) a (dealt-shared (length trace) workers block some) in
      let ones = sum-ones h in
      let few = sum-few (line_weight (λ v fresh. 1)) (zip trace replies) one-call in
      let same = length-zip trace replies a.among.one_each in
      omega (arith, all, ones, few, same)

  pub from-nothing : {E : Type 0} (result : Result Bool E) (h : History) (left : ℕ) → 0 < workers → h ≡ [] → left ≡ length trace
      → IfOk result (λ found. IsTrue found ↔ GoesOn trace replies workers block h left)
      → IfOk result (λ found. IsTrue found ↔ HasHistory 0 trace replies workers block)
  from-nothing (Err error) h left some none all told = told
  from-nothing (Ok found) h left some none all told = (
    λ yes. (let g = told.0 yes in (g.more, subst AgreesNow (ap (λ (t : History). t ++ g.more) none) g.agrees)),
    λ it. told.1 (record {
      more = it.0;
      few = let few = short it.0 some it.1 in omega (arith, few, all);
      agrees = subst AgreesNow (ap (λ (t : History). t ++ it.0) (sym none)) it.1;
    }),
  )
