-- The plain sentences of the headline, from the agreement of replies with a history, over lists alone.
use Rattle.std.proofs.Common.{◌≡◌, ◌<◌, ℕ, zero, suc, List, [], ◌∷◌, length, Option, Some, None, Bool, true, false, cond, refl, sym, ap, subst, arith, ◌∙◌}
use Rattle.std.proofs.lemmas.List.Sums.{sum_by-cons}
use Rattle.std.proofs.lemmas.Option.{slice_get_within}
use Rattle.std.specs.Prelude.{◌&&◌, ◌||◌, ◌==◌, map, slice_get, count_by, sum_by, option_and_then}
use Rattle.std.specs.List.{list_any, range_with_len, zip}
use Rattle.tdb_base.specs.Agrees.{AgreesOver, AgreesOverAmongOthers, AgreesOwned, AgreesOwnedAmongOthers, entries_of_insertion, entry_of}
use Rattle.tdb_base.specs.Headline.{CountsDistinct, CountsNames, DifferentLinesDifferentIds, EachNewOnce, EqualLinesEqualIds, id_at}
use Rattle.tdb_base.specs.History.{Vector, Put, Entry, History, calls, name_of, same}
use Rattle.tdb_base.specs.Legal.{PutsOnly}
use Rattle.tdb_base.specs.Lines.{AreShared, distinct}
use Rattle.tdb_base.specs.Replies.{id_of, is_full, is_new}
use Rattle.tdb_base.specs.declared.reply.Reply.{Reply}
use Rattle.tdb_base.specs.declared.reply.Reply.TheVariants as r
use Rattle.tdb_base.proofs.DistinctLemmas.{count-filter, count-named, count-same, distinct-sum}
use Rattle.tdb_base.proofs.ListLemmas.{At, at-contained, at-filter, at-flat_map, at-range, at-within, cut-at, filter-at}
use Rattle.tdb_base.proofs.NameLemmas.{any-flags, entry-named, gives-once, names-differ}
use Rattle.tdb_base.proofs.SumLemmas.{sum-same}
use Rattle.tdb_base.proofs.TallyLemmas.{line_weight, tally, zip-at}

-- a reply that gives an identifier tells of an entry for its line
pub record Tells (caller : ℕ) (v : Vector) (reply : Reply) (id : ℕ) : Type 0 where
  pub entry : Entry
  pub told : entry_of caller v reply ≡ Some entry
  pub vector : entry.vector ≡ v
  pub named : entry.id ≡ id

pub tells : (caller : ℕ) (v : Vector) (reply : Reply) (id : ℕ) → id_of reply ≡ Some id → Tells caller v reply id
tells caller v (r.New n) id e = record { entry = record { caller = caller; act = Put true; vector = v; id = n }; told = refl; vector = refl; named = cc e }
tells caller v (r.Seen n) id e = record { entry = record { caller = caller; act = Put false; vector = v; id = n }; told = refl; vector = refl; named = cc e }
tells caller v r.FullNodes id e = cc e
tells caller v r.FullRoots id e = cc e

-- an entry of a worker's line stands in the history, so its vector has its identifier as its name
pub line-entry-named : {count : ℕ} {lines_of : ℕ → List ℕ} {line_entries : ℕ → ℕ → History}
    {trace : List Vector} {replies : List Reply} {workers : ℕ} {earlier h : History} {callers : List ℕ}
    → AgreesOverAmongOthers count lines_of line_entries trace replies workers earlier h callers
    → (j c i : ℕ) (e : Entry) → slice_get callers j ≡ Some c → At (lines_of j) i → At (line_entries c i) e
    → name_of h e.vector ≡ Some e.id
line-entry-named {count} {lines_of} {line_entries} {h = h} agrees j c i e caller own made =
    let listed = at-flat_map (line_entries c) (lines_of j) i e own.0 own.1 made in
    let called : slice_get (calls h c) listed.0 ≡ Some e = ap (λ (t : History). slice_get t listed.0) (agrees.in_order j c caller) ∙ listed.1 in
    let place = (filter-at (λ (x : Entry). x.caller == c) h e listed.0 called).0 in
    let cut = cut-at h e place.0 place.1 in
    entry-named count h cut.before cut.after e agrees.legal cut.whole

-- the vector of a line that was answered an identifier has it as its name
pub line-named : (count : ℕ) (owner : ℕ → ℕ) (trace : List Vector) (replies : List Reply) (workers : ℕ) (earlier h : History) (callers : List ℕ)
    → AgreesOwnedAmongOthers count owner trace replies workers earlier h callers → AreShared (length trace) workers owner
    → (i : ℕ) (v : Vector) (reply : Reply) (id : ℕ) → slice_get trace i ≡ Some v → slice_get replies i ≡ Some reply → id_of reply ≡ Some id → name_of h v ≡ Some id
line-named count owner trace replies workers earlier h callers agrees shared i v reply id at reply-at given =
    let worker = owner i in
    let within : i < length trace = slice_get_within trace i v at in
    let few : worker < length callers = rw agrees.callers_count (shared i within) in
    let caller = at-within callers worker few in
    let entry = tells caller.0 v reply id given in
    let numbered : slice_get (range_with_len 0 (length trace)) i ≡ Some i = at-range 0 (length trace) i within ∙ ap Some (omega arith) in
    let own : (worker == worker) ≡ true = grind arith in
    let mine-at = at-filter (λ (k : ℕ). owner k == worker) (range_with_len 0 (length trace)) i i numbered own in
    let made : At (entries_of_insertion trace replies caller.0 i) entry.entry = (zero, rw (at, reply-at, entry.told) refl) in
    let name = line-entry-named agrees worker caller.0 i entry.entry caller.1 mine-at made in
    subst (λ (x : Vector). name_of h x ≡ Some id) entry.vector (name ∙ ap Some entry.named)

-- a reply and the identifier at a place
pub replied : (replies : List Reply) (i a : ℕ) → id_at replies i ≡ Some a → (reply : Reply) × (slice_get replies i ≡ Some reply) × (id_of reply ≡ Some a)
replied replies i a e = by (slice_get replies i) refl e
  where
    by : (o : Option Reply) → slice_get replies i ≡ o → option_and_then id_of o ≡ Some a → (reply : Reply) × (slice_get replies i ≡ Some reply) × (id_of reply ≡ Some a)
    by None t e = cc e
    by (Some reply) t e = (reply, t, e)

pub equal-lines : (count : ℕ) (owner : ℕ → ℕ) (trace : List Vector) (replies : List Reply) (workers : ℕ) (earlier h : History) (callers : List ℕ)
    → AgreesOwnedAmongOthers count owner trace replies workers earlier h callers → AreShared (length trace) workers owner → EqualLinesEqualIds trace replies
equal-lines count owner trace replies workers earlier h callers agrees shared i k v a b at-i at-k id-i id-k =
    let first = replied replies i a id-i in
    let second = replied replies k b id-k in
    let name = line-named count owner trace replies workers earlier h callers agrees shared i v first.0 a at-i first.1 first.2 in
    let other = line-named count owner trace replies workers earlier h callers agrees shared k v second.0 b at-k second.1 second.2 in
    cc (name, other)

pub different-lines : (count : ℕ) (owner : ℕ → ℕ) (trace : List Vector) (replies : List Reply) (workers : ℕ) (earlier h : History) (callers : List ℕ)
    → AgreesOwnedAmongOthers count owner trace replies workers earlier h callers → AreShared (length trace) workers owner → DifferentLinesDifferentIds trace replies
different-lines count owner trace replies workers earlier h callers agrees shared i k v w a at-i at-k id-i id-k =
    let first = replied replies i a id-i in
    let second = replied replies k a id-k in
    names-differ count h agrees.legal v w a
    (line-named count owner trace replies workers earlier h callers agrees shared i v first.0 a at-i first.1 first.2)
    (line-named count owner trace replies workers earlier h callers agrees shared k w second.0 a at-k second.1 second.2)

-- a count over the replies is one over the lines
pub count-replies : (p : Reply → Bool) (trace : List Vector) (replies : List Reply) → length replies ≡ length trace
    → sum_by (λ line. cond (p line.1) 1 0) (zip trace replies) ≡ count_by p replies
count-replies p [] [] h = refl
count-replies p [] (reply ∷ replies) h = absurd (omega arith)
count-replies p (v ∷ trace) [] h = absurd (omega arith)
count-replies p (v ∷ trace) (reply ∷ replies) h =
    let a = sum_by-cons (λ (line : Vector × Reply). cond (p line.1) 1 0) (v, reply) (zip trace replies) in
    let b = sum_by-cons (λ (x : Reply). cond (p x) 1 0) reply replies in
    let c = count-replies p trace replies (omega arith) in
    omega (arith, a, b, c)

fresh-weight : Vector → Bool → ℕ
fresh-weight v fresh = cond fresh 1 0

new-weight : (v : Vector) (reply : Reply) → line_weight (λ v fresh. cond fresh 1 0) (v, reply) ≡ cond (is_new reply) 1 0
new-weight v (r.New id) = refl
new-weight v (r.Seen id) = refl
new-weight v r.FullNodes = refl
new-weight v r.FullRoots = refl

pub counts-names : (count : ℕ) (owner : ℕ → ℕ) (trace : List Vector) (replies : List Reply) (workers : ℕ) (h : History) (callers : List ℕ)
    → AgreesOwned count owner trace replies workers [] h callers → AreShared (length trace) workers owner → CountsNames replies h
counts-names count owner trace replies workers h callers agrees shared =
    sym (count-replies is_new trace replies agrees.among.one_each)
    ∙ sym (sum-same (line_weight (λ v fresh. cond fresh 1 0)) (λ (line : Vector × Reply). cond (is_new line.1) 1 0) (zip trace replies) (λ line at. new-weight line.0 line.1))
    ∙ sym (tally count owner trace replies workers h callers (λ v fresh. cond fresh 1 0) agrees shared)
    ∙ count-named count h agrees.among.legal

this-weight : (u v : Vector) (reply : Reply) → line_weight (λ v fresh. cond (fresh && same v u) 1 0) (v, reply) ≡ cond (is_new reply && same v u) 1 0
this-weight u v (r.New id) = refl
this-weight u v (r.Seen id) = refl
this-weight u v r.FullNodes = refl
this-weight u v r.FullRoots = refl

not-full : (reply : Reply) → is_full reply ≡ false → (id : ℕ) × (id_of reply ≡ Some id)
not-full (r.New id) e = (id, refl)
not-full (r.Seen id) e = (id, refl)
not-full r.FullNodes e = cc e
not-full r.FullRoots e = cc e

pub none-full : (replies : List Reply) (k : ℕ) (reply : Reply) → list_any is_full replies ≡ false → slice_get replies k ≡ Some reply → is_full reply ≡ false
none-full [] k reply none at = cc at
none-full (x ∷ xs) zero reply none at = let one : x ≡ reply = cc at in subst (λ (y : Reply). is_full y ≡ false) one (first (is_full x) none)
  where
    first : (b : Bool) → (b || list_any is_full xs) ≡ false → b ≡ false
    first true e = cc e
    first false e = refl
none-full (x ∷ xs) (suc k) reply none at = none-full xs k reply (rest (is_full x) none) at
  where
    rest : (b : Bool) → (b || list_any is_full xs) ≡ false → list_any is_full xs ≡ false
    rest true e = cc e
    rest false e = e

-- where no reply is full, exactly one line of each vector is answered new
new-once : (count : ℕ) (owner : ℕ → ℕ) (trace : List Vector) (replies : List Reply) (workers : ℕ) (h : History) (callers : List ℕ)
    → AgreesOwned count owner trace replies workers [] h callers → AreShared (length trace) workers owner → list_any is_full replies ≡ false
    → (u : Vector) → At trace u → sum_by (λ line. cond (is_new line.1 && same line.0 u) 1 0) (zip trace replies) ≡ 1
new-once count owner trace replies workers h callers agrees shared none u at =
    let within : at.0 < length replies = rw agrees.among.one_each (slice_get_within trace at.0 u at.1) in
    let reply = at-within replies at.0 within in
    let given = not-full reply.0 (none-full replies at.0 reply.0 none reply.1) in
    let name = line-named count owner trace replies workers [] h callers agrees.among shared at.0 u reply.0 given.0 at.1 reply.1 given.1 in
    sym (sum-same (line_weight (λ v fresh. cond (fresh && same v u) 1 0)) (λ (line : Vector × Reply). cond (is_new line.1 && same line.0 u) 1 0) (zip trace replies)
    (λ line k. this-weight u line.0 line.1))
    ∙ sym (tally count owner trace replies workers h callers (λ v fresh. cond (fresh && same v u) 1 0) agrees shared)
    ∙ gives-once count u h agrees.among.legal ∙ rw name refl

pub each-new-once : (count : ℕ) (owner : ℕ → ℕ) (trace : List Vector) (replies : List Reply) (workers : ℕ) (h : History) (callers : List ℕ)
    → AgreesOwned count owner trace replies workers [] h callers → AreShared (length trace) workers owner → EachNewOnce trace replies
each-new-once count owner trace replies workers h callers agrees shared none v there =
    new-once count owner trace replies workers h callers agrees shared none v (at-contained trace v there)

and-swapped : (a b : Bool) → (a && b) ≡ (b && a)
and-swapped true true = refl
and-swapped true false = refl
and-swapped false true = refl
and-swapped false false = refl

zip-firsts : (trace : List Vector) (replies : List Reply) → length replies ≡ length trace → map (λ line. line.0) (zip trace replies) ≡ trace
zip-firsts [] replies h = refl
zip-firsts (v ∷ trace) [] h = absurd (omega arith)
zip-firsts (v ∷ trace) (reply ∷ replies) h = ap (λ t. v ∷ t) (zip-firsts trace replies (omega arith))

pub counts-distinct : (count : ℕ) (owner : ℕ → ℕ) (trace : List Vector) (replies : List Reply) (workers : ℕ) (h : History) (callers : List ℕ)
    → AgreesOwned count owner trace replies workers [] h callers → AreShared (length trace) workers owner → CountsDistinct trace replies
counts-distinct count owner trace replies workers h callers agrees shared none =
    let lines = zip trace replies in
    sym (count-replies is_new trace replies agrees.among.one_each)
    ∙ distinct-sum (λ (line : Vector × Reply). line.0) (λ (line : Vector × Reply). cond (is_new line.1) 1 0) lines
    (λ x at. let both = zip-at trace replies x at.0 at.1 in
    count-filter (λ (line : Vector × Reply). same line.0 x.0) (λ (line : Vector × Reply). is_new line.1) lines
    ∙ count-same (λ (line : Vector × Reply). same line.0 x.0 && is_new line.1) (λ (line : Vector × Reply). is_new line.1 && same line.0 x.0) lines
    (λ line. and-swapped (same line.0 x.0) (is_new line.1))
    ∙ new-once count owner trace replies workers h callers agrees shared none x.0 (at.0, both.0))
    ∙ ap (λ (t : List Vector). length (distinct t)) (zip-firsts trace replies agrees.among.one_each)

-- where no flag is set, cleared or read, replies agree whatever the number of flags is
module _ (some other : ℕ) (lines_of : ℕ → List ℕ) (line_entries : ℕ → ℕ → History)
    (trace : List Vector) (replies : List Reply) (workers : ℕ)
    (earlier later : History) (callers : List ℕ) (puts : PutsOnly later) where
  among-any-flags : AgreesOverAmongOthers some lines_of line_entries trace replies workers earlier later callers
      → AgreesOverAmongOthers other lines_of line_entries trace replies workers earlier later callers
  among-any-flags agrees = record {
    one_each = agrees.one_each;
    legal = any-flags some other later puts agrees.legal;
    extends = agrees.extends;
    callers_count = agrees.callers_count;
    callers_differ = agrees.callers_differ;
    callers_new = agrees.callers_new;
    in_order = agrees.in_order;
    full = agrees.full;
  }

  pub agrees-any-flags : AgreesOver some lines_of line_entries trace replies workers earlier later callers
      → AgreesOver other lines_of line_entries trace replies workers earlier later callers
  agrees-any-flags agrees = record { among = among-any-flags agrees.among; no_others = agrees.no_others }
