-- The lines that are answered new: each named vector is that of one of them, and of no second.
use Rattle.std.proofs.Common.{◌≡◌, ◌≢◌, ◌≤◌, ◌<◌, ◌+◌, ℕ, zero, suc, List, [], ◌∷◌, length, Option, Some, None, Bool, true, false, cond, refl, sym, ap, subst, arith, ◌∙◌}
use Rattle.std.proofs.lemmas.Option.{slice_get-get_or, slice_get_within}
use Rattle.std.proofs.lemmas.List.Kept.{AllPairs-cons}
use Rattle.std.specs.Prelude.{◌&&◌, ◌↔◌, All, Contains, IfSome, map, filter, get_or, slice_get, count_by, is_some, if◌then◌else◌}
use Rattle.std.specs.List.{AllPairs, cons_option, list_any, zip}
use Rattle.tdb_base.specs.History.{Vector, Entry, History, is_fresh, name_of, same}
use Rattle.tdb_base.specs.Legal.{IsLegal}
use Rattle.tdb_base.specs.Lines.{AreShared, named}
use Rattle.tdb_base.specs.Replies.{id_of, is_full, is_new}
use Rattle.tdb_base.specs.declared.reply.Reply.{Reply}
use Rattle.tdb_base.specs.declared.reply.Reply.TheVariants as r
use Rattle.tdb_base.proofs.DistinctLemmas.{at-map, count-cons, count-filter, distinct-at, distinct-once, map-at}
use Rattle.tdb_base.proofs.HeadlineLemmas.{line-named, none-full}
use Rattle.tdb_base.proofs.ListLemmas.{At, at-contained, at-filter, at-next, at-within, cut-at, filter-at}
use Rattle.tdb_base.proofs.NameLemmas.{entry-named, gives-once, name-given, names-differ, same-equal, same-refl}
use Rattle.tdb_base.proofs.SumLemmas.{sum-same}
use Rattle.tdb_base.proofs.TallyLemmas.{contained-at, line_weight, tally, zip-at}
use Rattle.tdb_base.specs.Renamed.{renamed}
use Rattle.tdb_base.proofs.RenameLemmas.{named-renamed}
use Rattle.std.proofs.lemmas.List.Sorted.{Contains-permutation, IsPermutation-sym}
use Rattle.trace_csv.specs.declared.form.Form.{Form}
use Rattle.command_line.specs.declared.outcome.Job.{Job}
use Rattle.command_line.specs.declared.outcome.Job.TheVariants.{Insert, Distinct, Bench, Check, Mark}
use Rattle.treedb.specs.ReadBack.{IfPrinted, IsOfLines, IsReadBack, IsReadBy, ReadsInto, new_id, new_ids, vectors}
use Rattle.treedb.specs.declared.distinct.ReadBack.{ReadBack}
use Rattle.treedb.proofs.Insertions.{Inserts}
use Rattle.treedb.proofs.OrderLemmas.{differ-moved}

-- the vectors of the lines that are answered new, in the order of the lines
abbrev pub news : List Vector → List Reply → List Vector
news trace replies = map (λ line. line.0) (filter (λ line. is_new line.1) (zip trace replies))

-- lists of named vectors with the same names are the same
pub named-alike : (count : ℕ) (h : History) → IsLegal count h → (a b : List Vector) (ids : List ℕ) → map (name_of h) a ≡ map Some ids → map (name_of h) b ≡ map Some ids → a ≡ b
named-alike count h legal [] [] ids p q = refl
named-alike count h legal [] (w ∷ b) [] p q = cc q
named-alike count h legal [] (w ∷ b) (id ∷ ids) p q = cc p
named-alike count h legal (v ∷ a) [] [] p q = cc p
named-alike count h legal (v ∷ a) [] (id ∷ ids) p q = cc q
named-alike count h legal (v ∷ a) (w ∷ b) [] p q = cc p
named-alike count h legal (v ∷ a) (w ∷ b) (id ∷ ids) p q =
    let first : name_of h v ≡ Some id = cc p in
    let second : name_of h w ≡ Some id = cc q in
    let one = names-differ count h legal v w id first second in
    let rest = named-alike count h legal a b ids (cc p) (cc q) in
    (λ i. one i ∷ rest i)

-- the names of the lines that are answered new are the identifiers that they are answered
pub news-names : (h : History) (trace : List Vector) (replies : List Reply) → length replies ≡ length trace
    → ((i : ℕ) (v : Vector) (id : ℕ) → slice_get trace i ≡ Some v → slice_get replies i ≡ Some (r.New id) → name_of h v ≡ Some id)
    → map (name_of h) (news trace replies) ≡ map Some (new_ids replies)
news-names h [] [] long names = refl
news-names h [] (reply ∷ replies) long names = absurd (omega arith)
news-names h (v ∷ trace) [] long names = absurd (omega arith)
news-names h (v ∷ trace) (reply ∷ replies) long names = by reply (λ id is. names zero v id refl (ap Some is)) (news-names h trace replies (omega arith) (λ i. names (suc i)))
  where
    by : (reply : Reply) → ((id : ℕ) → reply ≡ r.New id → name_of h v ≡ Some id) → map (name_of h) (news trace replies) ≡ map Some (new_ids replies)
        → map (name_of h) (news (v ∷ trace) (reply ∷ replies)) ≡ map Some (cons_option (new_id reply) (new_ids replies))
    by (r.New id) name rest = (λ i. name id refl i ∷ rest i)
    by (r.Seen id) name rest = rest
    by r.FullNodes name rest = rest
    by r.FullRoots name rest = rest

-- where something is counted it is there, and the other way round
pub count-some : {A : Type 0} (p : A → Bool) (xs : List A) → 1 ≤ count_by p xs → (x : A) × At xs x × (p x ≡ true)
count-some p [] h = absurd (omega (arith, h))
count-some p (x ∷ xs) h = by (p x) refl (count-some p xs)
  where
    by : (b : Bool) → p x ≡ b → (1 ≤ count_by p xs → (y : _) × At xs y × (p y ≡ true)) → (y : _) × At (x ∷ xs) y × (p y ≡ true)
    by true t more = (x, (zero, refl), t)
    by false t more =
        let all = count-cons p x xs ∙ ap (λ (b : Bool). cond b 1 0 + count_by p xs) t in
        let found = more (omega (arith, all, h)) in
        (found.0, at-next x xs found.0 found.1, found.2)

pub some-count : {A : Type 0} (p : A → Bool) (xs : List A) (x : A) (k : ℕ) → slice_get xs k ≡ Some x → p x ≡ true → 1 ≤ count_by p xs
some-count p [] x k e t = cc e
some-count p (y ∷ xs) x zero e t =
    let one : y ≡ x = cc e in
    let all = count-cons p y xs ∙ ap (λ (z : _). cond (p z) 1 0 + count_by p xs) one ∙ ap (λ (b : Bool). cond b 1 0 + count_by p xs) t in
    omega (arith, all)
some-count p (y ∷ xs) x (suc k) e t =
    let rest = some-count p xs x k e t in
    let all = count-cons p y xs in
    omega (arith, all, rest)

count-map : {A B : Type 0} (f : A → B) (p : B → Bool) (xs : List A) → count_by p (map f xs) ≡ count_by (λ x. p (f x)) xs
count-map f p [] = refl
count-map f p (x ∷ xs) = count-cons p (f x) (map f xs) ∙ ap (λ (n : ℕ). cond (p (f x)) 1 0 + n) (count-map f p xs) ∙ sym (count-cons (λ (y : _). p (f y)) x xs)

-- vectors of which each stands there once at most are different
pub differ-once : (xs : List Vector) → ((u : Vector) → count_by (λ v. same v u) xs ≤ 1) → AllPairs (λ u v. u ≢ v) xs
differ-once [] once = λ i j d lt long. absurd (omega (arith, long))
differ-once (x ∷ xs) once = AllPairs-cons (λ (u v : Vector). u ≢ v) x xs others (differ-once xs (λ u. let all = count-cons (λ (v : Vector). same v u) x xs in let most = once u in omega (arith, all, most)))
  where
    others : All (λ v. x ≢ v) xs
    others k d lt is =
        let there = some-count (λ (v : Vector). same v x) xs (get_or xs k d) k (slice_get-get_or xs k d lt) (subst (λ (y : Vector). same y x ≡ true) is (same-refl x)) in
        let all = count-cons (λ (v : Vector). same v x) x xs ∙ ap (λ (b : Bool). cond b 1 0 + count_by (λ v. same v x) xs) (same-refl x) in
        let most = once x in
        omega (arith, there, all, most)

this-weight : (u v : Vector) (reply : Reply) → line_weight (λ v fresh. cond (fresh && same v u) 1 0) (v, reply) ≡ cond (is_new reply && same v u) 1 0
this-weight u v (r.New id) = refl
this-weight u v (r.Seen id) = refl
this-weight u v r.FullNodes = refl
this-weight u v r.FullRoots = refl

-- a reply that is not full names its line
gives-id : (reply : Reply) → is_full reply ≡ false → (id : ℕ) × (id_of reply ≡ Some id)
gives-id (r.New id) e = (id, refl)
gives-id (r.Seen id) e = (id, refl)
gives-id r.FullNodes e = cc e
gives-id r.FullRoots e = cc e

-- a vector has a name
abbrev HasName : History → Vector → Type 0
HasName h v = (id : ℕ) × (name_of h v ≡ Some id)

has-name : (h : History) (v : Vector) → 1 ≤ (if is_some (name_of h v) then 1 else 0) → HasName h v
has-name h v = by (name_of h v) refl
  where
    by : (o : Option ℕ) → name_of h v ≡ o → 1 ≤ (if is_some o then 1 else 0) → HasName h v
    by None t le = absurd (omega (arith, le))
    by (Some id) t le = (id, t)

at-most-one : (b : Bool) → (if b then 1 else 0) ≤ 1
at-most-one true = omega arith
at-most-one false = omega arith

-- the entries that give names
abbrev fresh-of : History → History
fresh-of h = filter (λ e. is_fresh e.act) h

-- the vectors that have names are those of the list of the named ones
named-is : (count : ℕ) (h : History) → IsLegal count h → (v : Vector) → Contains (named h) v ↔ HasName h v
named-is count h legal v = (there, back)
  where
    there : Contains (named h) v → HasName h v
    there has =
        let at = at-contained (named h) v has in
        let place = distinct-at (map (λ (e : Entry). e.vector) (fresh-of h)) v at.0 at.1 in
        let entry = map-at (λ (e : Entry). e.vector) (fresh-of h) v place.0 place.1 in
        let kept = filter-at (λ (e : Entry). is_fresh e.act) h entry.0 place.0 entry.1 in
        let cut = cut-at h entry.0 kept.0.0 kept.0.1 in
        (entry.0.id, subst (λ (x : Vector). name_of h x ≡ Some entry.0.id) entry.2 (entry-named count h cut.before cut.after entry.0 legal cut.whole))

    back : HasName h v → Contains (named h) v
    back name =
        let given = name-given count h v name.0 legal name.1 in
        let at = at-contained h given.entry given.there in
        let kept = at-filter (λ (e : Entry). is_fresh e.act) h given.entry at.0 at.1 (ap is_fresh given.fresh) in
        let place = at-map (λ (e : Entry). e.vector) (fresh-of h) given.entry kept.0 kept.1 in
        let once = distinct-once (map (λ (e : Entry). e.vector) (fresh-of h)) given.entry.vector kept.0 place in
        let found = count-some (λ (w : Vector). same given.entry.vector w) (named h) (omega (arith, once)) in
        contained-at (named h) v (subst (λ (w : Vector). At (named h) w) (sym (same-equal given.entry.vector found.0 found.2) ∙ given.vector) found.1)

module _ (count : ℕ) (owner : ℕ → ℕ) (trace : List Vector) (replies : List Reply) (workers : ℕ) (h : History) (callers : List ℕ)
    (inserts : Inserts count owner trace replies workers h callers) (shared : AreShared (length trace) workers owner) where
  pub named-line : (i : ℕ) (v : Vector) (reply : Reply) (id : ℕ) → slice_get trace i ≡ Some v → slice_get replies i ≡ Some reply → id_of reply ≡ Some id → name_of h v ≡ Some id
  named-line i v reply id at reply-at given =
      sym (inserts.names_are v) ∙ line-named count owner trace replies workers [] inserts.puts callers inserts.agrees.among shared i v reply id at reply-at given

  -- each named vector is that of one line that is new
  once : (u : Vector) → count_by (λ v. same v u) (news trace replies) ≡ (if is_some (name_of h u) then 1 else 0)
  once u =
      count-map (λ (line : Vector × Reply). line.0) (λ (v : Vector). same v u) (filter (λ line. is_new line.1) (zip trace replies))
      ∙ count-filter (λ (line : Vector × Reply). is_new line.1) (λ (line : Vector × Reply). same line.0 u) (zip trace replies)
      ∙ sym (sum-same (line_weight (λ v fresh. cond (fresh && same v u) 1 0)) (λ (line : Vector × Reply). cond (is_new line.1 && same line.0 u) 1 0) (zip trace replies)
      (λ line k. this-weight u line.0 line.1))
      ∙ sym (tally count owner trace replies workers inserts.puts callers (λ v fresh. cond (fresh && same v u) 1 0) inserts.agrees shared)
      ∙ (gives-once count u inserts.puts inserts.agrees.among.legal ∙ ap (λ (o : Option ℕ). if is_some o then 1 else 0) (inserts.names_are u))

  pub news-differ : AllPairs (λ u v. u ≢ v) (news trace replies)
  news-differ = differ-once (news trace replies) (λ u. let one = once u in let most = at-most-one (is_some (name_of h u)) in omega (arith, one, most))

  news-is : (v : Vector) → Contains (news trace replies) v ↔ HasName h v
  news-is v = (there, back)
    where
      there : Contains (news trace replies) v → HasName h v
      there has =
          let at = at-contained (news trace replies) v has in
          let least = some-count (λ (w : Vector). same w v) (news trace replies) v at.0 at.1 (same-refl v) in
          let one = once v in
          has-name h v (omega (arith, least, one))

      back : HasName h v → Contains (news trace replies) v
      back name =
          let one = once v ∙ ap (λ (o : Option ℕ). if is_some o then 1 else 0) name.1 in
          let found = count-some (λ (w : Vector). same w v) (news trace replies) (omega (arith, one)) in
          contained-at (news trace replies) v (subst (λ (w : Vector). At (news trace replies) w) (same-equal found.0 v found.2) found.1)

  pub news-named : (v : Vector) → Contains (news trace replies) v ↔ Contains (named h) v
  news-named v =
      let a = news-is v in
      let b = named-is count h inserts.legal v in
      ((λ x. b.1 (a.0 x)), (λ x. a.1 (b.0 x)))

  -- the lines that are new are some of the lines
  news-among : (v : Vector) → Contains (news trace replies) v → Contains trace v
  news-among v has =
      let at = at-contained (news trace replies) v has in
      let line = map-at (λ (line : Vector × Reply). line.0) (filter (λ line. is_new line.1) (zip trace replies)) v at.0 at.1 in
      let kept = filter-at (λ (line : Vector × Reply). is_new line.1) (zip trace replies) line.0 at.0 line.1 in
      let both = zip-at trace replies line.0 kept.0.0 kept.0.1 in
      contained-at trace v (subst (λ (w : Vector). At trace w) line.2 (kept.0.0, both.0))

  -- where no line is full, the vectors of the trace are the named ones
  pub trace-named : list_any is_full replies ≡ false → (v : Vector) → Contains (named h) v ↔ Contains trace v
  trace-named none v = (there, back)
    where
      there : Contains (named h) v → Contains trace v
      there has = news-among v ((news-named v).1 has)

      back : Contains trace v → Contains (named h) v
      back has =
          let at = at-contained trace v has in
          let within : at.0 < length replies = rw inserts.agrees.among.one_each (slice_get_within trace at.0 v at.1) in
          let reply = at-within replies at.0 within in
          let given = gives-id reply.0 (none-full replies at.0 reply.0 none reply.1) in
          (named-is count h inserts.legal v).1 (given.0, named-line at.0 v reply.0 given.0 at.1 reply.1 given.1)

  -- what has the identifiers of the new lines as names is the new lines
  pub read-news : (read : List Vector) → map (name_of h) read ≡ map Some (new_ids replies) → read ≡ news trace replies
  read-news read names =
      named-alike count h inserts.legal read (news trace replies) (new_ids replies) names
      (news-names h trace replies inserts.agrees.among.one_each (λ i v id at reply. named-line i v (r.New id) id at reply refl))

  -- what was read back by the new identifiers is the named vectors in their order
  module _ (form : Form) (slots : ℕ) (back : ReadBack) (by : IsReadBy form slots h (new_ids replies) back) where
    back-news : (v : Vector) → Contains (vectors back) v → Contains (news trace replies) v
    back-news v has = subst (λ (x : List Vector). Contains x v) (read-news by.read by.names)
        (Contains-permutation (vectors back) by.read v (IsPermutation-sym by.read (vectors back) by.moved) has)

    news-back : (v : Vector) → Contains (news trace replies) v → Contains (vectors back) v
    news-back v has = Contains-permutation by.read (vectors back) v by.moved (subst (λ (x : List Vector). Contains x v) (sym (read-news by.read by.names)) has)

    pub read-back : IsReadBack form h back
    read-back = record {
      are_there = by.are_there;
      once = differ-moved by.read (vectors back) by.moved (subst (λ (x : List Vector). AllPairs (λ u v. u ≢ v) x) (sym (read-news by.read by.names)) news-differ);
      same = λ v. ((λ has. (news-named v).0 (back-news v has)), (λ has. news-back v ((news-named v).1 has)));
      order = by.order;
    }

    -- and they are of the lines
    pub read-of-lines : All (λ (v : Vector). length v ≡ slots) trace → IsOfLines trace back
    read-of-lines each = record {
      slots = subst (λ (n : ℕ). All (λ (v : Vector). length v ≡ n) trace) (sym by.slots_are) each;
      among = λ v has. news-among v (back-news v has);
    }

-- each identifier of a reply that is new names a vector
pub new-named : (count : ℕ) (owner : ℕ → ℕ) (trace : List Vector) (replies : List Reply) (workers : ℕ) (h : History) (callers : List ℕ)
    → Inserts count owner trace replies workers h callers → AreShared (length trace) workers owner
    → All (λ reply. IfSome (new_id reply) (λ id. (v : Vector) × (name_of h v ≡ Some id))) replies
new-named count owner trace replies workers h callers inserts shared k d lt =
    let line = at-within trace k (let same = inserts.agrees.among.one_each in omega (arith, lt, same)) in
    by (get_or replies k d) (λ id is. (line.0, named-line count owner trace replies workers h callers inserts shared k line.0 (r.New id) id line.1 (slice_get-get_or replies k d lt ∙ ap Some is) refl))
  where
    by : (reply : Reply) → ((id : ℕ) → reply ≡ r.New id → (v : Vector) × (name_of h v ≡ Some id)) → IfSome (new_id reply) (λ id. (v : Vector) × (name_of h v ≡ Some id))
    by (r.New id) name = name id refl
    by (r.Seen id) name = tt
    by r.FullNodes name = tt
    by r.FullRoots name = tt

-- what is told of what was read back, by job
pub if-printed : (job : Job) (back : Option ReadBack) (P Q : ReadBack → Type 0) → ((b : ReadBack) → P b → Q b) → IfPrinted job back P → IfPrinted job back Q
if-printed Insert None P Q f p = p
if-printed Insert (Some b) P Q f p = p
if-printed Distinct None P Q f p = p
if-printed Distinct (Some b) P Q f p = f b p
if-printed Bench None P Q f p = p
if-printed Bench (Some b) P Q f p = p
if-printed Check None P Q f p = p
if-printed Check (Some b) P Q f p = p
if-printed Mark None P Q f p = p
if-printed Mark (Some b) P Q f p = p

pub if-some : (job : Job) (back : Option ReadBack) (P : ReadBack → Type 0) → IfPrinted job back P → IfSome back P
if-some Insert None P p = p
if-some Insert (Some b) P p = absurd p
if-some Distinct None P p = absurd p
if-some Distinct (Some b) P p = p
if-some Bench None P p = p
if-some Bench (Some b) P p = absurd p
if-some Check None P p = p
if-some Check (Some b) P p = absurd p
if-some Mark None P p = p
if-some Mark (Some b) P p = absurd p

pub read-into : (job : Job) (room result : Option ReadBack) (P : ReadBack → Type 0) (form : Form) (slots : ℕ) (h : History) (ids : List ℕ) → IfPrinted job room P → ReadsInto form slots h ids room result → IfPrinted job result (IsReadBy form slots h ids)
read-into Distinct (Some room) (Some back) P form slots h ids p into = into
read-into Distinct (Some room) None P form slots h ids p into = absurd into
read-into Distinct None result P form slots h ids p into = absurd p
read-into Insert (Some room) result P form slots h ids p into = absurd p
read-into Insert None (Some back) P form slots h ids p into = absurd into
read-into Insert None None P form slots h ids p into = tt
read-into Bench (Some room) result P form slots h ids p into = absurd p
read-into Bench None (Some back) P form slots h ids p into = absurd into
read-into Bench None None P form slots h ids p into = tt
read-into Check (Some room) result P form slots h ids p into = absurd p
read-into Check None (Some back) P form slots h ids p into = absurd into
read-into Check None None P form slots h ids p into = tt
read-into Mark (Some room) result P form slots h ids p into = absurd p
read-into Mark None (Some back) P form slots h ids p into = absurd into
read-into Mark None None P form slots h ids p into = tt

pub printed-distinct : (job : Job) (back : ReadBack) (P : ReadBack → Type 0) → job ≡ Distinct → IfPrinted job (Some back) P → P back
printed-distinct job back P is p = subst (λ (j : Job). IfPrinted j (Some back) P) is p

pub distinct-printed : (job : Job) (P : ReadBack → Type 0) → job ≡ Distinct → IfPrinted job None P → ⊥
distinct-printed job P is p = subst (λ (j : Job). IfPrinted j None P) is p

-- callers have other numbers
pub read-renamed : (f : ℕ → ℕ) (form : Form) (h : History) (back : ReadBack) → IsReadBack form h back → IsReadBack form (renamed f h) back
read-renamed f form h back is = record {
  are_there = is.are_there;
  once = is.once;
  same = λ v. subst (λ (x : List Vector). Contains (vectors back) v ↔ Contains x v) (sym (named-renamed f h)) (is.same v);
  order = is.order;
}
