-- Names in legal histories: they stay, they differ, and each is given once.
use Rattle.std.proofs.Common.{◌≡◌, ◌≢◌, ◌<◌, ◌+◌, ℕ, zero, suc, [], ◌∷◌, ◌++◌, length, Option, Some, None, Bool, true, false, cond, refl, sym, ap, subst, arith, ◌∙◌, append_assoc, append-nil, length-append}
use Rattle.std.proofs.lemmas.List.Sums.{fold-append, fold_more, sum_by_push}
use Rattle.std.proofs.lemmas.List.Elements.{Contains-append_right, Contains-get_or}
use Rattle.std.proofs.lemmas.List.{take_more}
use Rattle.std.proofs.lemmas.Option.{get_or_from_slice_get, slice_get-get_or, slice_get_within}
use Rattle.std.proofs.lemmas.Slice.Eq.{bytes_eq-Decides}
use Rattle.std.specs.Prelude.{◌&&◌, fold, count_by, if◌then◌else◌, is_some, Contains, get_or, take, drop, slice_get}
use Rattle.tdb_base.specs.History.{Vector, Act, Put, Set, Clear, Look, Entry, History, is_fresh, names, name_of, same, flags_of, flags_after}
use Rattle.tdb_base.specs.Legal.{Allows, IsLegal, IsNamedIn, KeepsNames, PutsOnly}

-- one entry more
pub name-push : (h : History) (e : Entry) (v : Vector) → name_of (h ++ e ∷ []) v ≡ (if names e v then Some e.id else name_of h v)
unfolding name_of
name-push h e v = fold-append (λ (now : Option ℕ) (e : Entry). if names e v then Some e.id else now) None h (e ∷ [])

pub name-nil : (v : Vector) → name_of [] v ≡ None
unfolding name_of
name-nil v = refl

pub same-equal : (v w : Vector) → same v w ≡ true → v ≡ w
same-equal v w e = (bytes_eq-Decides v w).0 e

pub same-refl : (v : Vector) → same v v ≡ true
same-refl v = (bytes_eq-Decides v v).1 refl

both-true : (a b : Bool) → (a && b) ≡ true → (a ≡ true) × (b ≡ true)
both-true true true e = (refl, refl)
both-true true false e = cc e
both-true false b e = cc e

-- an entry that names a vector is fresh and holds it
pub names-this : (e : Entry) (v : Vector) → names e v ≡ true → (is_fresh e.act ≡ true) × (e.vector ≡ v)
names-this e v h = let both = both-true (is_fresh e.act) (same e.vector v) h in (both.0, same-equal e.vector v both.1)

-- what may come next, by whether it is fresh
pub allowed-fresh : (count : ℕ) (h : History) (v : Vector) (id : ℕ) (act : Act) → Allows count h v id act → is_fresh act ≡ true
    → (name_of h v ≡ None) × ((w : Vector) → name_of h w ≢ Some id)
allowed-fresh count h v id (Put true) a e = a
allowed-fresh count h v id (Put false) a e = cc e
allowed-fresh count h v id (Set bit first) a e = cc e
allowed-fresh count h v id (Clear bit first) a e = cc e
allowed-fresh count h v id (Look flags) a e = cc e

pub allowed-other : (count : ℕ) (h : History) (v : Vector) (id : ℕ) (act : Act) → Allows count h v id act → is_fresh act ≡ false → name_of h v ≡ Some id
allowed-other count h v id (Put true) a e = cc e
allowed-other count h v id (Put false) a e = a
allowed-other count h v id (Set bit first) a e = a.0
allowed-other count h v id (Clear bit first) a e = a.0
allowed-other count h v id (Look flags) a e = a.0

-- what each allowed entry keeps, a legal history keeps
pub legal-walk : (count : ℕ) (P : History → Type 0) → ((h : History) (e : Entry) → Allows count h e.vector e.id e.act → P h → P (h ++ e ∷ []))
    → (h more : History) → IsLegal count (h ++ more) → P h → P (h ++ more)
legal-walk count P step h [] l p = subst P (sym (append-nil h)) p
legal-walk count P step h (e ∷ rest) l p =
    let regroup : h ++ e ∷ rest ≡ (h ++ e ∷ []) ++ rest = sym (append_assoc h (e ∷ []) rest) in
    let next = step h e (l.each h e rest refl) p in
    subst P (sym regroup) (legal-walk count P step (h ++ e ∷ []) rest (subst (λ (x : History). IsLegal count x) regroup l) next)

-- a name stays
name-stays : (count : ℕ) (v : Vector) (id : ℕ) (h : History) (e : Entry) → Allows count h e.vector e.id e.act → name_of h v ≡ Some id → name_of (h ++ e ∷ []) v ≡ Some id
name-stays count v id h e a n = name-push h e v ∙ by (names e v) refl
  where
    by : (b : Bool) → names e v ≡ b → (if b then Some e.id else name_of h v) ≡ Some id
    by true t =
        let this = names-this e v t in
        let none = (allowed-fresh count h e.vector e.id e.act a this.0).0 in
        let none-here : name_of h v ≡ None = subst (λ (x : Vector). name_of h x ≡ None) this.1 none in
        cc (none-here, n)
    by false t = n

pub name-kept : (count : ℕ) (v : Vector) (id : ℕ) (h more : History) → IsLegal count (h ++ more) → name_of h v ≡ Some id → name_of (h ++ more) v ≡ Some id
name-kept count v id h more l n = legal-walk count (λ x. name_of x v ≡ Some id) (name-stays count v id) h more l n

pub keeps-names : (count : ℕ) (h : History) → KeepsNames count h
keeps-names count h later l extends v id n =
    let legal = subst (λ (x : History). IsLegal count x) extends.whole l in
    subst (λ (x : History). name_of x v ≡ Some id) (sym extends.whole) (name-kept count v id h extends.more legal n)

-- the vector of each entry has the entry's identifier
pub entry-named : (count : ℕ) (h before after : History) (e : Entry) → IsLegal count h → h ≡ before ++ e ∷ after → name_of h e.vector ≡ Some e.id
entry-named count h before after e l whole =
    let allowed = l.each before e after whole in
    let regroup : h ≡ (before ++ e ∷ []) ++ after = whole ∙ sym (append_assoc before (e ∷ []) after) in
    let here : name_of (before ++ e ∷ []) e.vector ≡ Some e.id = by (is_fresh e.act) refl allowed in
    subst (λ (x : History). name_of x e.vector ≡ Some e.id) (sym regroup)
    (name-kept count e.vector e.id (before ++ e ∷ []) after (subst (λ (x : History). IsLegal count x) regroup l) here)
  where
    by : (b : Bool) → is_fresh e.act ≡ b → Allows count before e.vector e.id e.act → name_of (before ++ e ∷ []) e.vector ≡ Some e.id
    by true t a = name-push before e e.vector ∙ rw (t, same-refl e.vector) refl
    by false t a = name-stays count e.vector e.id before e a (allowed-other count before e.vector e.id e.act a t)

-- different vectors have different names
abbrev pub NamesDiffer : History → Type 0
NamesDiffer h = (v w : Vector) (id : ℕ) → name_of h v ≡ Some id → name_of h w ≡ Some id → v ≡ w

names-stay-different : (count : ℕ) (h : History) (e : Entry) → Allows count h e.vector e.id e.act → NamesDiffer h → NamesDiffer (h ++ e ∷ [])
names-stay-different count h e a differ v w id p q =
    by (names e v) (names e w) refl refl (sym (name-push h e v) ∙ p) (sym (name-push h e w) ∙ q)
  where
    by : (x y : Bool) → names e v ≡ x → names e w ≡ y → (if x then Some e.id else name_of h v) ≡ Some id → (if y then Some e.id else name_of h w) ≡ Some id → v ≡ w
    by true true s t p q = sym (names-this e v s).1 ∙ (names-this e w t).1
    by true false s t p q =
        let free = (allowed-fresh count h e.vector e.id e.act a (names-this e v s).0).1 w in
        let one : e.id ≡ id = cc p in
        absurd (free (q ∙ ap Some (sym one)))
    by false true s t p q =
        let free = (allowed-fresh count h e.vector e.id e.act a (names-this e w t).0).1 v in
        let one : e.id ≡ id = cc q in
        absurd (free (p ∙ ap Some (sym one)))
    by false false s t p q = differ v w id p q

pub names-differ : (count : ℕ) (h : History) → IsLegal count h → NamesDiffer h
names-differ count h l = legal-walk count NamesDiffer (names-stay-different count) [] h l (λ v w id p q. cc (name-nil v, p))

-- each name is given once
abbrev pub GivesOnce : Vector → History → Type 0
GivesOnce v h = count_by (λ e. names e v) h ≡ (if is_some (name_of h v) then 1 else 0)

gives-once-more : (count : ℕ) (v : Vector) (h : History) (e : Entry) → Allows count h e.vector e.id e.act → GivesOnce v h → GivesOnce v (h ++ e ∷ [])
gives-once-more count v h e a once =
    sum_by_push (λ (e : Entry). cond (names e v) 1 0) h e ∙ rw (name-push h e v) (by (names e v) refl)
  where
    by : (b : Bool) → names e v ≡ b → count_by (λ e. names e v) h + cond b 1 0 ≡ (if is_some (if b then Some e.id else name_of h v) then 1 else 0)
    by true t =
        let this = names-this e v t in
        let none = (allowed-fresh count h e.vector e.id e.act a this.0).0 in
        let none-here : name_of h v ≡ None = subst (λ (x : Vector). name_of h x ≡ None) this.1 none in
        let zero-before : count_by (λ e. names e v) h ≡ 0 = once ∙ rw none-here refl in
        omega (arith, zero-before)
    by false t = omega (arith, once)

pub gives-once : (count : ℕ) (v : Vector) (h : History) → IsLegal count h → GivesOnce v h
gives-once count v h l = legal-walk count (GivesOnce v) (gives-once-more count v) [] h l (rw (name-nil v) refl)

-- where no flag is set, cleared or read, it doesn't matter how many there are
put-allowed : (some other : ℕ) (h : History) (v : Vector) (id : ℕ) (act : Act) (fresh : Bool) → act ≡ Put fresh → Allows some h v id act → Allows other h v id act
put-allowed some other h v id (Put true) fresh e a = a
put-allowed some other h v id (Put false) fresh e a = a
put-allowed some other h v id (Set bit first) fresh e a = cc e
put-allowed some other h v id (Clear bit first) fresh e a = cc e
put-allowed some other h v id (Look flags) fresh e a = cc e

pub any-flags : (some other : ℕ) (h : History) → PutsOnly h → IsLegal some h → IsLegal other h
any-flags some other h puts l = record {
  each = λ before e after whole.
      let there : Contains h e = subst (λ (x : History). Contains x e) (sym whole) (Contains-append_right before (e ∷ after) e (Contains-get_or (e ∷ after) 0 e (omega arith))) in
      let put = puts e there in
      put-allowed some other before e.vector e.id e.act put.0 put.1 (l.each before e after whole);
}

-- a history with one entry more, cut before some entry: that is the last one, or the cut is within the history
pub data CutPush (h : History) (e : Entry) (before : History) (f : Entry) : Type 0 where
  last : before ≡ h → f ≡ e → CutPush h e before f
  within : (more : History) → h ≡ before ++ f ∷ more → CutPush h e before f

cut-push-next : (x b : Entry) (h before : History) (e f : Entry) → x ≡ b → CutPush h e before f → CutPush (x ∷ h) e (b ∷ before) f
cut-push-next x b h before e f one (last a c) = last (cc (one, a)) c
cut-push-next x b h before e f one (within more whole) = within more (cc (one, whole))

pub cut-push : (h : History) (e : Entry) (before : History) (f : Entry) (after : History) → h ++ e ∷ [] ≡ before ++ f ∷ after → CutPush h e before f
cut-push [] e [] f after whole = last refl (cc whole)
cut-push [] e (b ∷ before) f after whole =
    let rest : [] ≡ before ++ f ∷ after = cc whole in
    let lengths = ap length rest in
    absurd (omega (arith, lengths, length-append before (f ∷ after)))
cut-push (x ∷ h) e [] f after whole = let one : x ≡ f = cc whole in within h (ap (λ (y : Entry). y ∷ h) one)
cut-push (x ∷ h) e (b ∷ before) f after whole =
    let one : x ≡ b = cc whole in
    let rest : h ++ e ∷ [] ≡ before ++ f ∷ after = cc whole in
    cut-push-next x b h before e f one (cut-push h e before f after rest)

pub legal-push : (count : ℕ) (h : History) (e : Entry) → IsLegal count h → Allows count h e.vector e.id e.act → IsLegal count (h ++ e ∷ [])
legal-push count h e l allowed = record { each = λ before f after whole. by before f (cut-push h e before f after whole) }
  where
    by : (before : History) (f : Entry) → CutPush h e before f → Allows count before f.vector f.id f.act
    by before f (last a c) =
        subst (λ (x : History). Allows count x f.vector f.id f.act) (sym a) (subst (λ (y : Entry). Allows count h y.vector y.id y.act) (sym c) allowed)
    by before f (within more whole) = l.each before f more whole

pub legal-nil : (count : ℕ) → IsLegal count []
legal-nil count = record { each = λ before f after whole. (let lengths = ap length whole in absurd (omega (arith, lengths, length-append before (f ∷ after)))) }

-- one entry more of a history that is read from the front
pub name-more : (h : History) (i : ℕ) (e : Entry) (v : Vector) → i < length h → e ≡ get_or h i e → name_of (take (i + 1) h) v ≡ (if names e v then Some e.id else name_of (take i h) v)
unfolding name_of
name-more h i e v inside is =
    fold_more (λ (now : Option ℕ) (e : Entry). if names e v then Some e.id else now) None h i e inside
    ∙ ap (λ (x : Entry). if names x v then Some x.id else fold (λ (now : Option ℕ) (e : Entry). if names e v then Some e.id else now) None (take i h)) (sym is)

pub flags-nil : (v : Vector) → flags_of [] v ≡ None
unfolding flags_of
flags-nil v = refl

pub flags-more : (h : History) (i : ℕ) (e : Entry) (v : Vector) → i < length h → e ≡ get_or h i e
    → flags_of (take (i + 1) h) v ≡ (if same e.vector v then flags_after e.act (flags_of (take i h) v) else flags_of (take i h) v)
unfolding flags_of
flags-more h i e v inside is =
    let step = λ (now : Option ℕ) (e : Entry). if same e.vector v then flags_after e.act now else now in
    fold_more step None h i e inside ∙ ap (λ (x : Entry). step (fold step None (take i h)) x) (sym is)

-- a history cut before the entry at a place
pub cut-here : (h : History) (i : ℕ) (e : Entry) → slice_get h i ≡ Some e → h ≡ take i h ++ e ∷ drop (suc i) h
cut-here [] i e at = cc at
cut-here (x ∷ h) zero e at = let one : x ≡ e = cc at in ap (λ (y : Entry). y ∷ h) one
cut-here (x ∷ h) (suc i) e at = ap (λ (t : History). x ∷ t) (cut-here h i e at)

-- a legal history of one entry more, and one that is not legal because of an entry
pub legal-more : (count : ℕ) (h : History) (i : ℕ) (e : Entry) → slice_get h i ≡ Some e → IsLegal count (take i h) → Allows count (take i h) e.vector e.id e.act
    → IsLegal count (take (i + 1) h)
legal-more count h i e at l allowed =
    let longer : take (i + 1) h ≡ take i h ++ e ∷ [] = take_more h i e (slice_get_within h i e at) ∙ ap (λ (x : Entry). take i h ++ x ∷ []) (get_or_from_slice_get h i e e at) in
    subst (λ (t : History). IsLegal count t) (sym longer) (legal-push count (take i h) e l allowed)

pub legal-there : (count : ℕ) (h : History) (i : ℕ) (e : Entry) → slice_get h i ≡ Some e → IsLegal count h → Allows count (take i h) e.vector e.id e.act
legal-there count h i e at l = l.each (take i h) e (drop (suc i) h) (cut-here h i e at)

-- who has a name got it in an entry
abbrev name_from : Vector → Option ℕ → History → Option ℕ
name_from w now h = fold (λ now e. if names e w then Some e.id else now) now h

source-from : (w : Vector) (id : ℕ) (h : History) (now : Option ℕ) → (now ≡ Some id → ⊥) → name_from w now h ≡ Some id
    → (k : ℕ) × (e : Entry) × (slice_get h k ≡ Some e) × (e.vector ≡ w) × (is_fresh e.act ≡ true)
source-from w id [] now before n = absurd (before n)
source-from w id (e ∷ h) now before n = by (names e w) refl n (source-from w id h now before)
  where
    by : (b : Bool) → names e w ≡ b → name_from w (if b then Some e.id else now) h ≡ Some id
        → (name_from w now h ≡ Some id → (k : ℕ) × (f : Entry) × (slice_get h k ≡ Some f) × (f.vector ≡ w) × (is_fresh f.act ≡ true))
        → (k : ℕ) × (f : Entry) × (slice_get (e ∷ h) k ≡ Some f) × (f.vector ≡ w) × (is_fresh f.act ≡ true)
    by true t n more = let this = names-this e w t in (zero, e, refl, this.1, this.0)
    by false t n more = let rest = more n in (suc rest.0, rest.1, rest.2, rest.3, rest.4)

pub name-source : (h : History) (w : Vector) (id : ℕ) → name_of h w ≡ Some id
    → (k : ℕ) × (e : Entry) × (slice_get h k ≡ Some e) × (e.vector ≡ w) × (is_fresh e.act ≡ true)
unfolding name_of
name-source h w id n = source-from w id h None (λ (e : None ≡ Some id). cc e) n

fresh-put : (act : Act) → is_fresh act ≡ true → act ≡ Put true
fresh-put (Put true) e = refl
fresh-put (Put false) e = cc e
fresh-put (Set bit first) e = cc e
fresh-put (Clear bit first) e = cc e
fresh-put (Look flags) e = cc e

-- in a legal history the names are those that its entries gave
pub name-given : (count : ℕ) (h : History) (v : Vector) (id : ℕ) → IsLegal count h → name_of h v ≡ Some id → IsNamedIn h v id
name-given count h v id l n =
    let source = name-source h v id n in
    let e = source.1 in
    let name = entry-named count h (take source.0 h) (drop (suc source.0) h) e l (cut-here h source.0 e source.2) in
    let same-vector : name_of h v ≡ Some e.id = subst (λ (x : Vector). name_of h x ≡ Some e.id) source.3 name in
    record {
      entry = e;
      there = (source.0, slice_get_within h source.0 e source.2, get_or_from_slice_get h source.0 e e source.2);
      fresh = fresh-put e.act source.4;
      vector = source.3;
      named = cc (same-vector, n);
    }

pub given-name : (count : ℕ) (h : History) (v : Vector) (id : ℕ) → IsLegal count h → IsNamedIn h v id → name_of h v ≡ Some id
given-name count h v id l given =
    let at : slice_get h given.there.0 ≡ Some given.entry = slice_get-get_or h given.there.0 given.entry given.there.1 ∙ ap Some given.there.2 in
    let name = entry-named count h (take given.there.0 h) (drop (suc given.there.0) h) given.entry l (cut-here h given.there.0 given.entry at) in
    subst (λ (x : Vector). name_of h x ≡ Some id) given.vector (name ∙ ap Some given.named)
