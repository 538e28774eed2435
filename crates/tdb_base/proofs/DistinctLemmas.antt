-- Vectors without repeats: each stands there once, and there are so many as classes of equal ones.
use Rattle.std.proofs.Common.{◌≡◌, ◌<◌, ◌+◌, ◌/◌, ◌%◌, ℕ, zero, suc, List, [], ◌∷◌, ◌++◌, length, Some, Bool, true, false, cond, refl, sym, ap, subst, arith, ◌∙◌, length-append}
use Rattle.std.proofs.lemmas.List.Sums.{sum_by-cons, length-filter}
use Rattle.std.proofs.lemmas.List.Elements.{filter-append}
use Rattle.std.proofs.lemmas.List.{take_more}
use Rattle.std.proofs.lemmas.List.FromFn.{map-range_with_len_more}
use Rattle.std.specs.List.{list_any, range_with_len}
use Rattle.std.specs.Prelude.{◌&&◌, ◌||◌, ◌==◌, get_or, take, map, filter, not, slice_get, count_by, sum_by, if◌then◌else◌}
use Rattle.tdb_base.specs.History.{Vector, Entry, History, is_fresh, same}
use Rattle.tdb_base.specs.Legal.{IsLegal}
use Rattle.tdb_base.specs.Lines.{distinct, mine, named}
use Rattle.tdb_base.proofs.ListLemmas.{At, at-next, cut-at, filter-at}
use Rattle.tdb_base.proofs.NameLemmas.{entry-named, gives-once, same-equal, same-refl}
use Rattle.tdb_base.proofs.SumLemmas.{sum-by-classes, sum-ones, sum-same}

pub count-cons : {A : Type 0} (q : A → Bool) (x : A) (xs : List A) → count_by q (x ∷ xs) ≡ cond (q x) 1 0 + count_by q xs
count-cons q x xs = sum_by-cons (λ (y : _). cond (q y) 1 0) x xs

-- how many of what a filter keeps pass a second test
pub count-filter : {A : Type 0} (p q : A → Bool) (xs : List A) → count_by q (filter p xs) ≡ count_by (λ x. p x && q x) xs
count-filter p q [] = refl
count-filter p q (x ∷ xs) = by (p x) (count-filter p q xs) ∙ sym (count-cons (λ (x : _). p x && q x) x xs)
  where
    by : (b : Bool) → count_by q (filter p xs) ≡ count_by (λ x. p x && q x) xs
        → count_by q (cond b (x ∷ filter p xs) (filter p xs)) ≡ cond (b && q x) 1 0 + count_by (λ x. p x && q x) xs
    by true rest = count-cons q x (filter p xs) ∙ ap (λ (n : ℕ). cond (q x) 1 0 + n) rest
    by false rest = omega (arith, rest)

pub count-same : {A : Type 0} (p q : A → Bool) (xs : List A) → ((x : A) → p x ≡ q x) → count_by p xs ≡ count_by q xs
count-same p q xs h = sum-same (λ (x : _). cond (p x) 1 0) (λ (x : _). cond (q x) 1 0) xs (λ x k. ap (λ (b : Bool). cond b 1 0) (h x))

pub count-nothing : {A : Type 0} (p : A → Bool) (xs : List A) → ((x : A) → p x ≡ false) → count_by p xs ≡ 0
count-nothing p [] h = refl
count-nothing p (x ∷ xs) h = count-cons p x xs ∙ rw (h x, count-nothing p xs h) refl

pub distinct-at : (xs : List Vector) (v : Vector) (k : ℕ) → slice_get (distinct xs) k ≡ Some v → At xs v
unfolding distinct
distinct-at [] v k e = cc e
distinct-at (x ∷ xs) v zero e = (zero, e)
distinct-at (x ∷ xs) v (suc k) e =
    let kept = filter-at (λ (w : Vector). not (same x w)) (distinct xs) v k e in
    at-next x xs v (distinct-at xs v kept.0.0 kept.0.1)

-- a vector of the list stands once among those without repeats
pub distinct-once : (xs : List Vector) (u : Vector) (k : ℕ) → slice_get xs k ≡ Some u → count_by (λ c. same u c) (distinct xs) ≡ 1
unfolding distinct
distinct-once [] u k e = cc e
distinct-once (x ∷ xs) u k e =
    count-cons (λ (c : Vector). same u c) x (filter (λ w. not (same x w)) (distinct xs))
    ∙ ap (λ (n : ℕ). cond (same u x) 1 0 + n) (count-filter (λ (w : Vector). not (same x w)) (λ (c : Vector). same u c) (distinct xs))
    ∙ by (same u x) refl k e (distinct-once xs u)
  where
    clash : (u ≡ x) → (w : Vector) → (not (same x w) && same u w) ≡ false
    clash h w = subst (λ (y : Vector). (not (same x w) && same y w) ≡ false) (sym h) (either (same x w))
      where
        either : (b : Bool) → (not b && b) ≡ false
        either true = refl
        either false = refl

    apart : same u x ≡ false → (w : Vector) → (not (same x w) && same u w) ≡ same u w
    apart h w = which (same u w) refl
      where
        which : (b : Bool) → same u w ≡ b → (not (same x w) && b) ≡ b
        which false t = either (not (same x w))
          where
            either : (b : Bool) → (b && false) ≡ false
            either true = refl
            either false = refl
        which true t = differ (same x w) refl
          where
            differ : (b : Bool) → same x w ≡ b → (not b && true) ≡ true
            differ false s = refl
            differ true s =
                let one : u ≡ x = same-equal u w t ∙ sym (same-equal x w s) in
                let equal : same u x ≡ true = subst (λ (y : Vector). same u y ≡ true) one (same-refl u) in
                cc (h, equal)

    by : (b : Bool) → same u x ≡ b → (k : ℕ) → slice_get (x ∷ xs) k ≡ Some u → ((k : ℕ) → slice_get xs k ≡ Some u → count_by (λ c. same u c) (distinct xs) ≡ 1)
        → cond b 1 0 + count_by (λ w. not (same x w) && same u w) (distinct xs) ≡ 1
    by true t k e more =
        let none = count-nothing (λ (w : Vector). not (same x w) && same u w) (distinct xs) (clash (same-equal u x t)) in
        omega (arith, none)
    by false t zero e more =
        let one : x ≡ u = cc e in
        let equal : same u x ≡ true = subst (λ (y : Vector). same u y ≡ true) (sym one) (same-refl u) in
        cc (t, equal)
    by false t (suc k) e more =
        let all = count-same (λ (w : Vector). not (same x w) && same u w) (λ (w : Vector). same u w) (distinct xs) (apart t) in
        let one = more k e in
        omega (arith, all, one)

pub at-map : {A B : Type 0} (f : A → B) (xs : List A) (x : A) (k : ℕ) → slice_get xs k ≡ Some x → slice_get (map f xs) k ≡ Some (f x)
at-map f [] x k e = cc e
at-map f (y ∷ xs) x zero e = let one : y ≡ x = cc e in ap (λ (z : _). Some (f z)) one
at-map f (y ∷ xs) x (suc k) e = at-map f xs x k e

pub map-at : {A B : Type 0} (f : A → B) (xs : List A) (y : B) (k : ℕ) → slice_get (map f xs) k ≡ Some y → (x : A) × (slice_get xs k ≡ Some x) × (f x ≡ y)
map-at f [] y k e = cc e
map-at f (x ∷ xs) y zero e = (x, refl, cc e)
map-at f (x ∷ xs) y (suc k) e = map-at f xs y k e

-- where each class of equal vectors weighs one, all weigh so much as there are classes
pub distinct-sum : {A : Type 0} (key : A → Vector) (f : A → ℕ) (xs : List A)
    → ((x : A) → At xs x → sum_by f (filter (λ y. same (key y) (key x)) xs) ≡ 1)
    → sum_by f xs ≡ length (distinct (map key xs))
distinct-sum key f xs one =
    let classes = distinct (map key xs) in
    sum-by-classes same key classes f xs (λ x h. distinct-once (map key xs) (key x) h.0 (at-map key xs x h.0 h.1))
    ∙ sum-same (λ (c : Vector). sum_by f (filter (λ y. same (key y) c) xs)) (λ (c : Vector). 1) classes
    (λ c h. let place = distinct-at (map key xs) c h.0 h.1 in
    let found = map-at key xs c place.0 place.1 in
    subst (λ (c : Vector). sum_by f (filter (λ y. same (key y) c) xs) ≡ 1) found.2 (one found.0 (place.0, found.1)))
    ∙ sum-ones classes

-- a legal history has so many names as fresh entries
pub count-named : (count : ℕ) (h : History) → IsLegal count h → count_by (λ e. is_fresh e.act) h ≡ length (named h)
count-named count h l =
    let fresh = filter (λ (e : Entry). is_fresh e.act) h in
    sym (length-filter (λ (e : Entry). is_fresh e.act) h) ∙ sym (sum-ones fresh)
    ∙ distinct-sum (λ (e : Entry). e.vector) (λ (e : Entry). 1) fresh (one fresh refl)
  where
    one : (fresh : History) → fresh ≡ filter (λ e. is_fresh e.act) h → (x : Entry) → At fresh x
        → sum_by (λ e. 1) (filter (λ y. same y.vector x.vector) fresh) ≡ 1
    one fresh is x at =
        let kept = filter-at (λ (e : Entry). is_fresh e.act) h x at.0 (subst (λ (t : History). slice_get t at.0 ≡ Some x) is at.1) in
        let cut = cut-at h x kept.0.0 kept.0.1 in
        let name = entry-named count h cut.before cut.after x l cut.whole in
        sum-ones (filter (λ (y : Entry). same y.vector x.vector) fresh)
        ∙ length-filter (λ (y : Entry). same y.vector x.vector) fresh
        ∙ ap (λ (t : History). count_by (λ y. same y.vector x.vector) t) is
        ∙ count-filter (λ (e : Entry). is_fresh e.act) (λ (y : Entry). same y.vector x.vector) h
        ∙ gives-once count x.vector h l ∙ rw name refl

filter-tail : (x v : Vector) (c : Bool) → filter (λ w. not (same x w)) (cond c [] (v ∷ [])) ≡ cond (same x v || c) [] (v ∷ [])
filter-tail x v true = either-true (same x v)
  where
    either-true : (b : Bool) → [] ≡ cond (b || true) [] (v ∷ [])
    either-true true = refl
    either-true false = refl
filter-tail x v false = by (same x v)
  where
    by : (b : Bool) → cond (not b) (v ∷ []) [] ≡ cond (b || false) [] (v ∷ [])
    by true = refl
    by false = refl

-- one vector more: it stands at the end, unless it was there
pub distinct-push : (xs : List Vector) (v : Vector) → distinct (xs ++ v ∷ []) ≡ distinct xs ++ cond (list_any (λ x. same x v) xs) [] (v ∷ [])
unfolding distinct
distinct-push [] v = refl
distinct-push (x ∷ xs) v =
    ap (λ (t : List Vector). x ∷ filter (λ w. not (same x w)) t) (distinct-push xs v)
    ∙ ap (λ (t : List Vector). x ∷ t) (filter-append (λ (w : Vector). not (same x w)) (distinct xs) (cond (list_any (λ x. same x v) xs) [] (v ∷ []))
    ∙ ap (λ (t : List Vector). filter (λ w. not (same x w)) (distinct xs) ++ t) (filter-tail x v (list_any (λ x. same x v) xs)))

map-same : (xs : List ℕ) → map (λ i. i) xs ≡ xs
map-same [] = refl
map-same (x ∷ xs) = ap (λ (t : List ℕ). x ∷ t) (map-same xs)

range-more : (n : ℕ) → range_with_len 0 (n + 1) ≡ range_with_len 0 n ++ n ∷ []
range-more n =
    sym (map-same (range_with_len 0 (n + 1))) ∙ map-range_with_len_more (λ (i : ℕ). i) 0 n n (omega arith)
    ∙ ap (λ (t : List ℕ). t ++ n ∷ []) (map-same (range_with_len 0 n))

-- one line more of a worker's
pub mine-more : (lines workers block worker : ℕ) → mine (lines + 1) workers block worker
    ≡ mine lines workers block worker ++ (if lines / block % workers == worker then lines ∷ [] else [])
mine-more lines workers block worker =
    let own = λ (i : ℕ). i / block % workers == worker in
    ap (filter own) (range-more lines) ∙ filter-append own (range_with_len 0 lines) (lines ∷ [])

-- how many different vectors there are, with one more
pub distinct-more : (xs : List Vector) (v : Vector) → length (distinct (xs ++ v ∷ [])) ≡ length (distinct xs) + (if list_any (λ x. same x v) xs then 0 else 1)
distinct-more xs v = ap length (distinct-push xs v) ∙ by (list_any (λ (x : Vector). same x v) xs)
  where
    by : (b : Bool) → length (distinct xs ++ cond b [] (v ∷ [])) ≡ length (distinct xs) + (if b then 0 else 1)
    by true = simp length-append
    by false = simp length-append

pub map-push : {A B : Type 0} (f : A → B) (xs : List A) (x : A) → map f (xs ++ x ∷ []) ≡ map f xs ++ f x ∷ []
map-push f [] x = refl
map-push f (y ∷ xs) x = ap (λ (t : List _). f y ∷ t) (map-push f xs x)

pub any-map : {A : Type 0} (f : A → Vector) (xs : List A) (v : Vector) → list_any (λ x. same x v) (map f xs) ≡ list_any (λ x. same (f x) v) xs
any-map f [] v = refl
any-map f (x ∷ xs) v = ap (λ (b : Bool). same (f x) v || b) (any-map f xs v)

pub distinct-nil : distinct [] ≡ []
unfolding distinct
distinct-nil = refl

-- the same, over things that stand for vectors
pub distinct-step : {A : Type 0} (f : A → Vector) (xs : List A) (i : ℕ) (x : A) → i < length xs → x ≡ get_or xs i x
    → length (distinct (map f (take (i + 1) xs))) ≡ length (distinct (map f (take i xs))) + (if list_any (λ y. same (f y) (f x)) (take i xs) then 0 else 1)
distinct-step f xs i x h is =
    let longer : take (i + 1) xs ≡ take i xs ++ x ∷ [] = take_more xs i x h ∙ ap (λ (y : _). take i xs ++ y ∷ []) (sym is) in
    ap (λ (t : List _). length (distinct (map f t))) longer ∙ ap (λ (t : List Vector). length (distinct t)) (map-push f (take i xs) x)
    ∙ distinct-more (map f (take i xs)) (f x)
    ∙ ap (λ (b : Bool). length (distinct (map f (take i xs))) + (if b then 0 else 1)) (any-map f (take i xs) (f x))
