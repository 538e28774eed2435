-- How many: numbers below a bound, and names by who gave them.
use Rattle.std.proofs.Common.{◌≡◌, ◌⊎◌, ℕ, ◌+◌, ◌<◌, ◌≤◌, List, [], ◌∷◌, ◌++◌, length, Bool, true, false, cond, refl, sym, ap, ◌∙◌, subst, inl, inr, ⊎_elim, eqb, eq-eqb, ne_eqb, arith, Some}
use Rattle.std.specs.Prelude.{◌&&◌, ◌||◌, ◌==◌, count_by}
use Rattle.std.specs.List.{list_any, IsDistinct, AllByRecursion}
use Rattle.std.proofs.lemmas.Bool.{eqb-true}
use Rattle.std.proofs.lemmas.List.Sums.{sum_by-cons}
use Rattle.std.proofs.lemmas.Map.Steps.{length-le_from_distinct_below}
use Rattle.tree_shape.specs.Tree.{Has}
use Rattle.tdb_base.specs.History.{Vector, Entry, History, is_fresh, name_of, calls}
use Rattle.tdb_base.specs.Legal.{Allows, IsLegal}
use Rattle.tdb_base.proofs.SumLemmas.{sum-both, sum-same}
use Rattle.tdb_base.proofs.DistinctLemmas.{count-filter}
use Rattle.tdb_base.proofs.NameLemmas.{legal-walk, legal-push, legal-nil, name-kept, entry-named, allowed-fresh}
use Rattle.pair_rule.specs.Numbers.{NoRepeats}
use Rattle.pair_rule.specs.Rest.{names_of_callers}
use Rattle.pair_rule.proofs.Lists.{has_either, has_front, no_repeats_both}

pub no_repeats_front : (xs ys : List ℕ) → NoRepeats (xs ++ ys) → NoRepeats xs
no_repeats_front [] ys p = tt
no_repeats_front (x ∷ xs) ys p = ((λ h. p.0 (has_front x xs ys h)), no_repeats_front xs ys p.1)

pub no_repeats_back : (xs ys : List ℕ) → NoRepeats (xs ++ ys) → NoRepeats ys
no_repeats_back [] ys p = p
no_repeats_back (x ∷ xs) ys p = no_repeats_back xs ys p.1

any_has : (x : ℕ) (xs : List ℕ) → list_any (eqb x) xs ≡ true → Has x xs
any_has x [] e = cc e
any_has x (y ∷ xs) e = by (eqb x y) refl e (any_has x xs)
  where
    by : (b : Bool) → eqb x y ≡ b → (b || list_any (eqb x) xs) ≡ true → (list_any (eqb x) xs ≡ true → Has x xs) → Has x (y ∷ xs)
    by true t e more = inl (eqb-true x y t)
    by false t e more = inr (more e)

each_other : (x : ℕ) (xs : List ℕ) → (Has x xs → ⊥) → AllByRecursion (λ y. eqb x y ≡ false) xs
each_other x [] never = tt
each_other x (y ∷ xs) never = (ne_eqb x y (λ e. never (inl e)), each_other x xs (λ h. never (inr h)))

distinct : (xs : List ℕ) → NoRepeats xs → IsDistinct eqb xs
unfolding IsDistinct
distinct [] p = tt
distinct (x ∷ xs) p = (each_other x xs p.0, distinct xs p.1)

-- numbers below a bound, none of them twice, are no more than the bound
pub few : (xs : List ℕ) (n : ℕ) → NoRepeats xs → ((x : ℕ) → Has x xs → x < n) → length xs ≤ n
few xs n once below = length-le_from_distinct_below xs n (distinct xs once) (λ q e. below q (any_has q xs e))

-- no callers, or one caller more
names_nobody : (h : History) → names_of_callers [] h ≡ 0
names_nobody [] = refl
names_nobody (e ∷ h) =
    let a = sum_by-cons (λ (x : Entry). cond (is_fresh x.act && list_any (λ c. c == x.caller) []) 1 0) e h in
    let b = names_nobody h in
    let z : cond {A = ℕ} (is_fresh e.act && false) 1 0 ≡ 0 = none (is_fresh e.act) in
    omega (arith, a, b, z)
  where
    none : (b : Bool) → cond {A = ℕ} (b && false) 1 0 ≡ 0
    none true = refl
    none false = refl

any_not : (c : ℕ) (ns : List ℕ) → (Has c ns → ⊥) → list_any (λ d. d == c) ns ≡ false
any_not c [] never = refl
any_not c (n ∷ ns) never = rw (ne_eqb n c (λ e. never (inl (sym e)))) (any_not c ns (λ h. never (inr h)))

names_one_more : (c : ℕ) (ns : List ℕ) (h : History) → (Has c ns → ⊥) → names_of_callers (c ∷ ns) h ≡ count_by (λ e. is_fresh e.act) (calls h c) + names_of_callers ns h
names_one_more c ns h never =
    let mine : Entry → ℕ = λ e. cond ((e.caller == c) && is_fresh e.act) 1 0 in
    let theirs : Entry → ℕ = λ e. cond (is_fresh e.act && list_any (λ d. d == e.caller) ns) 1 0 in
    sum-same (λ (e : Entry). cond (is_fresh e.act && ((c == e.caller) || list_any (λ d. d == e.caller) ns)) 1 0) (λ e. mine e + theirs e) h (λ e k. by e (c == e.caller) refl)
    ∙ (sum-both mine theirs h ∙ ap (λ (n : ℕ). n + names_of_callers ns h) (sym (count-filter (λ e. e.caller == c) (λ e. is_fresh e.act) h)))
  where
    one : (fresh : Bool) → cond {A = ℕ} (fresh && true) 1 0 ≡ cond (true && fresh) 1 0 + cond (fresh && false) 1 0
    one true = refl
    one false = refl

    by : (e : Entry) (b : Bool) → (c == e.caller) ≡ b
        → cond (is_fresh e.act && (b || list_any (λ d. d == e.caller) ns)) 1 0 ≡ cond ((e.caller == c) && is_fresh e.act) 1 0 + cond (is_fresh e.act && list_any (λ d. d == e.caller) ns) 1 0
    by e true t =
        let same : c ≡ e.caller = eqb-true c e.caller t in
        rw (eq-eqb e.caller c (sym same), any_not e.caller ns (λ h. never (subst (λ (n : ℕ). Has n ns) (sym same) h))) (one (is_fresh e.act))
    by e false t = rw (ne_eqb e.caller c (λ z. absurd (cc (eq-eqb c e.caller (sym z), t)))) (omega arith)

-- the names by caller
tally : List ℕ → History → ℕ
tally [] h = 0
tally (c ∷ ns) h = count_by (λ e. is_fresh e.act) (calls h c) + tally ns h

names_tally : (ns : List ℕ) (h : History) → NoRepeats ns → names_of_callers ns h ≡ tally ns h
unfolding tally
names_tally [] h once = names_nobody h
names_tally (c ∷ ns) h once = names_one_more c ns h once.0 ∙ ap (λ (n : ℕ). count_by (λ e. is_fresh e.act) (calls h c) + n) (names_tally ns h once.1)

tally_both : (ns ms : List ℕ) (h : History) → tally (ns ++ ms) h ≡ tally ns h + tally ms h
unfolding tally
tally_both [] ms h = omega arith
tally_both (c ∷ ns) ms h = let rest = tally_both ns ms h in omega (arith, rest)

tally_same : (ns : List ℕ) (g h : History) → ((c : ℕ) → Has c ns → calls g c ≡ calls h c) → tally ns g ≡ tally ns h
unfolding tally
tally_same [] g h same = refl
tally_same (c ∷ ns) g h same = let a = ap (λ (x : History). count_by (λ e. is_fresh e.act) x) (same c (inl refl)) in let b = tally_same ns g h (λ d k. same d (inr k)) in omega (arith, a, b)

-- the same callers with the same calls gave as many names
pub names_same : (ns : List ℕ) (g h : History) → NoRepeats ns → ((c : ℕ) → Has c ns → calls g c ≡ calls h c) → names_of_callers ns g ≡ names_of_callers ns h
names_same ns g h once same = names_tally ns g once ∙ (tally_same ns g h same ∙ sym (names_tally ns h once))

-- callers that are none of others gave, together with these, the sum
pub names_both : (ns ms : List ℕ) (g h k : History) → NoRepeats (ns ++ ms) → ((c : ℕ) → Has c ns → calls k c ≡ calls g c) → ((c : ℕ) → Has c ms → calls k c ≡ calls h c)
    → names_of_callers (ns ++ ms) k ≡ names_of_callers ns g + names_of_callers ms h
names_both ns ms g h k once first second =
    let a = names_tally (ns ++ ms) k once in
    let b = tally_both ns ms k in
    let c = names_tally ns g (no_repeats_front ns ms once) in
    let d = names_tally ms h (no_repeats_back ns ms once) in
    let e = tally_same ns k g first in
    let f = tally_same ms k h second in
    omega (arith, a, b, c, d, e, f)

-- the identifiers of a history's names, one for each entry that gives one
ids : History → List ℕ
ids [] = []
ids (e ∷ h) = cond (is_fresh e.act) (e.id ∷ ids h) (ids h)

ids_append : (g h : History) → ids (g ++ h) ≡ ids g ++ ids h
unfolding ids
ids_append [] h = refl
ids_append (e ∷ g) h = by (is_fresh e.act) (ids_append g h)
  where
    by : (b : Bool) → ids (g ++ h) ≡ ids g ++ ids h → cond b (e.id ∷ ids (g ++ h)) (ids (g ++ h)) ≡ cond b (e.id ∷ ids g) (ids g) ++ ids h
    by true p = ap (λ (l : List ℕ). e.id ∷ l) p
    by false p = p

ids_count : (ns : List ℕ) (h : History) → names_of_callers ns h ≤ length (ids h)
unfolding ids
ids_count ns [] = omega arith
ids_count ns (e ∷ h) =
    let a = sum_by-cons (λ (x : Entry). cond (is_fresh x.act && list_any (λ c. c == x.caller) ns) 1 0) e h in
    let b = ids_count ns h in
    let c = by (is_fresh e.act) (list_any (λ c. c == e.caller) ns) in
    omega (arith, a, b, c)
  where
    by : (b d : Bool) → cond (b && d) 1 0 + length (ids h) ≤ length (cond b (e.id ∷ ids h) (ids h))
    by true true = omega arith
    by true false = omega arith
    by false d = omega arith

record Apart (count : ℕ) (h : History) : Type 0 where
  pub legal : IsLegal count h
  pub once : NoRepeats (ids h)
  pub named : (id : ℕ) → Has id (ids h) → (v : Vector) × (name_of h v ≡ Some id)

apart_push : (count : ℕ) (h : History) (e : Entry) → Allows count h e.vector e.id e.act → Apart count h → Apart count (h ++ e ∷ [])
unfolding ids
apart_push count h e allowed a =
    let legal = legal-push count h e a.legal allowed in
    let kept : (id : ℕ) → Has id (ids h) → (v : Vector) × (name_of (h ++ e ∷ []) v ≡ Some id) = λ id has. let n = a.named id has in (n.0, name-kept count n.0 id h (e ∷ []) legal n.1) in
    let P : List ℕ → Type 0 = λ l. NoRepeats l × ((id : ℕ) → Has id l → (v : Vector) × (name_of (h ++ e ∷ []) v ≡ Some id)) in
    let both = subst P (sym (ids_append h (e ∷ []))) (by (is_fresh e.act) refl a.once kept (entry-named count (h ++ e ∷ []) h [] e legal refl)) in
    record { legal = legal; once = both.0; named = both.1 }
  where
    by : (b : Bool) → is_fresh e.act ≡ b → NoRepeats (ids h) → ((id : ℕ) → Has id (ids h) → (v : Vector) × (name_of (h ++ e ∷ []) v ≡ Some id)) → name_of (h ++ e ∷ []) e.vector ≡ Some e.id
        → NoRepeats (ids h ++ cond b (e.id ∷ []) []) × ((id : ℕ) → Has id (ids h ++ cond b (e.id ∷ []) []) → (v : Vector) × (name_of (h ++ e ∷ []) v ≡ Some id))
    by true t once kept here = (
      no_repeats_both (ids h) (e.id ∷ []) once ((λ no. no), tt) (λ x p q. ⊎_elim
          (λ (same : x ≡ e.id). let n = a.named x p in (allowed-fresh count h e.vector e.id e.act allowed t).1 n.0 (n.1 ∙ ap Some same))
          (λ (no : ⊥). no)
          q),
      λ id has. ⊎_elim
          (λ (p : Has id (ids h)). kept id p)
          (λ (q : (id ≡ e.id) ⊎ ⊥). ⊎_elim (λ (same : id ≡ e.id). let found : (v : Vector) × (name_of (h ++ e ∷ []) v ≡ Some id) = (e.vector, here ∙ ap Some (sym same)) in found) (λ (no : ⊥). absurd no) q)
          (has_either id (ids h) (e.id ∷ []) has),
    )
    by false t once kept here = (
      no_repeats_both (ids h) [] once tt (λ x p q. q),
      λ id has. ⊎_elim (λ (p : Has id (ids h)). kept id p) (λ (no : ⊥). absurd no) (has_either id (ids h) [] has),
    )

-- in a legal history whose identifiers are below a bound, nobody gave more names
pub few_names : (count n : ℕ) (ns : List ℕ) (h : History) → IsLegal count h → ((v : Vector) (id : ℕ) → name_of h v ≡ Some id → id < n) → names_of_callers ns h ≤ n
unfolding ids
few_names count n ns h legal below =
    let a : Apart count h = legal-walk count (Apart count) (apart_push count) [] h legal record { legal = legal-nil count; once = tt; named = λ id has. absurd has } in
    let b = few (ids h) n a.once (λ id has. let m = a.named id has in below m.0 id m.1) in
    let c = ids_count ns h in
    omega arith
