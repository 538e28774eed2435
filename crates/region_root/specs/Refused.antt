-- A root for which there was no place gets no name later, and there are few names.
use Rattle.std.proofs.Common.{◌≡◌, ℕ, zero, suc, ◌+◌, ◌*◌, ◌-◌, ◌^◌, ◌<◌, ◌≤◌, List, [], ◌∷◌, ◌++◌}
use Rattle.std.proofs.Common.{true, false, cond, Option, Some, None, refl, sym, ap, ◌∙◌, subst}
use Rattle.std.proofs.Common.{length, Bool, inl, inr, ⊎_elim, arith, pow_pos}
use Rattle.std.specs.Prelude.{◌&&◌, ◌==◌, fold}
use Rattle.std.specs.List.{list_any}
use Rattle.std.proofs.lemmas.List.Sums.{sum_by-cons}
use Rattle.std.proofs.lemmas.Nat.{pow-add}
use Rattle.std.proofs.Math.Pow.{pow_mono}
use mathlib.Core.Logic.{dite}
use native.Mathlib.Decide.{dec_lt}
use Rattle.tree_shape.specs.Tree.{Has, IsPart, RootStands}
use Rattle.tree_shape.proofs.Trees.{one_root}
use Rattle.tdb_base.specs.History.{Vector, Entry, History, is_fresh, name_of}
use Rattle.tdb_base.specs.Legal.{Allows, IsLegal}
use Rattle.tdb_base.proofs.NameLemmas.{names-differ, legal-walk, legal-push, legal-nil, allowed-fresh}
use Rattle.pair_rule.specs.declared.sizes.About.{About}
use Rattle.pair_rule.specs.declared.pass.PassOf.{PassOf}
use Rattle.pair_rule.specs.Numbers.{NoRepeats}
use Rattle.pair_rule.specs.Part.{Store}
use Rattle.pair_rule.specs.Rest.{AtRest, names_of_callers, view}
use Rattle.pair_rule.proofs.Names.{root_more}
use Rattle.pair_nodes.specs.Roots.{Refusals, HasFewNames}
use Rattle.region_root.specs.declared.root.Regions.{Regions}
use Rattle.region_root.specs.Layout.{regions, region_count, most, region_of}
use Rattle.region_root.specs.Maps.{rooted, roots_of, AreRootsOf, FewEach, IsFull}
use Rattle.region_root.specs.Compact.{compact}
use Rattle.region_root.specs.Names.{roots_nil, roots_push, are_names, region_below}

-- A list of different roots, none of which is twice there, and which lie in so many regions, has no more than
-- all of these can have.
record Shared (place : ℕ → ℕ) (n : ℕ) (xs : List ℕ) : Type 0 where
  pub here : List ℕ
  pub rest : List ℕ
  pub here_once : NoRepeats here
  pub rest_once : NoRepeats rest
  pub here_are : (x : ℕ) → Has x here → (place x ≡ n) × Has x xs
  pub rest_are : (x : ℕ) → Has x rest → (place x < n) × Has x xs
  pub all : length here + length rest ≡ length xs

share : (place : ℕ → ℕ) (n : ℕ) (xs : List ℕ) → NoRepeats xs → ((x : ℕ) → Has x xs → place x < suc n)
    → Shared place n xs
share place n [] once below = record {
  here = [];
  rest = [];
  here_once = tt;
  rest_once = tt;
  here_are = λ x no. absurd no;
  rest_are = λ x no. absurd no;
  all = refl;
}
share place n (x ∷ xs) once below = more (share place n xs once.1 (λ y h. below y (inr h)))
  where
    more : Shared place n xs → Shared place n (x ∷ xs)
    more o = dite (dec_lt (place x) n)
        (λ lt. record {
          here = o.here;
          rest = x ∷ o.rest;
          here_once = o.here_once;
          rest_once = ((λ h. once.0 (o.rest_are x h).1), o.rest_once);
          here_are = λ y h. let k = o.here_are y h in (k.0, inr k.1);
          rest_are = λ y h. ⊎_elim (λ (e : y ≡ x). (subst (λ (m : ℕ). place m < n) (sym e) lt, inl e))
              (λ (t : Has y o.rest). let k = o.rest_are y t in (k.0, inr k.1)) h;
          all = let a = o.all in omega (arith, a);
        })
        (λ ge.
        let low = below x (inl refl) in
        let is : place x ≡ n = omega (arith, low, ge) in record {
          here = x ∷ o.here;
          rest = o.rest;
          here_once = ((λ h. once.0 (o.here_are x h).1), o.here_once);
          rest_once = o.rest_once;
          here_are = λ y h. ⊎_elim (λ (e : y ≡ x). (ap place e ∙ is, inl e))
              (λ (t : Has y o.here). let k = o.here_are y t in (k.0, inr k.1)) h;
          rest_are = λ y h. let k = o.rest_are y h in (k.0, inr k.1);
          all = let a = o.all in omega (arith, a);
        })

-- no more than `most` of these numbers have one place
abbrev FewAt : (ℕ → ℕ) → ℕ → List ℕ → Type 0
FewAt place most xs = (g : ℕ) (ys : List ℕ) → NoRepeats ys
    → ((y : ℕ) → Has y ys → (place y ≡ g) × Has y xs) → length ys ≤ most

few_in_all : (place : ℕ → ℕ) (n most : ℕ) (xs : List ℕ) → NoRepeats xs
    → ((x : ℕ) → Has x xs → place x < n) → FewAt place most xs → length xs ≤ n * most
few_in_all place zero most [] once below few = omega arith
few_in_all place zero most (x ∷ xs) once below few = absurd (let no = below x (inl refl) in omega (arith, no))
few_in_all place (suc n) most xs once below few =
    let s = share place n xs once below in
    let first = few n s.here s.here_once s.here_are in
    let others = few_in_all place n most s.rest s.rest_once (λ x h. (s.rest_are x h).0)
    (λ g ys o a. few g ys o (λ y h. let k = a y h in (k.0, (s.rest_are y k.1).1))) in
    let all = s.all in
    omega (arith, first, others, all)

-- The roots of a history's names are different ones, and as many as the names.
abbrev ids_of : List (ℕ × ℕ) → List ℕ
ids_of [] = []
ids_of (r ∷ roots) = r.0 ∷ ids_of roots

ids_long : (roots : List (ℕ × ℕ)) → length (ids_of roots) ≡ length roots
ids_long [] = refl
ids_long (r ∷ roots) = ap suc (ids_long roots)

id_there : (x : ℕ) (roots : List (ℕ × ℕ)) → Has x (ids_of roots) → (pair : ℕ) × Has (x, pair) roots
id_there x [] h = absurd h
id_there x (r ∷ roots) h = ⊎_elim
    (λ (e : x ≡ r.0). (r.1, inl (λ i. (e i, r.1))))
    (λ (t : Has x (ids_of roots)). let k = id_there x roots t in (k.0, inr k.1))
    h

names_rooted : (ns : List ℕ) (h : History) (roots : List (ℕ × ℕ))
    → names_of_callers ns h + length roots ≤ length (fold rooted roots h)
names_rooted ns [] roots = omega arith
names_rooted ns (e ∷ h) roots =
    let a = sum_by-cons (λ (x : Entry). cond (is_fresh x.act && list_any (λ c. c == x.caller) ns) 1 0) e h in
    let b = names_rooted ns h (rooted roots e) in
    let c = by (is_fresh e.act) (list_any (λ c. c == e.caller) ns) in
    omega (arith, a, b, c)
  where
    by : (b d : Bool) → cond (b && d) 1 0 + length roots
        ≤ length (cond b ((e.id, e.id) ∷ roots) roots)
    by true true = omega arith
    by true false = omega arith
    by false d = omega arith

names_long : (ns : List ℕ) (h : History) → names_of_callers ns h ≤ length (ids_of (roots_of h))
unfolding roots_of
names_long ns h = let a = names_rooted ns h [] in let b = ids_long (roots_of h) in omega (arith, a, b)

record Once (count : ℕ) (h : History) : Type 0 where
  pub legal : IsLegal count h
  pub once : NoRepeats (ids_of (roots_of h))

once_push : (count : ℕ) (h : History) (e : Entry) → Allows count h e.vector e.id e.act → Once count h
    → Once count (h ++ e ∷ [])
once_push count h e allowed o = record {
  legal = legal-push count h e o.legal allowed;
  once = subst (λ (l : List (ℕ × ℕ)). NoRepeats (ids_of l)) (sym (roots_push h e)) (by (is_fresh e.act) refl);
}
  where
    by : (b : Bool) → is_fresh e.act ≡ b → NoRepeats (ids_of (cond b ((e.id, e.id) ∷ roots_of h) (roots_of h)))
    by true fresh = (
      (λ h2. let k = id_there e.id (roots_of h) h2 in
          let n = (are_names count h o.legal).only e.id k.0 k.1 in
          (allowed-fresh count h e.vector e.id e.act allowed fresh).1 n.1.0 n.1.1),
      o.once,
    )
    by false old = o.once

different_ids : (count : ℕ) (h : History) → IsLegal count h → NoRepeats (ids_of (roots_of h))
different_ids count h legal = (legal-walk count (Once count) (once_push count) [] h legal record {
  legal = legal-nil count;
  once = subst (λ (l : List (ℕ × ℕ)). NoRepeats (ids_of l)) (sym roots_nil) tt;
}).once

-- a full region has a place in no pass that knows its roots
still_full : (about : About) (roots more : List (ℕ × ℕ)) (pair : ℕ) → IsPart roots more → FewEach about more
    → IsFull about roots pair → IsFull about more pair
still_full about roots more pair part few full =
    let are : AreRootsOf about more (region_of about pair) full.others = record {
      once = full.are_roots.once;
      each = λ x h. let e = full.are_roots.each x h in (e.0, (e.1.0, part e.1.0 x e.1.1));
    } in record {
      others = full.others;
      are_roots = are;
      all = full.all;
      absent = λ id has.
          let long = few (region_of about pair) (pair ∷ full.others) record {
            once = (
              (λ h. let e = full.are_roots.each pair h in full.absent e.1.0 e.1.1),
              full.are_roots.once,
            );
            each = λ x h. ⊎_elim
                (λ (e : x ≡ pair). (ap (region_of about) e, (id, subst (λ (y : ℕ). Has (id, y) more) (sym e) has)))
                (λ (t : Has x full.others). are.each x t) h;
          } in
          let all = full.all in
          omega (arith, long, all);
    }

nowhere_full : (about : About) (pair : ℕ) → IsFull about [] pair → ⊥
unfolding most
nowhere_full about pair full = by full.others full.are_roots full.all
  where
    by : (xs : List ℕ) → AreRootsOf about [] (region_of about pair) xs → length xs ≡ 2 ^ about.sizes.region → ⊥
    by [] are all = let some : 1 ≤ 2 ^ about.sizes.region = pow_pos about.sizes.region in omega
        (arith, some, all)
    by (x ∷ xs) are all = (are.each x (inl refl)).1.1

module _ (width flags : ℕ) where
  few_of : (store : Store) (p : PassOf Regions) → AtRest (compact width flags) store p
      → FewEach store.about (roots_of (view p).seen)
  few_of store p r = subst (λ (y : About). FewEach y (roots_of (view p).seen)) r.seat.about_is
      r.seat.sound.root_sound.few

  stays_full : (store : Store) (p q : PassOf Regions) (pair : ℕ) → AtRest (compact width flags) store q
      → IsPart (roots_of (view p).seen) (roots_of (view q).seen)
      → IsFull store.about (roots_of (view p).seen) pair → IsFull store.about (roots_of (view q).seen) pair
  stays_full store p q pair rq part full = still_full store.about (roots_of (view p).seen)
      (roots_of (view q).seen) pair part (few_of store q rq) full

  -- the root that stands for a vector is that of its name
  its_root : (store : Store) (q : PassOf Regions) (pair : ℕ) (v : Vector) (id : ℕ)
      → AtRest (compact width flags) store q
      → RootStands store.about.width store.about.slots (view q).known pair v → name_of (view q).seen v ≡ Some id
      → Has (id, pair) (roots_of (view q).seen)
  its_root store q pair v id r stands named =
      let s = r.seat.sound in
      let k = s.named.each v id named in
      let m = s.named.only id k.0 k.1 in
      let same = names-differ (view q).about.flags (view q).seen s.legal m.0 v id m.1 named in
      let theirs : RootStands store.about.width store.about.slots (view q).known k.0 v =
      subst (λ (y : About). RootStands y.width y.slots (view q).known k.0 v) r.seat.about_is
      (subst (λ (u : Vector). RootStands (view q).about.width (view q).about.slots
      (view q).known k.0 u) same m.2) in
      let one : k.0 ≡ pair =
      one_root store.about.width store.about.slots (view q).known s.nodes.naming k.0 pair v theirs stands in
      subst (λ (x : ℕ). Has (id, x) (roots_of (view q).seen)) one k.1

  never_named : (store : Store) (p q : PassOf Regions) (pair : ℕ) (v : Vector)
      → AtRest (compact width flags) store q → IsPart (view p).known (view q).known
      → IsPart (roots_of (view p).seen) (roots_of (view q).seen)
      → RootStands store.about.width store.about.slots (view p).known pair v
      → IsFull store.about (roots_of (view p).seen) pair → name_of (view q).seen v ≡ None
  never_named store p q pair v rq known part stands full = by (name_of (view q).seen v) refl
    where
      by : (o : Option ℕ) → name_of (view q).seen v ≡ o → o ≡ None
      by None t = refl
      by (Some id) t = absurd ((stays_full store p q pair rq part full).absent id
          (its_root store q pair v id rq (root_more store.about (view p).known (view q).known pair v known stands) t))

  pub compact_refusals : Refusals (compact width flags)
  compact_refusals = record {
    none_at_first = λ about pair is full. nowhere_full about pair full;
    stay = λ store p q pair rp rq known part full. stays_full store p q pair rq part full;
    for_good = λ store p q pair v rp rq known part stands full.
        never_named store p q pair v rq known part stands full;
  }

  -- no region has more names than cells, and there are at most 2 ^ 24 cells
  pub few_compact_names : HasFewNames (compact width flags)
  unfolding most region_count
  few_compact_names store p r =
      let s = r.seat.sound in
      let about = (view p).about in
      let h = (view p).seen in
      let k = s.root_sound in
      let sized = k.is_about.range.roots in
      let roots = ids_of (roots_of h) in
      let below : (x : ℕ) → Has x roots → region_of about x < regions about = λ x has.
      let t = id_there x (roots_of h) has in region_below about x k.is_about (k.packed x t.0 t.1) in
      let few : FewAt (region_of about) (most about) roots = λ g ys once are. k.few g ys record {
        once = once;
        each = λ y has. let a = are y has in let t = id_there y (roots_of h) a.1 in
            (a.0, (y, subst (λ (z : ℕ). Has (y, z) (roots_of h)) ((are_names about.flags h s.legal).only y t.0 t.1).0 t.1));
      } in
      let long = few_in_all (region_of about) (regions about) (most about) roots
      (different_ids about.flags h s.legal) below few in
      let given = names_long (view p).numbers h in
      let count = r.names_count in
      let split : about.sizes.roots - about.sizes.region + about.sizes.region ≡ about.sizes.roots =
      let inside = sized.inside in omega (arith, inside) in
      let product = pow-add 2 (about.sizes.roots - about.sizes.region) about.sizes.region in
      let whole = ap (λ (n : ℕ). 2 ^ n) split in
      let room : 2 ^ about.sizes.roots ≤ 2 ^ 24 = pow_mono sized.most_roots in
      omega (arith, long, given, count, product, whole, room)
