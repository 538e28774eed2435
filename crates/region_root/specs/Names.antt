-- The roots of a history's names; and that a region which keeps a map has no more roots than cells.
use Rattle.std.proofs.Common.{◌≡◌, ◌≢◌, ℕ, suc, ◌<◌, ◌≤◌, List, [], ◌∷◌, ◌++◌, length, Bool, true, false}
use Rattle.std.proofs.Common.{Some, None, refl, sym, ap, ◌∙◌, subst, inl, inr, ⊎_elim, arith}
use Rattle.std.specs.Prelude.{fold, if◌then◌else◌}
use Rattle.std.proofs.lemmas.List.Sums.{fold-append}
use Rattle.tree_shape.specs.Tree.{Has, IsPart}
use Rattle.tdb_base.specs.History.{Vector, Entry, History, is_fresh, names, name_of}
use Rattle.tdb_base.specs.Legal.{Allows, IsLegal, Extends}
use Rattle.tdb_base.proofs.NameLemmas.{name-push, name-nil, names-this, same-refl, legal-walk, allowed-fresh}
use Rattle.mix_hash.proofs.Hashing.{mix_of-below, mix_of-one_to_one}
use Rattle.mix_hash.proofs.Cutting.{place_of-in_range, place_of-one_to_one}
use Rattle.mix_hash.specs.Hash.{mix_of}
use Rattle.mix_hash.specs.Places.{IsPlaceInRange}
use Rattle.cleary_core.proofs.Empty.{few_keys}
use Rattle.pair_rule.specs.declared.sizes.About.{About}
use Rattle.pair_rule.specs.Numbers.{NoRepeats}
use Rattle.region_root.specs.Layout.{regions, region_count, most, place, region_of, IsPacked, keys_of}
use Rattle.region_root.specs.Layout.{KeepsRoots}
use Rattle.region_root.specs.Maps.{rooted, roots_of, IsMapOf, FewEach}
use Rattle.region_root.specs.Compact.{IsCompact}

-- the roots of a history's names, one entry after another
pub roots_nil : roots_of [] ≡ []
unfolding roots_of
roots_nil = refl

pub roots_push : (h : History) (e : Entry) → roots_of (h ++ e ∷ []) ≡ rooted (roots_of h) e
unfolding roots_of
roots_push h e = fold-append rooted [] h (e ∷ [])

pub rooted_more : (e : Entry) (roots : List (ℕ × ℕ)) → IsPart roots (rooted roots e)
rooted_more e roots i x h = by (is_fresh e.act)
  where
    by : (b : Bool) → Has (i, x) (if b then (e.id, e.id) ∷ roots else roots)
    by true = inr h
    by false = h

pub roots_append : (g more : History) → IsPart (roots_of g) (roots_of (g ++ more))
unfolding roots_of
roots_append g more i x h = subst (λ (l : List (ℕ × ℕ)). Has (
  i,
  x,
) l) (sym (fold-append rooted [] g more)) (by more (fold rooted [] g) h)
  where
    by : (more : History) (roots : List (ℕ × ℕ)) → Has (i, x) roots → Has (i, x) (fold rooted roots more)
    by [] roots a = a
    by (e ∷ es) roots a = by es (rooted roots e) (rooted_more e roots i x a)

pub roots_more : (g h : History) → Extends g h → IsPart (roots_of g) (roots_of h)
roots_more g h e i x a = subst (λ (k : History). Has (i, x) (roots_of k)) (sym e.whole) (roots_append g
    e.more i x a)

-- which are the names' own
pub record AreNames (h : History) : Type 0 where
  pub only : (id pair : ℕ) → Has (id, pair) (roots_of h)
      → (pair ≡ id) × ((v : Vector) × (name_of h v ≡ Some id))
  pub each : (v : Vector) (id : ℕ) → name_of h v ≡ Some id → Has (id, id) (roots_of h)

names_more : (count : ℕ) (h : History) (e : Entry) → Allows count h e.vector e.id e.act → AreNames h
    → AreNames (h ++ e ∷ [])
names_more count h e allowed a = record { only = only; each = each }
  where
    only : (id pair : ℕ) → Has (id, pair) (roots_of (h ++ e ∷ []))
        → (pair ≡ id) × ((v : Vector) × (name_of (h ++ e ∷ []) v ≡ Some id))
    only id pair has = by (is_fresh e.act) refl (subst (λ (l : List (ℕ
        × ℕ)). Has (id, pair) l) (roots_push h e) has)
      where
        old : Has (id, pair) (roots_of h) → (pair ≡ id) × ((v : Vector) × (name_of (h ++ e ∷ []) v ≡ Some id))
        old t =
            let o = a.only id pair t in
            (o.0, (o.1.0, name-push h e o.1.0 ∙ stays o.1.0 o.1.1 (names e o.1.0) refl))
          where
            stays : (v : Vector) → name_of h v ≡ Some id → (b : Bool) → names e v ≡ b
                → (if b then Some e.id else name_of h v) ≡ Some id
            stays v n true t =
                let this = names-this e v t in
                let none : name_of h v ≡ None = ap (λ (u : Vector). name_of h u) (sym this.1)
                ∙ (allowed-fresh count h e.vector e.id e.act allowed this.0).0 in
                cc (none, n)
            stays v n false t = n

        by : (b : Bool) → is_fresh e.act ≡ b → Has (id, pair) (if b then (
          e.id,
          e.id,
        ) ∷ roots_of h else roots_of h) → (pair ≡ id) × ((v : Vector)
            × (name_of (h ++ e ∷ []) v ≡ Some id))
        by true f k = ⊎_elim
            (λ (z : (id, pair) ≡ (e.id, e.id)).
            let ids : id ≡ e.id = ap (λ (p : ℕ × ℕ). p.0) z in
            let name : name_of (h ++ e ∷ []) e.vector ≡ Some e.id = name-push h e e.vector
            ∙ rw (f, same-refl e.vector) refl in
            (ap (λ (p : ℕ × ℕ). p.1) z ∙ sym ids, (e.vector, name ∙ ap Some (sym ids))))
            old k
        by false f k = old k

    each : (v : Vector) (id : ℕ) → name_of (h ++ e ∷ []) v ≡ Some id → Has (id, id) (roots_of (h ++ e ∷ []))
    each v id n = by (names e v) refl (sym (name-push h e v) ∙ n)
      where
        by : (b : Bool) → names e v ≡ b → (if b then Some e.id else name_of h v) ≡ Some id
            → Has (id, id) (roots_of (h ++ e ∷ []))
        by true t m =
            let ids : e.id ≡ id = cc m in
            let fresh = (names-this e v t).0 in
            subst (λ (l : List (ℕ × ℕ)). Has (id, id) l) (sym (roots_push h e)) (subst (λ (b : Bool). Has
            (id, id) (if b then (e.id, e.id) ∷ roots_of h else roots_of h)) (sym fresh) (inl (λ i. (
              sym
                  ids i,
              sym ids i,
            ))))
        by false t m = subst (λ (l : List (ℕ × ℕ)). Has (
          id,
          id,
        ) l) (sym (roots_push h e)) (rooted_more e (roots_of h) id id (a.each v id m))

pub are_names : (count : ℕ) (h : History) → IsLegal count h → AreNames h
are_names count h legal = legal-walk count AreNames (names_more count) [] h legal record {
  only = λ id pair has. absurd (subst (λ (l : List (ℕ × ℕ)). Has (id, pair) l) roots_nil has);
  each = λ v id n. cc (name-nil v, n);
}

-- the place of a root
pub place_in_range : (about : About) (x : ℕ) → IsCompact about → IsPacked about x
    → IsPlaceInRange about.width about.sizes.roots about.sizes.region (place about x)
unfolding place
place_in_range about x is packed =
    let sized = is.range.roots in
    place_of-in_range about.width about.sizes.roots about.sizes.region (mix_of about.width x) sized.inside
    (let narrow = sized.narrow in omega (arith, narrow)) (mix_of-below about.width sized.layout.1 x)

pub region_below : (about : About) (x : ℕ) → IsCompact about → IsPacked about x
    → region_of about x < regions about
unfolding region_count
region_below about x is packed = (place_in_range about x is packed).region

pub one_place : (about : About) (x y : ℕ) → IsCompact about → IsPacked about x → IsPacked about y
    → place about x ≡ place about y → x ≡ y
unfolding place
one_place about x y is px py same = mix_of-one_to_one about.width is.range.roots.layout.1 x y px py
    (place_of-one_to_one about.sizes.roots about.sizes.region (mix_of about.width x) (mix_of about.width y)
    same)

-- a list of different roots that a map has is no longer than the map
without : (x f : ℕ) (map : List (ℕ × ℕ)) → Has (x, f) map
    → (rest : List (ℕ × ℕ)) × (length map ≡ suc (length rest)) × ((y k : ℕ) → y ≢ x → Has (y, k) map
    → Has (y, k) rest)
without x f [] h = absurd h
without x f (r ∷ map) h = ⊎_elim
    (λ (e : (x, f) ≡ r). (
      map,
      refl,
      λ y k ne a. ⊎_elim (λ (z : (y, k) ≡ r). absurd (ne (ap (λ (p : ℕ
          × ℕ). p.0) (z ∙ sym e)))) (λ (t : Has (y, k) map). t) a,
    ))
    (λ (t : Has (x, f) map). let w = without x f map t in (
      r ∷ w.0,
      ap suc w.1,
      λ y k ne a. ⊎_elim (λ (z : (y, k) ≡ r). inl z) (λ (b : Has (y, k) map). inr (w.2 y k ne b)) a,
    ))
    h

pub no_longer_than : (xs : List ℕ) (map : List (ℕ × ℕ)) → NoRepeats xs → ((x : ℕ) → Has x xs
    → (f : ℕ) × Has (x, f) map) → length xs ≤ length map
no_longer_than [] map once all = omega arith
no_longer_than (x ∷ xs) map once all =
    let a = all x (inl refl) in
    let w = without x a.0 map a.1 in
    let less = no_longer_than xs w.0 once.1 (λ y h. let b = all y (inr h) in (
      b.0,
      w.2 y b.0 (λ z. once.0 (subst (λ (m : ℕ). Has m xs) z h)) b.1,
    )) in
    omega (arith, less, w.1)

pub keys_long : (about : About) (map : List (ℕ × ℕ)) → length (keys_of about map) ≡ length map
keys_long about [] = refl
keys_long about (r ∷ map) = ap suc (keys_long about map)

pub kept_few : (about : About) (words : List ℕ) (map : List (ℕ × ℕ)) → KeepsRoots about words map
    → length map ≤ most about
unfolding KeepsRoots most
kept_few about words map k = let few = few_keys _ _ (keys_of about map) k in let long =
    keys_long about map in omega (arith, few, long)

-- where each region has a map of its names that is not too long, no region has too many roots
pub few_names : (about : About) (log : History) → IsCompact about → IsLegal about.flags log
    → ((v : Vector) (id : ℕ) → name_of log v ≡ Some id → IsPacked about id)
    → ((g : ℕ) → g < regions about → (map : List (ℕ × ℕ)) × IsMapOf about g log map
    × (length map ≤ most about)) → FewEach about (roots_of log)
few_names about log is legal packed maps g [] are = omega arith
few_names about log is legal packed maps g (x ∷ xs) are =
    let names = are_names about.flags log legal in
    let named : (y : ℕ) → Has y (x ∷ xs) → (v : Vector) × (name_of log v ≡ Some y) = λ y has.
    let e = (are.each y has).1 in let o = names.only e.0 y e.1 in (o.1.0, o.1.1 ∙ ap Some (sym o.0)) in
    let first = named x (inl refl) in
    let inside : g < regions about = subst (λ (m : ℕ). m < regions about) (are.each x (inl refl)).0
    (region_below about x is (packed first.0 x first.1)) in
    let m = maps g inside in
    let most_long = no_longer_than (x ∷ xs) m.0 are.once (λ y has. let n = named y has in let e =
    m.1.each n.0 y n.1 (are.each y has).0 in (e.0, e.2)) in
    let small = m.2 in
    omega (arith, most_long, small)

pub few_front : (about : About) (roots more : List (ℕ × ℕ)) → IsPart roots more → FewEach about more
    → FewEach about roots
few_front about roots more part few g xs are = few g xs record {
  once = are.once;
  each = λ x has. let e =
      are.each x has in (e.0, (e.1.0, part e.1.0 x e.1.1));
}
