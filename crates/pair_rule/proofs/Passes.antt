-- Making a table, splitting and joining keep the rule, whatever its root part is.
use Rattle.std.proofs.Common.{◌≡◌, ◌≢◌, ◌⊎◌, ℕ, zero, suc, ◌+◌, ◌≤◌, List, [], ◌∷◌, ◌++◌, length, map, drop, set, true, false, true≢false, refl, sym, ap, ◌∙◌, subst, inl, ⊎_elim, arith, replicate, get_or, Some, length-append}
use Rattle.std.proofs.lemmas.List.{length-replicate, length-drop}
use mathlib.Core.Option.{some, some-injective}
use mathlib.Core.Logic.{dite}
use mathlib.Core.List.{map-append}
use native.Mathlib.Decide.{ℕ_discrete}
use lib.ListN.{get_elem?}
use lib.Seq.{map-set}
use Rattle.atomic_table.specs.Table.{State, Splits, Joins, opening}
use Rattle.atomic_table.proofs.Lists.{at_map, at_longer, set_else}
use Rattle.tree_shape.specs.Tree.{Has, IsPart, RootStands}
use Rattle.tree_shape.proofs.Trees.{stands_more}
use Rattle.tdb_base.specs.History.{Vector, History, name_of, calls}
use Rattle.tdb_base.specs.Legal.{IsLegal, Extends}
use Rattle.tdb_base.proofs.NameLemmas.{keeps-names, name-nil, legal-nil}
use Rattle.pair_rule.specs.declared.view.View.{View}
use Rattle.pair_rule.specs.declared.view.Old.{Old}
use Rattle.pair_rule.specs.declared.sizes.About.{About}
use Rattle.pair_rule.specs.Numbers.{child, Face, parent_face, child_face, joint_face, no_face}
use Rattle.pair_rule.specs.View.{longer, face, made_of, newcomer, parent_view, child_view, joining_view, nobody, old_of}
use Rattle.pair_rule.specs.Paths.{node_buckets, size}
use Rattle.pair_rule.specs.Rule.{at, Made, Named, Fits, Numbers, Callers, Holder, StoreRule}
use Rattle.pair_rule.proofs.Lists.{has_front, has_back, has_either, set_got, get_one, each_set, each_snoc, map_same, no_repeats_both, not_there}
use Rattle.pair_rule.proofs.Histories.{Longer, longer_is, longer_of, extends_refl, no_longer, legal_front, calls_between, calls_none}
use Rattle.pair_rule.proofs.Census.{child_above, numbers_split, callers_split, numbers_join, callers_join}
use Rattle.pair_rule.proofs.Makers.{made_snoc, made_join}
use Rattle.pair_rule.proofs.Steps.{holder_same}

no_names : (about : About) (known : List (ℕ × ℕ)) (roots : List (ℕ × ℕ)) → roots ≡ [] → Named about known [] roots
no_names about known roots none = record {
  each = λ v id n. absurd (cc (name-nil v, n));
  only = λ id pair h. absurd (subst (Has (id, pair)) none h);
}

-- the names of the longer of two fronts of a legal history, by the roots and the nodes of joining_view
named_both : (about : About) (k l roots_k roots_l roots : List (ℕ × ℕ)) (g h log : History) → IsLegal about.flags log → Longer g h log → Named about k g roots_k → Named about l h roots_l
    → IsPart roots_k roots → IsPart roots_l roots → ((id pair : ℕ) → Has (id, pair) roots → Has (id, pair) roots_k ⊎ Has (id, pair) roots_l) → Named about (k ++ l) (longer g h) roots
named_both about k l roots_k roots_l roots g h log legal long n m part part' either = record {
  each = λ v id name. ⊎_elim
      (λ (t : (longer g h ≡ g) × (length h ≤ length g)). let p = n.each v id (subst (λ (x : History). name_of x v ≡ Some id) t.0 name) in (p.0, part id p.0 p.1))
      (λ (t : (longer g h ≡ h) × (length g ≤ length h)). let p = m.each v id (subst (λ (x : History). name_of x v ≡ Some id) t.0 name) in (p.0, part' id p.0 p.1))
      (longer_is g h);
  only = λ id pair has. ⊎_elim
      (λ (a : Has (id, pair) roots_k). let o = n.only id pair a in
      (o.0, kept g long.first o.0 id o.1, (more k (λ i x b. has_front (i, x) k l b) o.0 2 _ o.2.0, more k (λ i x b. has_front (i, x) k l b) o.0 3 _ o.2.1), o.3))
      (λ (a : Has (id, pair) roots_l). let o = m.only id pair a in
      (o.0, kept h long.second o.0 id o.1, (more l (λ i x b. has_back (i, x) k l b) o.0 2 _ o.2.0, more l (λ i x b. has_back (i, x) k l b) o.0 3 _ o.2.1), o.3))
      (either id pair has);
}
  where
    kept : (x : History) → Extends x (longer g h) → (v : Vector) (id : ℕ) → name_of x v ≡ Some id → name_of (longer g h) v ≡ Some id
    kept x e v id name = keeps-names about.flags x (longer g h) (legal_front about.flags (longer g h) log long.front legal) e v id name

    more : (x : List (ℕ × ℕ)) → IsPart x (k ++ l) → (v : Vector) (p y : ℕ) → Rattle.tree_shape.specs.Tree.Stands about.width about.slots x v p y → Rattle.tree_shape.specs.Tree.Stands about.width about.slots (k ++ l) v p y
    more x part v p y stands = stands_more about.width about.slots x (k ++ l) v p y part stands

-- who has seen all, after a split
holder_left : {T : Type 0} (log : History) (views : List (View T)) (id : ℕ) (v w u : View T) → Holder log views → get_elem? views id ≡ some v → w.seen ≡ v.seen → Holder log (set views id w ++ u ∷ [])
holder_left log views id v w u h e same = let k = holder_same log views id v w h e same in (k.0, k.1, at_longer (set views id w) (u ∷ []) k.0 k.1 k.2, k.3)

-- and after a join
holder_both : {T : Type 0} (log : History) (views : List (View T)) (id other : ℕ) (v w u n : View T) → Holder log views → get_elem? views id ≡ some v → get_elem? views other ≡ some w → other ≢ id
    → u.seen ≡ longer v.seen w.seen → Longer v.seen w.seen log → Holder log (set (set views id u) other n)
holder_both log views id other v w u n h e f apart seen long =
    let there : get_elem? (set (set views id u) other n) id ≡ some u = set_else (set views id u) other id n (λ z. apart (sym z)) ∙ set_got views id v u e in
    dite (ℕ_discrete h.0 id)
    (λ z. let same : v.seen ≡ log = ap (λ x. x.seen) (get_one views id v h.1 e (subst (λ (m : ℕ). get_elem? views m ≡ some h.1) z h.2)) ∙ h.3 in
    (id, u, there, seen ∙ no_longer (longer v.seen w.seen) log long.front (omega (arith, long.first_shorter, ap length same))))
    (λ a. dite (ℕ_discrete h.0 other)
    (λ z. let same : w.seen ≡ log = ap (λ x. x.seen) (get_one views other w h.1 f (subst (λ (m : ℕ). get_elem? views m ≡ some h.1) z h.2)) ∙ h.3 in
    (id, u, there, seen ∙ no_longer (longer v.seen w.seen) log long.front (omega (arith, long.second_shorter, ap length same))))
    (λ b. (h.0, h.1, set_else (set views id u) other h.0 n b ∙ (set_else views id h.0 u a ∙ h.2), h.3)))

module _ {T : Type 0} (S : Type 0) (about : About) (roots : About → History → T → List (ℕ × ℕ)) (root : History → List ℕ → List (View T) → Type 0) where
  abbrev Rule : State S (View T) → Type 0
  Rule = StoreRule about (roots about) root

  pub splits : (split : T → T) → ((h : History) (t : T) → roots about h (split t) ≡ roots about h t)
      → ((log : History) (ws : List ℕ) (views : List (View T)) (id : ℕ) (v : View T) → root log ws views → get_elem? views id ≡ some v → root log ws (set views id (parent_view v) ++ child_view split v ∷ []))
      → (id : ℕ) (v : View T) → v.live ≡ true → Splits Rule id v (parent_view v) (child_view split v)
  splits split roots_split keeps_split id v live s r e =
      let f = r.each id v e in
      let ef = at_map face s.views id v e in
      let faces : map face (set s.views id (parent_view v) ++ child_view split v ∷ []) ≡ set (map face s.views) id (parent_face (face v)) ++ child_face (face v) ∷ [] =
      map-append face (set s.views id (parent_view v)) (child_view split v ∷ []) ∙ ap (λ (l : List Face). l ++ child_face (face v) ∷ []) (map-set face s.views id (parent_view v)) in
      let mades : map made_of (set s.views id (parent_view v) ++ child_view split v ∷ []) ≡ map made_of s.views ++ [] ∷ [] =
      map-append made_of (set s.views id (parent_view v)) (child_view split v ∷ []) ∙ ap (λ (l : List (List ℕ)). l ++ [] ∷ []) (map_same made_of s.views id v (parent_view v) e refl) in
      let unborn : (c : ℕ) → c ≡ child v.number v.splits → calls r.log c ≡ [] =
      λ c is. r.callers c (λ j g eg has. r.numbers.unborn v.splits id j (face v) g ef eg live (omega arith) (inl (subst (λ (n : ℕ). Has n g.numbers) is has))) in
      record {
        log = r.log;
        legal = r.legal;
        holder = holder_left r.log s.views id v (parent_view v) (child_view split v) r.holder e refl;
        least_nodes = r.least_nodes;
        wide = r.wide;
        nodes = r.nodes;
        made = subst (Made (size (node_buckets about)) (at s.words)) (sym mades) (made_snoc (size (node_buckets about)) (at s.words) (map made_of s.views) r.made);
        each = each_snoc (λ (u : View T). Fits about (roots about) r.log (at s.words) u) (set s.views id (parent_view v)) (child_view split v)
            (each_set (λ (j : ℕ) (u : View T). Fits about (roots about) r.log (at s.words) u) s.views id (parent_view v) r.each
            record { about_is = f.about_is; known = f.known; made = f.made; made_once = f.made_once; probed = f.probed; seen = f.seen; own = f.own; named = f.named; olds = f.olds; spent = λ dead. absurd (cc (live, dead)) })
            record {
              about_is = λ _. f.about_is live;
              known = f.known;
              made = λ i h. absurd h;
              made_once = tt;
              probed = omega arith;
              seen = f.seen;
              own = λ c h. ⊎_elim (λ (is : c ≡ child v.number v.splits). let no_calls = unborn c is in calls_none v.seen r.log c f.seen no_calls ∙ sym no_calls) (λ (no : ⊥). absurd no) h;
              named = subst (λ (l : List (ℕ × ℕ)). Named about v.known v.seen l) (sym (roots_split v.seen v.root)) f.named;
              olds = λ o h. absurd h;
              spent = λ dead. absurd (true≢false dead);
            };
        numbers = subst Numbers (sym faces) (numbers_split (map face s.views) r.numbers id (face v) ef live);
        callers = subst (Callers r.log) (sym faces) (callers_split (map face s.views) r.numbers id (face v) ef live r.log r.callers);
        rooted = keeps_split r.log _ s.views id v r.rooted e;
      }

  -- what the root pairs of two views are as those of one
  abbrev pub JoinsRoots : (T → T → T) → Type 0
  JoinsRoots join = (g h : History) (t u : T) → Extends g (longer g h) → Extends h (longer g h) → IsPart (roots about g t) (roots about (longer g h) (join t u)) × IsPart (roots about h u) (roots about (longer g h) (join t u))

  abbrev pub JoinsOnly : (T → T → T) → Type 0
  JoinsOnly join = (g h : History) (t u : T) (id pair : ℕ) → Has (id, pair) (roots about (longer g h) (join t u)) → Has (id, pair) (roots about g t) ⊎ Has (id, pair) (roots about h u)

  pub joins : (join : T → T → T) (spent : T) → JoinsRoots join → JoinsOnly join → roots about [] spent ≡ []
      → ((log : History) (ws : List ℕ) (views : List (View T)) (nodes : ℕ → ℕ) (id other : ℕ) (v w : View T) → root log ws views → get_elem? views id ≡ some v → get_elem? views other ≡ some w → ¬ (other ≡ id)
      → v.busy ≡ false → w.busy ≡ false → Fits about (roots about) log nodes v → Fits about (roots about) log nodes w → root log ws (set (set views id (joining_view join v w)) other (nobody spent)))
      → (id other : ℕ) (v w : View T) → v.live ≡ true → v.busy ≡ false → w.busy ≡ false → Joins Rule id v other w (joining_view join v w) (nobody spent)
  joins join spent joins_roots only none keeps_join id other v w live idle idle' s r e apart e' =
      let u = joining_view join v w in
      let e2 : get_elem? s.views other ≡ some w = sym (set_else s.views id other u apart) ∙ e' in
      let f = r.each id v e in
      let g = r.each other w e2 in
      let ef = at_map face s.views id v e in
      let eg = at_map face s.views other w e2 in
      let faces : map face (set (set s.views id u) other (nobody spent)) ≡ set (set (map face s.views) id (joint_face (face v) (face w))) other no_face =
      map-set face (set s.views id u) other (nobody spent) ∙ ap (λ (l : List Face). set l other no_face) (map-set face s.views id u) in
      let mades : map made_of (set (set s.views id u) other (nobody spent)) ≡ set (set (map made_of s.views) id (v.made ++ w.made)) other [] =
      map-set made_of (set s.views id u) other (nobody spent) ∙ ap (λ (l : List (List ℕ)). set l other []) (map-set made_of s.views id u) in
      let lb = longer_of v.seen w.seen r.log f.seen g.seen in
      let parts = joins_roots v.seen w.seen v.root w.root lb.first lb.second in
      record {
        log = r.log;
        legal = r.legal;
        holder = holder_both r.log s.views id other v w u (nobody spent) r.holder e e2 apart refl lb;
        least_nodes = r.least_nodes;
        wide = r.wide;
        nodes = r.nodes;
        made = subst (Made (size (node_buckets about)) (at s.words)) (sym mades)
            (made_join (size (node_buckets about)) (at s.words) (map made_of s.views) id other v.made w.made r.made (at_map made_of s.views id v e) (at_map made_of s.views other w e2) apart);
        each = each_set (λ (j : ℕ) (x : View T). Fits about (roots about) r.log (at s.words) x) (set s.views id u) other (nobody spent)
            (each_set (λ (j : ℕ) (x : View T). Fits about (roots about) r.log (at s.words) x) s.views id u r.each record {
              about_is = f.about_is;
              known = λ i x h. ⊎_elim (λ (a : Has (i, x) v.known). f.known i x a) (λ (a : Has (i, x) w.known). g.known i x a) (has_either (i, x) v.known w.known h);
              made = λ i h. ⊎_elim
                  (λ (a : Has i v.made). let m = f.made i a in (m.0, has_front (i, m.0) v.known w.known m.1))
                  (λ (a : Has i w.made). let m = g.made i a in (m.0, has_back (i, m.0) v.known w.known m.1))
                  (has_either i v.made w.made h);
              made_once = no_repeats_both v.made w.made f.made_once g.made_once (λ i a b. apart (r.made.once i other id w.made v.made (at_map made_of s.views other w e2) (at_map made_of s.views id v e) b a));
              probed = let count = length-append v.made w.made in omega (arith, count, f.probed, g.probed);
              seen = lb.front;
              own = λ c h. ⊎_elim
                  (λ (a : Has c v.numbers). calls_between v.seen (longer v.seen w.seen) r.log c lb.first lb.front (f.own c a) ∙ f.own c a)
                  (λ (a : Has c w.numbers). calls_between w.seen (longer v.seen w.seen) r.log c lb.second lb.front (g.own c a) ∙ g.own c a)
                  (has_either c v.numbers w.numbers h);
              named = named_both about v.known w.known (roots about v.seen v.root) (roots about w.seen w.root) (roots about (longer v.seen w.seen) (join v.root w.root)) v.seen w.seen r.log r.legal lb f.named g.named
                  parts.0 parts.1 (only v.seen w.seen v.root w.root);
              olds = λ o h. ⊎_elim
                  (λ (is : o ≡ old_of v). subst (λ (x : Old). Extends x.seen r.log × ((c : ℕ) → Has c x.numbers → Has c (v.numbers ++ w.numbers) × (calls x.seen c ≡ calls r.log c)) × (length x.seen ≤ length (longer v.seen w.seen))) (sym is)
                  (f.seen, (λ c k. (has_front c v.numbers w.numbers k, f.own c k)), lb.first_shorter))
                  (λ (h' : (o ≡ old_of w) ⊎ ⊥). ⊎_elim
                  (λ (is : o ≡ old_of w). subst (λ (x : Old). Extends x.seen r.log × ((c : ℕ) → Has c x.numbers → Has c (v.numbers ++ w.numbers) × (calls x.seen c ≡ calls r.log c)) × (length x.seen ≤ length (longer v.seen w.seen))) (sym is)
                  (g.seen, (λ c k. (has_back c v.numbers w.numbers k, g.own c k)), lb.second_shorter))
                  (λ (no : ⊥). absurd no) h')
                  h;
              spent = λ dead. absurd (cc (live, dead));
            })
            record {
              about_is = λ l. absurd (true≢false (sym l));
              known = λ i x h. absurd h;
              made = λ i h. absurd h;
              made_once = tt;
              probed = omega arith;
              seen = record { more = r.log; whole = refl };
              own = λ c h. absurd h;
              named = no_names about [] (roots about [] spent) none;
              olds = λ o h. absurd h;
              spent = λ dead. (refl, refl, refl, refl);
            };
        numbers = subst Numbers (sym faces) (numbers_join (map face s.views) r.numbers id other (face v) (face w) ef eg apart);
        callers = subst (Callers r.log) (sym faces) (callers_join (map face s.views) r.numbers id other (face v) (face w) ef eg apart r.log r.callers);
        rooted = keeps_join r.log _ s.views (at s.words) id other v w r.rooted e e2 apart idle idle' f g;
      }

zero_at : (n k : ℕ) → ◌≡◌ {A = ℕ} (get_or (replicate n 0) k 0) 0
zero_at zero k = refl
zero_at (suc n) zero = refl
zero_at (suc n) (suc k) = zero_at n k

zero_drop : (m n i : ℕ) → ◌≡◌ {A = ℕ} (get_or (drop m (replicate n 0)) i 0) 0
zero_drop zero n i = zero_at n i
zero_drop (suc m) zero i = refl
zero_drop (suc m) (suc n) i = zero_drop m n i

module _ {T : Type 0} (S : Type 0) (about : About) (roots : About → History → T → List (ℕ × ℕ)) (root : History → List ℕ → List (View T) → Type 0) where
  -- the table at the start
  pub opens : (t : T) (n : ℕ) (xs : List S) → n ≡ suc (size (node_buckets about)) + about.root_words → 3 ≤ about.sizes.nodes → roots about [] t ≡ []
      → ((ws : List ℕ) → length ws ≡ about.root_words → ((i : ℕ) → ◌≡◌ {A = ℕ} (get_or ws i 0) 0) → root [] ws (newcomer t about ∷ []))
      → StoreRule about (roots about) root (opening (replicate n 0) xs (newcomer t about))
  opens t n xs count least none starts = record {
    log = [];
    legal = legal-nil about.flags;
    holder = (0, newcomer t about, refl, refl);
    least_nodes = least;
    wide = length-replicate n 0 ∙ count;
    nodes = λ i inside. inl (zero_at n (suc i));
    made = record { once = λ i j k is js p q a b. absurd (none_made i j is p a); all = λ i inside used. absurd (used (zero_at n (suc i))) };
    each = each;
    numbers = record {
      mine = λ j f e l. subst (λ (h : Face). Has h.number h.numbers) (sym (only j f e)) (inl refl);
      sole = λ c j k f g p q a b. let u = place j f p in let w = place k g q in omega arith;
      once = λ j f e. subst (λ (h : Face). Rattle.pair_rule.specs.Numbers.NoRepeats h.numbers) (sym (only j f e)) ((λ no. no), tt);
      unborn = λ n j k f g p q l le has. ⊎_elim
          (λ (a : Has (child f.number n) g.numbers). ⊎_elim (λ (z : child f.number n ≡ 0). let up = child_above f.number n in absurd (omega arith)) (λ (no : ⊥). no) (subst (λ (h : Face). Has (child f.number n) h.numbers) (only k g q) a))
          (λ (b : Has (child f.number n) g.born). subst (λ (h : Face). Has (child f.number n) h.born) (only k g q) b) has;
      parents = λ c j f p a. ⊎_elim (λ (z : c ≡ 0). inl z) (λ (no : ⊥). absurd no) (subst (λ (h : Face). Has c h.numbers) (only j f p) a);
      births = λ c j f p b. absurd (subst (λ (h : Face). Has c h.born) (only j f p) b);
    };
    callers = λ c none_has. refl;
    rooted = starts _ (length-drop (suc (size (node_buckets about))) (replicate n 0) ∙ (let z : length (replicate {A = ℕ} n 0) ≡ n = length-replicate n 0 in omega (arith, z, count)))
        (λ i. zero_drop (suc (size (node_buckets about))) n i);
  }
    where
      place : (j : ℕ) (f : Face) → get_elem? (map face (newcomer t about ∷ [])) j ≡ some f → j ≡ 0
      place zero f e = refl
      place (suc j) f e = absurd (not_there f e)

      only : (j : ℕ) (f : Face) → get_elem? (map face (newcomer t about ∷ [])) j ≡ some f → f ≡ face (newcomer t about)
      only zero f e = sym (some-injective (face (newcomer t about)) f e)
      only (suc j) f e = absurd (not_there f e)

      none_made : (i j : ℕ) (is : List ℕ) → get_elem? (map made_of (newcomer t about ∷ [])) j ≡ some is → Has i is → ⊥
      none_made i zero is e a = subst (Has i) (sym (some-injective [] is e)) a
      none_made i (suc j) is e a = not_there is e

      each : (j : ℕ) (v : View T) → get_elem? (newcomer t about ∷ []) j ≡ some v → Fits about (roots about) [] (at (replicate n 0)) v
      each zero v e = subst (Fits about (roots about) [] (at (replicate n 0))) (some-injective (newcomer t about) v e) record {
        about_is = λ _. refl;
        known = λ i x h. absurd h;
        made = λ i h. absurd h;
        made_once = tt;
        probed = omega arith;
        seen = extends_refl [];
        own = λ c h. refl;
        named = no_names about [] (roots about [] t) none;
        olds = λ o h. absurd h;
        spent = λ dead. absurd (true≢false dead);
      }
      each (suc j) v e = absurd (not_there v e)

  -- the same of words that are so many zeros
  pub opens_words : (words : List ℕ) (t : T) (n : ℕ) (xs : List S) → words ≡ replicate n 0 → n ≡ suc (size (node_buckets about)) + about.root_words → 3 ≤ about.sizes.nodes → roots about [] t ≡ []
      → ((ws : List ℕ) → length ws ≡ about.root_words → ((i : ℕ) → ◌≡◌ {A = ℕ} (get_or ws i 0) 0) → root [] ws (newcomer t about ∷ []))
      → StoreRule about (roots about) root (opening words xs (newcomer t about))
  opens_words words t n xs are count least none starts = subst (λ (ws : List ℕ). StoreRule about (roots about) root (opening ws xs (newcomer t about))) (sym are) (opens t n xs count least none starts)
