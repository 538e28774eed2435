-- The steps of a holder keep the rule: it takes a region, loads and stores its words, and gives it back.
use Rattle.std.proofs.Common.{◌≡◌, ℕ, suc, ◌+◌, ◌-◌, ◌<◌, List, [], ◌∷◌, ◌++◌, length, set, get_or, true, false, refl, sym, ap, ◌∙◌, subst, inl, ⊎_elim, eqb, arith, length-set}
use mathlib.Core.Option.{none, some}
use lib.ListN.{get_elem?}
use lib.Seq.{set-get_or}
use prog.Atomic.{either}
use Rattle.atomic_table.specs.Table.{State, Me, Act, Valid, carried_after, step, keeps, stepped, Allows}
use Rattle.atomic_table.proofs.Lists.{exchanged, set_again}
use Rattle.tree_shape.specs.Tree.{Has}
use Rattle.tdb_base.proofs.NameLemmas.{keeps-names}
use Rattle.pair_rule.specs.declared.view.View.{View}
use Rattle.pair_rule.specs.declared.sizes.About.{About}
use Rattle.pair_rule.specs.Plays.{first_root}
use Rattle.pair_rule.proofs.Advance.{catch, stays}
use Rattle.region_root.specs.declared.root.Regions.{Regions}
use Rattle.region_root.specs.declared.root.Holding.{Holding}
use Rattle.region_root.specs.Layout.{regions, words_each, lock_of, start, part, KeepsRoots, region_of}
use Rattle.region_root.specs.Maps.{InRegion}
use Rattle.region_root.specs.Compact.{IsEven, IsOdd, last, Compact}
use Rattle.region_root.specs.Plays.{part_of, Ending, MayEnd, Told, holding, recopied, IsNextLock, place_in, TakenRegion, takes_tells, copies_tells, stores_tells, frees_tells}
use Rattle.region_root.proofs.Parts.{part_word, part_long}
use Rattle.region_root.proofs.Rules.{Moves, takes_root, frees_root, stores_root}
use Rattle.region_root.proofs.Catching.{head_of, in_region, Rule, behind, first, word_at, behind_set, nodes_stay, catches_up}

abbrev V : Type 0
V = View Regions

-- after the unlock: the value is even, and no earlier even value that a reader believes comes again
next_even : (odd n : ℕ) → IsOdd odd → IsNextLock odd n → IsEven n
next_even o n odd x = ⊎_elim (λ (a : n ≡ suc o). (suc odd.0, let b = odd.1 in omega (arith, a, b))) (λ (b : (o ≡ suc last) × (n ≡ last)). (9223372036854775807, b.1)) x

next_moves : (odd n : ℕ) → IsNextLock odd n → Moves odd n
next_moves o n x f even low le = ⊎_elim
    (λ (a : n ≡ suc o). (omega (arith, a, le), λ z. omega (arith, a, z, le)))
    (λ (b : (o ≡ suc last) × (n ≡ last)). let n_is = b.1 in (omega (arith, n_is, low), λ z. omega (arith, n_is, z, low)))
    x

module _ (S : Type 0) (about : About) where
  abbrev R : State S V → Type 0
  R = Rule S about

  abbrev base : ℕ
  base = first S about

  abbrev after : List ℕ → List ℕ
  after = behind S about

  -- nothing changes
  unchanged : (s : State S V) (id word : ℕ) (me : Me S V) → R s → get_elem? s.views id ≡ some me.0 → R (stepped s word (get_or s.words word 0) id me.1 me.0 keeps)
  unchanged s id word me r e = subst (λ (l : List ℕ × List V). R record { words = l.0; homes = s.homes; views = l.1 }) (λ i. (sym (set-get_or s.words word 0) i, sym (set_again s.views id me.0 e) i)) r

  place_is : (me : Me S V) (k g i : ℕ) → me.0.about ≡ about → base + (start about g + i) ≡ k → place_in me.0.about k g ≡ i
  place_is me k g i is here = subst (λ (y : About). place_in y k g ≡ i) (sym is) (omega (arith, here))

  -- an even lock word is exchanged for the next value
  pub takes : (slots id : ℕ) (me : Me S V) (g word old new : ℕ) → me.0.about ≡ about → me.0.root.held ≡ [] → base + g ≡ word → g < regions about → new ≡ suc old → IsEven old
      → Allows R slots id me word (λ n. either (eqb n old) new n) (takes_tells (step slots word old new none) me)
  takes slots id me g word old new about_is free is inside up even = subst (λ (w : ℕ). Allows R slots id me w (λ n. either (eqb n old) new n) (takes_tells (step slots w old new none) me)) is (λ s r sl e below.
      let n = get_or s.words (base + g) 0 in
      let d : (base + g) - first_root me.0.about ≡ g = subst (λ (y : About). (base + g) - first_root y ≡ g) (sym about_is) (omega arith) in
      exchanged n old new
      (λ m. (w : V) × (a : Act S) × Valid s.homes me.1 a × R (stepped s (base + g) m id me.1 w a) × takes_tells (step slots (base + g) old new none) me n (w, carried_after me.1 a))
      (λ z.
      let lock : lock_of (after s.words) g ≡ old = word_at S about s.words g ∙ z in
      let f = r.rooted.free g inside (subst IsEven (sym lock) even) in
      let copy = part about (after s.words) g in
      let h : Holding = record { region = g; lock = new; copy = copy; base = f.map } in
      let w = holding h me.0 in
      let there = subst (λ (m : ℕ). Compact about r.log (set (after s.words) g m) (set s.views id (holding (record { region = g; lock = m; copy = copy; base = f.map }) me.0))) (sym up)
      (takes_root about r.log (after s.words) s.views id me.0 g old r.rooted e free inside lock even f) in
      let kept = stays S about (part_of about) (Compact about) s r id me.0 (set s.words (base + g) new) true (record me.0.root { held = h ∷ []; locks = suc me.0.root.locks }) e (length-set s.words (base + g) new, nodes_stay S about s.words g new) refl
      (subst (λ (ws : List ℕ). Compact about r.log ws (set s.views id w)) (sym (behind_set S about s.words g new)) there) in
      let long : length copy ≡ words_each about = part_long about (after s.words) g inside (r.rooted.long ∙ r.rooted.is_about.root_words_are) in
      let told : TakenRegion g new me.0 w = record {
        copy = copy;
        base = f.map;
        view_is = refl;
        long = long ∙ ap words_each (sym about_is);
        keeps = subst (λ (y : About). KeepsRoots y copy f.map) (sym about_is) f.keeps;
        inside = subst (λ (y : About). InRegion y g f.map) (sym about_is) (in_region about r.log (after s.words) s.views r.rooted g f.map f.is_map);
        names = λ vector i name here_g.
            let k = f.is_map.each vector i (keeps-names about.flags me.0.seen r.log r.legal (r.each id me.0 e).seen vector i name) (subst (λ (y : About). region_of y i ≡ g) about_is here_g) in
            (k.0, k.2);
      } in
      (w, keeps, tt, kept, (refl, (λ _. subst (λ (k : ℕ). TakenRegion k new me.0 w) (sym d) told), (λ no. absurd (no z)))))
      (λ ne. (me.0, keeps, tt, unchanged s id (base + g) me r e, (refl, (λ z. absurd (ne z)), (λ _. refl)))))

  -- the holder's load
  pub copies : (slots id : ℕ) (me : Me S V) (h : Holding) (i word : ℕ) → me.0.about ≡ about → me.0.root.held ≡ h ∷ [] → base + (start about h.region + i) ≡ word → i < words_each about
      → Allows R slots id me word (λ n. n) (copies_tells (step slots word 0 0 none) me)
  copies slots id me h i word about_is holds is near s r sl e below =
      let hv = (r.rooted.each id me.0 e).holds h (subst (Has h) (sym holds) (inl refl)) in
      let n = get_or s.words word 0 in
      let same : n ≡ get_or h.copy i 0 = ap (λ (k : ℕ). get_or s.words k 0) (sym is) ∙ (sym (word_at S about s.words (start about h.region + i)) ∙ (sym (part_word about (after s.words) h.region i near) ∙ ap (λ (l : List ℕ). get_or l i 0) (sym hv.copy_is))) in
      let d = place_is me word h.region i about_is is in (
        me.0,
        keeps,
        tt,
        unchanged s id word me r e,
        (refl, λ h' holds'. let z = head_of h h' me.0.root.held holds holds' in subst (λ (u : Holding). n ≡ get_or u.copy (place_in me.0.about word u.region) 0) z (same ∙ ap (λ (k : ℕ). get_or h.copy k 0) (sym d))),
      )

  -- its store
  pub stores : (slots id : ℕ) (me : Me S V) (h : Holding) (i word new : ℕ) → me.0.about ≡ about → me.0.root.held ≡ h ∷ [] → me.0.busy ≡ true → base + (start about h.region + i) ≡ word → i < words_each about
      → Allows R slots id me word (λ _. new) (λ _. stores_tells (step slots word new 0 none) me new)
  stores slots id me h i word new about_is holds busy is near = subst (λ (w : ℕ). Allows R slots id me w (λ _. new) (λ _. stores_tells (step slots w new 0 none) me new)) is (λ s r sl e below.
      let k = start about h.region + i in
      let w = recopied (set h.copy i new) h me.0 in
      let there = stores_root about r.log (after s.words) s.views id me.0 h i new r.rooted e holds busy near in
      let kept = stays S about (part_of about) (Compact about) s r id me.0 (set s.words (base + k) new) me.0.busy (record me.0.root { held = (record h { copy = set h.copy i new }) ∷ [] }) e (length-set s.words (base + k) new, nodes_stay S about s.words k new) refl
      (subst (λ (ws : List ℕ). Compact about r.log ws (set s.views id w)) (sym (behind_set S about s.words k new)) there) in
      let d = place_is me (base + k) h.region i about_is refl in
      (w, keeps, tt, kept, (refl, λ h' holds'. let z = head_of h h' me.0.root.held holds holds' in subst (λ (u : Holding). w ≡ recopied (set u.copy (place_in me.0.about (base + k) u.region) new) u me.0) z (ap (λ (m : ℕ). recopied (set h.copy m new) h me.0) (sym d)))))

  -- its swap, with which its call ends
  pub frees : (slots id : ℕ) (me : Me S V) (h : Holding) (word new : ℕ) (what : Ending) (next : List (ℕ × ℕ)) → me.0.live ≡ true → me.0.about ≡ about → me.0.root.held ≡ h ∷ [] → base + h.region ≡ word → IsNextLock h.lock new
      → KeepsRoots about h.copy next → MayEnd about me.0.known h.region h.base what next
      → Allows R slots id me word (λ _. new) (frees_tells what (step slots word new 0 none) me)
  frees slots id me h word new what next live about_is holds is goes_to keep may = subst (λ (w : ℕ). Allows R slots id me w (λ _. new) (frees_tells what (step slots w new 0 none) me)) is (λ s r sl e below.
      let v = me.0 in
      let g = h.region in
      let hv = (r.rooted.each id v e).holds h (subst (Has h) (sym holds) (inl refl)) in
      let t : Regions = record v.root { held = [] } in
      let k = catches_up S about s r id v (set s.words (base + g) new) false t g h.base next what e live about_is (length-set s.words (base + g) new, nodes_stay S about s.words g new) hv.base_is may
      (λ x. let w = catch v r.holder.1 (r.log ++ x.more) false t in
      subst (λ (ws : List ℕ). Compact about (r.log ++ x.more) ws (set s.views id w)) (sym (behind_set S about s.words g new))
      (frees_root about r.log (r.log ++ x.more) (after s.words) s.views id v w h new next r.rooted e holds (next_even h.lock new hv.odd goes_to) (next_moves h.lock new goes_to) keep x.here x.others x.packed refl refl)) in (
        k.after,
        keeps,
        tt,
        k.rule,
        record {
          slots_stay = refl;
          idle = k.busy_is;
          no_olds = k.no_olds;
          root_is = k.root_is;
          told = λ h' holds'. let z = head_of h h' v.root.held holds holds' in subst (λ (u : Holding). Told u.region u.base what v k.after) z k.told;
        },
      ))
