-- The steps of a reader without a lock keep the rule; and what its second look at the lock word tells.
use Rattle.std.proofs.Common.{◌≡◌, ◌⊎◌, ℕ, suc, ◌+◌, ◌-◌, ◌<◌, List, [], ◌∷◌, ◌++◌, length, set, get_or, true, false, true≢false, Some, None, refl, sym, ap, ◌∙◌, subst, inl, inr, ⊎_elim, arith}
use mathlib.Core.Option.{none, some}
use mathlib.Core.Logic.{dite}
use native.Mathlib.Decide.{ℕ_discrete, dec_lt}
use lib.ListN.{get_elem?}
use lib.Seq.{set-get_or}
use Rattle.atomic_table.specs.Table.{State, Me, step, keeps, stepped, Allows}
use Rattle.tree_shape.specs.Tree.{Has}
use Rattle.tdb_base.specs.History.{Put}
use Rattle.pair_rule.specs.declared.view.View.{View}
use Rattle.pair_rule.specs.declared.sizes.About.{About}
use Rattle.pair_rule.specs.Plays.{first_root}
use Rattle.pair_rule.proofs.Advance.{catch, stays}
use Rattle.region_root.specs.declared.root.Regions.{Regions}
use Rattle.region_root.specs.declared.root.Reading.{Reading}
use Rattle.region_root.specs.Layout.{regions, words_each, lock_of, start, part, KeepsRoots}
use Rattle.region_root.specs.Maps.{IsMapOf, InRegion}
use Rattle.region_root.specs.Compact.{IsEven, IsOdd, last, ReadsRegion, Free, Compact, Unchanged}
use Rattle.region_root.specs.Laws.{even_or_odd}
use Rattle.region_root.specs.Plays.{part_of, Ending, MayEnd, reading, peeking, reloaded, seconded, place_in, Believes, Closed, peeks_tells, reads_tells, closes_tells}
use Rattle.region_root.proofs.Parts.{not_both, part_word, part_long}
use Rattle.region_root.proofs.Rules.{quiet_root}
use Rattle.region_root.proofs.Maps.{map_alike}
use Rattle.region_root.proofs.Catching.{head_of, in_region, Rule, behind, first, word_at, Caught_up, catches_up, has_any}

abbrev V : Type 0
V = View Regions

module _ (S : Type 0) (about : About) where
  abbrev R : State S V → Type 0
  R = Rule S about

  abbrev base : ℕ
  base = first S about

  abbrev after : List ℕ → List ℕ
  after = behind S about

  -- no word changes
  still : (s : State S V) (id word : ℕ) (v w : V) (me : List (ℕ × S)) → R record { words = s.words; homes = s.homes; views = set s.views id w } → R (stepped s word (get_or s.words word 0) id me w keeps)
  still s id word v w me r = subst (λ (ws : List ℕ). R record { words = ws; homes = s.homes; views = set s.views id w }) (sym (set-get_or s.words word 0)) r

  -- the stepping view reads so
  reader_is : (s : State S V) (r : R s) (id : ℕ) (v : V) (q : Reading) (peeks : ℕ) → get_elem? s.views id ≡ some v → ReadsRegion about (after s.words) q
      → R record { words = s.words; homes = s.homes; views = set s.views id (record v { root = record v.root { reader = q ∷ []; peeks = peeks } }) }
  reader_is s r id v q peeks e reads =
      let t : Regions = record v.root { reader = q ∷ []; peeks = peeks } in
      let w : V = record v { root = t } in
      stays S about (part_of about) (Compact about) s r id v s.words v.busy t e (refl, λ k lt. refl) refl
      (quiet_root about r.log r.log (after s.words) s.views id v w r.rooted e (λ k m is. is) r.rooted.packed refl refl
      (λ q' a. ⊎_elim (λ (z : q' ≡ q). subst (ReadsRegion about (after s.words)) (sym z) reads) (λ (no : ⊥). absurd no) a))

  -- the first look at a lock word
  pub peeks : (slots id : ℕ) (me : Me S V) (g word x : ℕ) → me.0.about ≡ about → base + g ≡ word → g < regions about
      → Allows R slots id me word (λ n. n) (peeks_tells x (step slots word 0 0 none) me)
  peeks slots id me g word x about_is is inside s r sl e below =
      let n = get_or s.words word 0 in
      let lock : lock_of (after s.words) g ≡ n = word_at S about s.words g ∙ ap (λ (k : ℕ). get_or s.words k 0) is in
      let d : word - first_root me.0.about ≡ g = subst (λ (y : About). word - first_root y ≡ g) (sym about_is) (omega (arith, is)) in
      let q = reading g x n in
      let w = peeking q me.0 in (
        w,
        keeps,
        tt,
        still s id word me.0 w me.1 (reader_is s r id me.0 q (suc me.0.root.peeks) e record { inside = inside; above = λ even low. omega (arith, lock); same = λ even low z i m h. absurd h }),
        (refl, ap (λ (k : ℕ). peeking (reading k x n) me.0) (sym d)),
      )

  place_is : (me : Me S V) (k g i : ℕ) → me.0.about ≡ about → base + (start about g + i) ≡ k → place_in me.0.about k g ≡ i
  place_is me k g i is here = subst (λ (y : About). place_in y k g ≡ i) (sym is) (omega (arith, here))

  -- a load of a word of the region
  pub reads : (slots id : ℕ) (me : Me S V) (q : Reading) (i word : ℕ) → me.0.about ≡ about → me.0.root.reader ≡ q ∷ [] → base + (start about q.region + i) ≡ word → i < words_each about
      → Allows R slots id me word (λ n. n) (reads_tells (step slots word 0 0 none) me)
  reads slots id me q i word about_is reader is near s r sl e below =
      let n = get_or s.words word 0 in
      let rq = (r.rooted.each id me.0 e).reads q (subst (Has q) (sym reader) (inl refl)) in
      let here : get_or (part about (after s.words) q.region) i 0 ≡ n = part_word about (after s.words) q.region i near ∙ (word_at S about s.words (start about q.region + i) ∙ ap (λ (k : ℕ). get_or s.words k 0) is) in
      let q' : Reading = record q { loads = (i, n) ∷ q.loads } in
      let w = reloaded ((i, n) ∷ q.loads) q me.0 in
      let d = place_is me word q.region i about_is is in (
        w,
        keeps,
        tt,
        still s id word me.0 w me.1 (reader_is s r id me.0 q' me.0.root.peeks e record {
          inside = rq.inside;
          above = rq.above;
          same = λ even low z k m h. ⊎_elim
              (λ (t : (k, m) ≡ (i, n)). subst (λ (p : ℕ × ℕ). ◌≡◌ {A = ℕ} (get_or (part about (after s.words) q.region) p.0 0) p.1) (sym t) here)
              (λ (t : Has (k, m) q.loads). rq.same even low z k m t) h;
        }),
        (refl, λ u reader'. let z = head_of q u me.0.root.reader reader reader' in subst (λ (y : Reading). w ≡ reloaded ((place_in me.0.about word y.region, n) ∷ y.loads) y me.0) z (ap (λ (k : ℕ). reloaded ((k, n) ∷ q.loads) q me.0) (sym d))),
      )

  -- the second look found the first value, even and not the last
  module _ (s : State S V) (r : R s) (id : ℕ) (v : V) (q : Reading) (n : ℕ) (e : get_elem? s.views id ≡ some v) (live : v.live ≡ true) (about_is : v.about ≡ about) (reader : v.root.reader ≡ q ∷ [])
      (lock : lock_of (after s.words) q.region ≡ n) (u : Unchanged n q) where
    abbrev g : ℕ
    g = q.region

    rq : ReadsRegion about (after s.words) q
    rq = (r.rooted.each id v e).reads q (subst (Has q) (sym reader) (inl refl))

    free : Free about r.log (after s.words) g
    free = r.rooted.free g rq.inside (subst IsEven (sym lock) u.even)

    abbrev then : Regions
    then = seconded n q v.root

    caught : (what : Ending) → MayEnd about v.known g free.map what free.map → Caught_up S about s id v s.words v.busy then g free.map what
    caught what may = catches_up S about s r id v s.words v.busy then g free.map free.map what e live about_is (refl, λ k lt. refl) free.is_map may
        (λ x. quiet_root about r.log (r.log ++ x.more) (after s.words) s.views id v (catch v r.holder.1 (r.log ++ x.more) v.busy then) r.rooted e
        (λ k m is. dite (ℕ_discrete k g) (λ z. subst (λ (j : ℕ). IsMapOf about j (r.log ++ x.more) m) (sym z) (map_alike about g r.log (r.log ++ x.more) free.map m free.is_map (subst (λ (j : ℕ). IsMapOf about j r.log m) z is) x.here)) (λ ne. x.others k m ne is))
        x.packed refl refl
        (λ q' a. ⊎_elim (λ (z : q' ≡ record q { second = Some n }). subst (ReadsRegion about (after s.words)) (sym z) record { inside = rq.inside; above = rq.above; same = rq.same }) (λ (no : ⊥). absurd no) a))

    -- what the reader learns, with the rule
    record Learns : Type 0 where
      pub view : V
      pub rule : R record { words = s.words; homes = s.homes; views = set s.views id view }
      pub busy_is : view.busy ≡ v.busy
      pub root_is : view.root ≡ then
      pub no_olds : view.olds ≡ []
      pub believes : Believes q v view

    even_first : IsEven q.first
    even_first = subst IsEven u.same u.even

    low_first : q.first < last
    low_first = let low = u.low in let same = u.same in omega (arith, low, same)

    abbrev words : List ℕ
    words = part about (after s.words) g

    long : length words ≡ words_each v.about
    long = part_long about (after s.words) g rq.inside (r.rooted.long ∙ r.rooted.is_about.root_words_are) ∙ ap words_each (sym about_is)

    keeps_now : KeepsRoots v.about words free.map
    keeps_now = subst (λ (y : About). KeepsRoots y words free.map) (sym about_is) free.keeps

    inside_now : InRegion v.about g free.map
    inside_now = subst (λ (y : About). InRegion y g free.map) (sym about_is) (in_region about r.log (after s.words) s.views r.rooted g free.map free.is_map)

    loads_now : (i m : ℕ) → Has (i, m) q.loads → ◌≡◌ {A = ℕ} (get_or words i 0) m
    loads_now = rq.same even_first low_first (lock ∙ u.same)

    learns : Learns
    learns = ⊎_elim
        (λ (has : (f : ℕ) × Has (q.pair, f) free.map).
        let o = in_region about r.log (after s.words) s.views r.rooted g free.map free.is_map q.pair has.0 has.1 in
        let k = caught (Some (q.pair, Put false)) (o.0, o.1, (has, refl), (λ no. absurd (true≢false (sym no)))) in
        record {
          view = k.after;
          rule = k.rule;
          busy_is = k.busy_is;
          root_is = k.root_is;
          no_olds = k.no_olds;
          believes = record { words = words; long = long; loads_are = loads_now; map = free.map; keeps = keeps_now; inside = inside_now; answer = inr (has, k.told) };
        })
        (λ (no : (f : ℕ) → Has (q.pair, f) free.map → ⊥).
        let k = caught None refl in
        record {
          view = k.after;
          rule = k.rule;
          busy_is = k.busy_is;
          root_is = k.root_is;
          no_olds = k.no_olds;
          believes = record { words = words; long = long; loads_are = loads_now; map = free.map; keeps = keeps_now; inside = inside_now; answer = inl (no, k.told) };
        })
        (has_any q.pair free.map)

  -- whether it is to be believed
  pub to_believe : (n : ℕ) (q : Reading) → Unchanged n q ⊎ (Unchanged n q → ⊥)
  to_believe n q = dite (ℕ_discrete n q.first)
      (λ same. dite (dec_lt n last)
      (λ low. ⊎_elim (λ (even : IsEven n). inl record { same = same; even = even; low = low }) (λ (odd : IsOdd n). inr (λ u. not_both n u.even odd)) (even_or_odd n))
      (λ high. inr (λ u. high u.low)))
      (λ ne. inr (λ u. ne u.same))

  -- the second look
  pub closes : (slots id : ℕ) (me : Me S V) (q : Reading) (word : ℕ) → me.0.live ≡ true → me.0.about ≡ about → me.0.root.reader ≡ q ∷ [] → base + q.region ≡ word
      → Allows R slots id me word (λ n. n) (closes_tells (step slots word 0 0 none) me)
  closes slots id me q word live about_is reader is s r sl e below =
      let n = get_or s.words word 0 in
      let rq = (r.rooted.each id me.0 e).reads q (subst (Has q) (sym reader) (inl refl)) in
      let lock : lock_of (after s.words) q.region ≡ n = word_at S about s.words q.region ∙ ap (λ (k : ℕ). get_or s.words k 0) is in
      let told : (w : V) → Closed n q me.0 w → closes_tells (step slots word 0 0 none) me n (w, me.1) = λ w c.
      (refl, λ q' reader'. let z = head_of q q' me.0.root.reader reader reader' in subst (λ (y : Reading). Closed n y me.0 w) z c) in
      ⊎_elim
      (λ (u : Unchanged n q).
      let k = learns s r id me.0 q n e live about_is reader lock u in (
        k.view,
        keeps,
        tt,
        still s id word me.0 k.view me.1 k.rule,
        told k.view record { root_is = k.root_is; busy_stays = k.busy_is; changed = λ no. absurd (no u); believed = λ _. (k.no_olds, k.believes) },
      ))
      (λ (no : Unchanged n q → ⊥).
      let w : V = record me.0 { root = seconded n q me.0.root } in (
        w,
        keeps,
        tt,
        still s id word me.0 w me.1 (reader_is s r id me.0 (record q { second = Some n }) me.0.root.peeks e record { inside = rq.inside; above = rq.above; same = rq.same }),
        told w record { root_is = refl; busy_stays = refl; changed = λ _. refl; believed = λ u. absurd (no u) },
      ))
      (to_believe n q)
