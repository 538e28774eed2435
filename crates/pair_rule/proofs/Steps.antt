-- The steps that every store has keep the rule, whatever its root part is.
use Rattle.std.proofs.Common.{◌≡◌, ◌≢◌, ℕ, suc, ◌+◌, ◌-◌, ◌<◌, ◌≤◌, List, [], ◌∷◌, length, map, set, get_or, Bool, true, refl, sym, ap, ◌∙◌, subst, inl, inr, ⊎_elim, eqb, eq-eqb, ne_eqb, arith, length-set, get_or-set_same, get_or-set_other}
use mathlib.Core.Option.{some, none}
use lib.ListN.{get_elem?}
use lib.Seq.{set-get_or, map-set, drop-set-lt}
use prog.Atomic.{either}
use Rattle.atomic_table.specs.Table.{State, Me, Act, Valid, step, keeps, stepped, carried_after, Allows}
use Rattle.atomic_table.proofs.Lists.{at_map, set_else, exchanged}
use Rattle.tree_shape.specs.Tree.{Has, IsPart}
use Rattle.tree_shape.proofs.Trees.{stands_more}
use Rattle.tdb_base.specs.History.{History}
use Rattle.pair_rule.specs.declared.view.View.{View}
use Rattle.pair_rule.specs.declared.sizes.About.{About}
use Rattle.pair_rule.specs.Part.{Part}
use Rattle.pair_rule.specs.View.{face, made_of, Grown, node_word, gained, learned, published}
use Rattle.pair_rule.specs.Paths.{node_buckets, size, bucket, reach, IsPair, Passed, Listed}
use Rattle.pair_rule.specs.Rule.{IsNode, at, HasPair, Made, Named, open_probes, Fits, Numbers, Callers, Holder, StoreRule}
use Rattle.pair_rule.specs.Rest.{Sound}
use Rattle.pair_rule.specs.Plays.{IsWord, Found, look_tells, begin_tells, put_tells, after_join_tells}
use Rattle.pair_rule.proofs.Lists.{set_got, get_one, each_set, map_same, at_unmap}
use Rattle.pair_rule.proofs.Makers.{made_more}
use Rattle.pair_rule.proofs.Buckets.{filled_put}
use Rattle.pair_rule.proofs.Whole.{node_one, node_used}
use Rattle.pair_rule.proofs.Sounds.{SoundOf, Houses, sound_of}

-- with more nodes known, the names' root pairs stand as before
pub named_more : (about : About) (known more : List (ℕ × ℕ)) (seen : History) (roots : List (ℕ × ℕ)) → IsPart known more → Named about known seen roots → Named about more seen roots
named_more about known more seen roots part n = record {
  each = n.each;
  only = λ id pair h. let o = n.only id pair h in
      (o.0, o.1, (stands_more about.width about.slots known more o.0 2 _ part o.2.0, stands_more about.width about.slots known more o.0 3 _ part o.2.1), o.3);
}

pub gained_none : (i n : ℕ) (known : List (ℕ × ℕ)) → n ≡ 0 → gained i n known ≡ known
gained_none i n known e = rw (eq-eqb n 0 e) refl

pub gained_pair : (i n x : ℕ) (known : List (ℕ × ℕ)) → n ≡ 9223372036854775808 + x → gained i n known ≡ (i, x) ∷ known
gained_pair i n x known e = let d : n - 9223372036854775808 ≡ x = omega arith in rw (ne_eqb n 0 (λ z. absurd (omega arith)), d) refl

-- of the view that has seen all, after one view changed and saw what it had seen
pub holder_same : {T : Type 0} (log : History) (views : List (View T)) (id : ℕ) (v w : View T) → Holder log views → get_elem? views id ≡ some v → w.seen ≡ v.seen → Holder log (set views id w)
holder_same {T} log views id v w h e same = mathlib.Core.Logic.dite (native.Mathlib.Decide.ℕ_discrete h.0 id)
    (λ z. (id, w, set_got views id v w e, same ∙ (ap (λ (u : View T). u.seen) (get_one views id v h.1 e (subst (λ (n : ℕ). get_elem? views n ≡ some h.1) z h.2)) ∙ h.3)))
    (λ n. (h.0, h.1, set_else views id h.0 w n ∙ h.2, h.3))

module _ {T : Type 0} (S : Type 0) (about : About) (part : Part T)
    (root : History → List ℕ → List (View T) → Type 0) where
  abbrev Rule : State S (View T) → Type 0
  Rule = StoreRule about (part.roots about) root

  abbrev pub Grows : Type 0
  Grows = (log : History) (ws : List ℕ) (views : List (View T)) (id : ℕ) (v w : View T) → root log ws views → get_elem? views id ≡ some v → Grown v w → root log ws (set views id w)

  -- one view learns
  pub reviewed : Grows → (s : State S (View T)) (r : Rule s) (id : ℕ) (v w : View T) → get_elem? s.views id ≡ some v → Grown v w → w.made ≡ v.made → Fits about (part.roots about) r.log (at s.words) w
      → Rule record { words = s.words; homes = s.homes; views = set s.views id w }
  reviewed grows s r id v w e g same fits = record {
    log = r.log;
    legal = r.legal;
    holder = holder_same r.log s.views id v w r.holder e g.seen;
    least_nodes = r.least_nodes;
    wide = r.wide;
    nodes = r.nodes;
    made = subst (Made (size (node_buckets about)) (at s.words)) (sym (map_same made_of s.views id v w e same)) r.made;
    each = each_set (λ (j : ℕ) (u : View T). Fits about (part.roots about) r.log (at s.words) u) s.views id w r.each fits;
    numbers = subst Numbers (sym (map_same face s.views id v w e g.face_is)) r.numbers;
    callers = subst (Callers r.log) (sym (map_same face s.views id v w e g.face_is)) r.callers;
    rooted = grows r.log _ s.views id v w r.rooted e g;
  }

  word_is : (s : State S (View T)) (r : Rule s) (i : ℕ) → i < size (node_buckets about) → IsWord about (at s.words i)
  word_is s r i inside = ⊎_elim (λ (z : at s.words i ≡ 0). inl z) (λ (t : (y : ℕ) × HasPair (node_buckets about) IsNode (at s.words) i y). inr (t.0, t.1.there, t.1.is_pair)) (r.nodes i inside)

  -- a view that has a word's pair more, and other counters
  learns : (s : State S (View T)) (r : Rule s) (id i p : ℕ) (o : Bool) (v : View T) → get_elem? s.views id ≡ some v → i < size (node_buckets about) → length v.made + open_probes o ≤ p
      → Fits about (part.roots about) r.log (at s.words) (record v { known = gained i (at s.words i) v.known; probing = o; probes = p })
      × Grown v (record v { known = gained i (at s.words i) v.known; probing = o; probes = p })
  learns s r id i p o v e inside enough =
      let f = r.each id v e in
      let P : List (ℕ × ℕ) → Type 0 = λ k. Fits about (part.roots about) r.log (at s.words) (record v { known = k; probing = o; probes = p }) × Grown v (record v { known = k; probing = o; probes = p }) in
      ⊎_elim
      (λ (z : at s.words i ≡ 0). subst P (sym (gained_none i (at s.words i) v.known z)) (
        record { about_is = f.about_is; known = f.known; made = f.made; made_once = f.made_once; probed = enough; seen = f.seen; own = f.own; named = f.named; olds = f.olds; spent = f.spent },
        record { about = refl; face_is = refl; busy = refl; seen = refl; known = λ j x h. h; root = refl },
      ))
      (λ (t : (y : ℕ) × HasPair (node_buckets about) IsNode (at s.words) i y). subst P (sym (gained_pair i (at s.words i) t.0 v.known t.1.there)) (
        record {
          about_is = f.about_is;
          known = λ j x h. ⊎_elim (λ (is : (j, x) ≡ (i, t.0)). subst (λ (z : ℕ × ℕ). (z.0 < size (node_buckets about)) × IsNode (at s.words z.0) z.1) (sym is) (inside, t.1.there)) (λ (q : Has (j, x) v.known). f.known j x q) h;
          made = λ j h. let m = f.made j h in (m.0, inr m.1);
          made_once = f.made_once;
          probed = enough;
          seen = f.seen;
          own = f.own;
          named = named_more about v.known ((i, t.0) ∷ v.known) v.seen (part.roots about v.seen v.root) (λ j x h. inr h) f.named;
          olds = f.olds;
          spent = f.spent;
        },
        record { about = refl; face_is = refl; busy = refl; seen = refl; known = λ j x h. inr h; root = refl },
      ))
      (r.nodes i inside)

  unknown : (s : State S (View T)) (r : Rule s) (id i : ℕ) (v : View T) → get_elem? s.views id ≡ some v → at s.words i ≡ 0 → (x : ℕ) → Has (i, x) v.known → ⊥
  unknown s r id i v e z x h = node_used x (subst (λ (n : ℕ). IsNode n x) z ((r.each id v e).known i x h).1)

  module _ (sounds_of : SoundOf S about part root) (houses : Houses S about part root) (grows : Grows) where
    sounds : (s : State S (View T)) → Rule s → (id : ℕ) (v : View T) → get_elem? s.views id ≡ some v → v.live ≡ true → Sound part v
    sounds s r id v e live = sound_of S about part root sounds_of houses s r id v e live

    -- the rule after a load, and what it says of the view
    seen_at : (s : State S (View T)) (r : Rule s) (id i word p : ℕ) (o : Bool) (v : View T) → get_elem? s.views id ≡ some v → suc i ≡ word → i < size (node_buckets about) → v.live ≡ true → length v.made + open_probes o ≤ p
        → Rule record { words = set s.words word (get_or s.words word 0); homes = s.homes; views = set s.views id (record v { known = gained i (get_or s.words word 0) v.known; probing = o; probes = p }) }
        × Sound part (record v { known = gained i (get_or s.words word 0) v.known; probing = o; probes = p })
    seen_at s r id i word p o v e is inside live enough =
        let n = get_or s.words word 0 in
        let same : at s.words i ≡ n = ap (λ (k : ℕ). get_or s.words k 0) is in
        let w = record v { known = gained i n v.known; probing = o; probes = p } in
        let l = subst (λ (m : ℕ). Fits about (part.roots about) r.log (at s.words) (record v { known = gained i m v.known; probing = o; probes = p }) × Grown v (record v { known = gained i m v.known; probing = o; probes = p })) same (learns s r id i p o v e inside enough) in
        let r' = reviewed grows s r id v w e l.1 refl l.0 in
        (subst (λ (ws : List ℕ). Rule record { words = ws; homes = s.homes; views = set s.views id w }) (sym (set-get_or s.words word 0)) r', sounds _ r' id w (set_got s.views id v w e) live)

    -- a load of a node's bucket, where the view also counts
    looks_as : (slots id : ℕ) (me : Me S (View T)) (i word p : ℕ) (o : Bool) → suc i ≡ word → i < size (node_buckets about) → me.0.live ≡ true → me.0.about ≡ about → me.0.olds ≡ []
        → ((made : List ℕ) → length made + open_probes me.0.probing ≤ me.0.probes → length made + open_probes o ≤ p)
        → Allows Rule slots id me word (λ n. n) (λ n m'. (m'.0 ≡ record me.0 { known = gained (word - 1) n me.0.known; probing = o; probes = p }) × Found part (step slots word 0 0 none) me n m')
    looks_as slots id me i word p o is inside live about_is olds enough s r sl e below =
        let n = get_or s.words word 0 in
        let same : at s.words i ≡ n = ap (λ (k : ℕ). get_or s.words k 0) is in
        let d : i ≡ word - 1 = omega arith in
        let f = r.each id me.0 e in
        let w = record me.0 { known = gained i n me.0.known; probing = o; probes = p } in
        let k = seen_at s r id i word p o me.0 e is inside live (enough me.0.made f.probed) in (
          w,
          keeps,
          tt,
          k.0,
          (
            ap (λ (m : ℕ). record me.0 { known = gained m n me.0.known; probing = o; probes = p }) d,
            record {
              no_olds = olds;
              slots_stay = refl;
              word = subst (λ (a : About). IsWord a n) (sym about_is) (subst (IsWord about) same (word_is s r i inside));
              free = λ z x h. unknown s r id i me.0 e (same ∙ z) x (subst (λ (m : ℕ). Has (m, x) me.0.known) (sym d) h);
              sound = k.1;
            },
          ),
        )

    pub looks : (slots id : ℕ) (me : Me S (View T)) (i word : ℕ) → suc i ≡ word → i < size (node_buckets about) → me.0.live ≡ true → me.0.about ≡ about → me.0.olds ≡ []
        → Allows Rule slots id me word (λ n. n) (look_tells part (step slots word 0 0 none) me)
    looks slots id me i word is inside live about_is olds = looks_as slots id me i word me.0.probes me.0.probing is inside live about_is olds (λ made le. le)

    pub begins : (slots id : ℕ) (me : Me S (View T)) (i word : ℕ) → suc i ≡ word → i < size (node_buckets about) → me.0.live ≡ true → me.0.about ≡ about → me.0.olds ≡ []
        → Allows Rule slots id me word (λ n. n) (begin_tells part (step slots word 0 0 none) me)
    begins slots id me i word is inside live about_is olds = looks_as slots id me i word (suc me.0.probes) true is inside live about_is olds (λ made le. omega arith)

    -- the load of word 0 after a join
    pub after_joins : (slots id : ℕ) (me : Me S (View T)) (word : ℕ) → word ≡ 0 → me.0.live ≡ true → Allows Rule slots id me word (λ n. n) (after_join_tells part (step slots word 0 0 none) me)
    after_joins slots id me word first live s r sl e below =
        let f = r.each id me.0 e in
        let w : View T = record me.0 { olds = [] } in
        let g : Grown me.0 w = record { about = refl; face_is = refl; busy = refl; seen = refl; known = λ j x h. h; root = refl } in
        let fits : Fits about (part.roots about) r.log (at s.words) w = record { about_is = f.about_is; known = f.known; made = f.made; made_once = f.made_once; probed = f.probed; seen = f.seen; own = f.own; named = f.named; olds = λ o h. absurd h; spent = f.spent } in
        let r' = reviewed grows s r id me.0 w e g refl fits in (
          w,
          keeps,
          tt,
          subst (λ (ws : List ℕ). Rule record { words = ws; homes = s.homes; views = set s.views id w }) (sym (set-get_or s.words word 0)) r',
          record { here = first; view_is = refl; slots_stay = refl; joined_sound = sounds s r id me.0 e live; sound = sounds _ r' id w (set_got s.views id me.0 w e) live },
        )

    -- a pair is put into an empty bucket of its path, whose earlier buckets have other pairs
    wins : (s : State S (View T)) (r : Rule s) (id i word x j : ℕ) (v : View T) → get_elem? s.views id ≡ some v → suc i ≡ word → i < size (node_buckets about) → at s.words i ≡ 0 → IsPair (node_buckets about) x
        → j < reach (node_buckets about) → bucket (node_buckets about) x j ≡ i → Passed (node_buckets about) (Listed v.known) x j → v.live ≡ true → v.probing ≡ true
        → Rule record { words = set s.words word (node_word x); homes = s.homes; views = set s.views id (published i x v) }
    wins s r id i word x j v e is inside free small near lies passed live probing =
        let ws = set s.words word (node_word x) in
        let w = published i x v in
        let b = node_buckets about in
        let wide : word < length s.words = omega (arith, r.wide) in
        let others : (k : ℕ) → k ≢ i → at ws k ≡ at s.words k = λ k n. get_or-set_other s.words word (suc k) (node_word x) 0 (λ z. n (omega arith)) in
        let here : IsNode (at ws i) x = subst (λ (n : ℕ). get_or ws n 0 ≡ node_word x) (sym is) (get_or-set_same s.words word (node_word x) 0 wide) in
        let stay : (k y : ℕ) → IsNode (at s.words k) y → IsNode (at ws k) y = λ k y h. others k (λ z. node_used y (subst (λ (n : ℕ). IsNode n y) (ap (at s.words) z ∙ free) h)) ∙ h in
        let f = r.each id v e in
        let low : word < suc (size b) = omega arith in
        let g : Grown v w = record { about = refl; face_is = refl; busy = refl; seen = refl; known = λ k y h. inr h; root = refl } in
        let count : length v.made + open_probes true ≤ v.probes = subst (λ (o : Bool). length v.made + open_probes o ≤ v.probes) probing f.probed in
        record {
          log = r.log;
          legal = r.legal;
          holder = holder_same r.log s.views id v w r.holder e refl;
          least_nodes = r.least_nodes;
          wide = length-set s.words word (node_word x) ∙ r.wide;
          nodes = filled_put b IsNode node_one node_used (at s.words) (at ws) i x j r.nodes free here others small near lies (λ m lt. let p = passed m lt in (p.0, (f.known _ p.0 p.1).1, p.2));
          made = subst (Made (size b) (at ws)) (sym (map-set made_of s.views id w))
              (made_more (size b) (at s.words) (at ws) (map made_of s.views) id i v.made r.made (at_map made_of s.views id v e)
              (λ m js p h. let u = at_unmap made_of s.views m js p in let q = (r.each m u.0 u.1).made i (subst (Has i) (sym u.2) h) in unknown s r m i u.0 u.1 free q.0 q.1)
              others);
          each = each_set (λ (m : ℕ) (u : View T). Fits about (part.roots about) r.log (at ws) u) s.views id w
              (λ m u p. let fu = r.each m u p in record { about_is = fu.about_is; known = λ k y h. ((fu.known k y h).0, stay k y (fu.known k y h).1); made = fu.made; made_once = fu.made_once; probed = fu.probed; seen = fu.seen; own = fu.own; named = fu.named; olds = fu.olds; spent = fu.spent })
              record {
                about_is = f.about_is;
                known = λ k y h. ⊎_elim (λ (p : (k, y) ≡ (i, x)). subst (λ (z : ℕ × ℕ). (z.0 < size b) × IsNode (at ws z.0) z.1) (sym p) (inside, here)) (λ (q : Has (k, y) v.known). ((f.known k y q).0, stay k y (f.known k y q).1)) h;
                made = λ k h. ⊎_elim (λ (p : k ≡ i). (x, inl (λ t. (p t, x)))) (λ (q : Has k v.made). let m = f.made k q in (m.0, inr m.1)) h;
                made_once = ((λ h. let m = f.made i h in unknown s r id i v e free m.0 m.1), f.made_once);
                probed = omega arith;
                seen = f.seen;
                own = f.own;
                named = named_more about v.known ((i, x) ∷ v.known) v.seen (part.roots about v.seen v.root) (λ k y h. inr h) f.named;
                olds = f.olds;
                spent = λ dead. absurd (cc (live, dead));
              };
          numbers = subst Numbers (sym (map_same face s.views id v w e refl)) r.numbers;
          callers = subst (Callers r.log) (sym (map_same face s.views id v w e refl)) r.callers;
          rooted = subst (λ (rs : List ℕ). root r.log rs (set s.views id w)) (sym (drop-set-lt (suc (size b)) s.words word (node_word x) low)) (grows r.log _ s.views id v w r.rooted e g);
        }

    pub puts : (slots id : ℕ) (me : Me S (View T)) (i word x j new : ℕ) → suc i ≡ word → i < size (node_buckets about) → me.0.live ≡ true → me.0.about ≡ about → me.0.olds ≡ [] → me.0.probing ≡ true
        → new ≡ node_word x → IsPair (node_buckets about) x → j < reach (node_buckets about) → bucket (node_buckets about) x j ≡ i → Passed (node_buckets about) (Listed me.0.known) x j
        → Allows Rule slots id me word (λ n. either (eqb n 0) new n) (put_tells part (step slots word 0 new none) me)
    puts slots id me i word x j new is inside live about_is olds probing packed small near lies passed s r sl e below =
        let n = get_or s.words word 0 in
        let same : at s.words i ≡ n = ap (λ (k : ℕ). get_or s.words k 0) is in
        let d : i ≡ word - 1 = omega arith in
        let dx : x ≡ new - 9223372036854775808 = omega arith in
        exchanged n 0 new
        (λ m. (w : View T) × (a : Act S) × Valid s.homes me.1 a × Rule (stepped s word m id me.1 w a) × put_tells part (step slots word 0 new none) me n (w, carried_after me.1 a))
        (λ z.
        let r' = wins s r id i word x j me.0 e is inside (same ∙ z) small near lies passed live probing in
        let w = published i x me.0 in (
          w,
          keeps,
          tt,
          subst (λ (m : ℕ). Rule (stepped s word m id me.1 w keeps)) (sym packed) r',
          (
            probing,
            (λ z'. (λ t. published (d t) (dx t) me.0)),
            (λ nz. absurd (nz z)),
            record {
              no_olds = olds;
              slots_stay = refl;
              word = inl z;
              free = λ z' y h. unknown s r id i me.0 e (same ∙ z) y (subst (λ (m : ℕ). Has (m, y) me.0.known) (sym d) h);
              sound = sounds _ r' id w (set_got s.views id me.0 w e) live;
            },
          ),
        ))
        (λ nz.
        let f = r.each id me.0 e in
        let old = seen_at s r id i word me.0.probes me.0.probing me.0 e is inside live f.probed in (
          learned i n me.0,
          keeps,
          tt,
          old.0,
          (
            probing,
            (λ z. absurd (nz z)),
            (λ _. ap (λ (m : ℕ). learned m n me.0) d),
            record {
              no_olds = olds;
              slots_stay = refl;
              word = subst (λ (a : About). IsWord a n) (sym about_is) (subst (IsWord about) same (word_is s r i inside));
              free = λ z. absurd (nz z);
              sound = old.1;
            },
          ),
        ))
