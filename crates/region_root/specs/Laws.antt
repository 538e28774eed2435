-- The rule of regions is kept by the steps on nodes, and where passes are made, split and joined; and what it
-- tells of a view.
use Rattle.std.proofs.Common.{◌≡◌, ◌⊎◌, ℕ, zero, suc, ◌+◌, ◌*◌, ◌<◌, ◌≤◌, List, [], ◌∷◌, ◌++◌, length, map}
use Rattle.std.proofs.Common.{take, drop, set, get_or, false, refl, sym, ap, ◌∙◌, subst, inl, inr, ⊎_elim}
use Rattle.std.proofs.Common.{arith}
use Rattle.std.proofs.lemmas.List.{get_or-drop, get_or-take, length-take}
use Rattle.std.proofs.Math.Pow.{pow_mono}
use mathlib.Core.Option.{some, some-injective}
use mathlib.Core.Logic.{dite}
use mathlib.Core.List.{map-append}
use native.Mathlib.Decide.{dec_lt}
use lib.ListN.{get_elem?}
use Rattle.atomic_table.proofs.Lists.{at_longer, set_else}
use Rattle.tree_shape.specs.Tree.{Has, IsPart}
use Rattle.tdb_base.specs.History.{History}
use Rattle.tdb_base.specs.Legal.{IsLegal, Extends}
use Rattle.tdb_base.proofs.NameLemmas.{name-nil}
use Rattle.cleary_core.proofs.Empty.{keeps_nothing}
use Rattle.pair_rule.specs.declared.view.View.{View}
use Rattle.pair_rule.specs.declared.sizes.About.{About}
use Rattle.pair_rule.specs.View.{Grown, longer, parent_view, child_view, joining_view, newcomer, nobody}
use Rattle.pair_rule.specs.Laws.{IsAbout}
use Rattle.pair_rule.specs.Rule.{Fits}
use Rattle.pair_rule.proofs.Lists.{at_unmap, each_set, each_snoc, map_same, of_snoc, not_there}
use Rattle.pair_rule.proofs.Histories.{longer_is}
use Rattle.region_root.specs.declared.root.Regions.{Regions}
use Rattle.region_root.specs.declared.root.Holding.{Holding}
use Rattle.region_root.specs.Layout.{IsSized, compact_word_count, regions, words_each, most, lock_of}
use Rattle.region_root.specs.Layout.{start, part, IsPacked, KeepsRoots}
use Rattle.region_root.specs.Maps.{roots_of, IsMapOf, FewEach}
use Rattle.region_root.specs.Compact.{IsEven, IsOdd, nothing, IsCompact, HoldsRegion, held_of, Viewed, Locks}
use Rattle.region_root.specs.Compact.{Compact, KnowsRegions, HousedInRegions}
use Rattle.region_root.specs.Names.{roots_more, are_names, kept_few, few_names, few_front}

abbrev V : Type 0
V = View Regions

-- with other views, of which the same one holds each region
with_views : (about : About) (log : History) (ws : List ℕ) (views others : List V)
    → Compact about log ws views → Locks about ws (map held_of others)
    → ((j : ℕ) (v : V) → get_elem? others j ≡ some v → Viewed about log ws v) → Compact about log ws others
with_views about log ws views others p locks each = record {
  is_about = p.is_about;
  long = p.long;
  packed =
      p.packed;
  free = p.free;
  locks = locks;
  each = each;
}

-- a view whose root part is as it was
same_viewed : (about : About) (log : History) (ws : List ℕ) (u v : V) → Viewed about log ws u
    → v.root ≡ u.root → v.busy ≡ u.busy → Viewed about log ws v
same_viewed about log ws u v r root busy = record {
  idle = λ b. ap (λ (t : Regions). t.held) root ∙ r.idle (sym busy ∙ b);
  one = subst (λ (t : Regions). length t.held ≤ 1) (sym root) r.one;
  holds = λ h a. r.holds h (subst (λ (t : Regions). Has h t.held) root a);
  reads = λ q a. r.reads q (subst (λ (t : Regions). Has q t.reader) root a);
}

-- a view that knows nothing of regions
blank_viewed : (about : About) (log : History) (ws : List ℕ) (v : V) → v.root ≡ nothing
    → Viewed about log ws v
blank_viewed about log ws v is = record {
  idle = λ b. ap (λ (t : Regions). t.held) is;
  one = subst (λ (t : Regions). length t.held ≤ 1) (sym is) (omega arith);
  holds = λ h a. absurd (subst (λ (t : Regions). Has h t.held) is a);
  reads = λ q a. absurd (subst (λ (t : Regions). Has q t.reader) is a);
}

pub compact_keeps : (about : About) (log : History) (ws : List ℕ) (views : List V) (id : ℕ) (v w : V)
    → Compact about log ws views → get_elem? views id ≡ some v → Grown v w
    → Compact about log ws (set views id w)
compact_keeps about log ws views id v w p e g = with_views about log ws views (set views id w) p
    (subst (Locks about ws) (sym (map_same held_of views id v w e (ap (λ (t : Regions). t.held) g.root)))
    p.locks)
    (each_set (λ (j : ℕ) (u : V). Viewed about log ws u) views id w p.each (same_viewed about log ws v w
    (p.each id v e) g.root g.busy))

-- a further view that holds nothing
locks_snoc : (about : About) (ws : List ℕ) (helds : List (List Holding)) → Locks about ws helds
    → Locks about ws (helds ++ [] ∷ [])
locks_snoc about ws helds m = record {
  sole = λ j k hs is h i p q a b e. ⊎_elim
      (λ (t : (j ≡ length helds) × ([] ≡ hs)). absurd (subst (Has h) (sym t.1) a))
      (λ (t : get_elem? helds j ≡ some hs). ⊎_elim
      (λ (u : (k ≡ length helds) × ([] ≡ is)). absurd (subst (Has i) (sym u.1) b))
      (λ (u : get_elem? helds k ≡ some is). m.sole j k hs is h i t u a b e)
      (of_snoc helds [] is k q))
      (of_snoc helds [] hs j p);
  taken = λ g inside odd. let y = m.taken g inside odd in (
    y.0,
    y.1,
    y.2,
    at_longer helds ([] ∷ []) y.0 y.1 y.3,
    y.4,
    y.5,
  );
}

pub compact_keeps_split : (about : About) (log : History) (ws : List ℕ) (views : List V) (id : ℕ) (v : V)
    → Compact about log ws views → get_elem? views id ≡ some v
    → Compact about log ws (set views id (parent_view v) ++ child_view (λ t. nothing) v ∷ [])
compact_keeps_split about log ws views id v p e =
    let new : V = child_view (λ t. nothing) v in
    let helds : map held_of (set views id (parent_view v) ++ new ∷ []) ≡ map held_of views ++ [] ∷ [] =
    map-append held_of (set views id (parent_view v)) (new ∷ [])
    ∙ ap (λ (l : List (List Holding)). l ++ [] ∷ []) (map_same held_of views id v (parent_view v) e
    refl) in
    with_views about log ws views (set views id (parent_view v) ++ new ∷ []) p
    (subst (Locks about ws) (sym helds) (locks_snoc about ws (map held_of views) p.locks))
    (each_snoc (λ (u : V). Viewed about log ws u) (set views id (parent_view v)) new
    (each_set (λ (j : ℕ) (u : V). Viewed about log ws u) views id (parent_view v) p.each (same_viewed about
    log ws v (parent_view v) (p.each id v e) refl refl))
    (blank_viewed about log ws new refl))

pub compact_keeps_join : (about : About) (log : History) (ws : List ℕ) (views : List V) (id other : ℕ) (v w
    : V) → Compact about log ws views → get_elem? views id ≡ some v → get_elem? views other ≡ some w
    → ¬ (other ≡ id) → w.busy ≡ false
    → Compact about log ws (set (set views id (joining_view (λ t u. t) v w)) other (nobody nothing))
compact_keeps_join about log ws views id other v w p e f apart idle =
    let u = joining_view (λ (t : Regions) (u : Regions). t) v w in
    let other_there : get_elem? (set views id u) other ≡ some w = set_else views id other u apart ∙ f in
    let helds : map held_of (set (set views id u) other (nobody nothing)) ≡ map held_of views =
    map_same held_of (set views id u) other w (nobody nothing) other_there (sym ((p.each other w f).idle
    idle)) ∙ map_same held_of views id v u e refl in
    with_views about log ws views (set (set views id u) other (nobody nothing)) p
    (subst (Locks about ws) (sym helds) p.locks)
    (each_set (λ (j : ℕ) (x : V). Viewed about log ws x) (set views id u) other (nobody nothing)
    (each_set (λ (j : ℕ) (x : V). Viewed about log ws x) views id u p.each (same_viewed about log ws v u
    (p.each id v e) refl refl))
    (blank_viewed about log ws (nobody nothing) refl))

get_or-past : (ws : List ℕ) (i : ℕ) → length ws ≤ i → ◌≡◌ {A = ℕ} (get_or ws i 0) 0
get_or-past [] i h = refl
get_or-past (w ∷ ws) zero h = absurd (omega arith)
get_or-past (w ∷ ws) (suc i) h = get_or-past ws i (omega arith)

zero_part : (n m : ℕ) (ws : List ℕ) → ((i : ℕ) → ◌≡◌ {A = ℕ} (get_or ws i 0) 0) → (i : ℕ)
    → ◌≡◌ {A = ℕ} (get_or (take n (drop m ws)) i 0) 0
zero_part n m ws z i = dite (dec_lt i n)
    (λ lt. get_or-take n (drop m ws) i 0 lt ∙ (get_or-drop m ws i 0 ∙ z (m + i)))
    (λ ge. get_or-past (take n (drop m ws)) i (let l = length-take n (drop m ws) in omega (arith, l, ge)))

-- words that are all 0 keep nothing
zeros_keep : (about : About) (ws : List ℕ) → ((i : ℕ) → ◌≡◌ {A = ℕ} (get_or ws i 0) 0)
    → KeepsRoots about ws []
unfolding KeepsRoots
zeros_keep about ws blank = keeps_nothing ws blank _ _

pub compact_starts : (about : About) (ws : List ℕ) → IsCompact about → length ws ≡ about.root_words
    → ((i : ℕ) → ◌≡◌ {A = ℕ} (get_or ws i 0) 0) → Compact about [] ws (newcomer nothing about ∷ [])
compact_starts about ws is long blank = record {
  is_about = is;
  long = long;
  packed = λ v id n. cc (name-nil v, n);
  free = λ g inside even. record {
    map = [];
    keeps = zeros_keep about (part about ws g) (zero_part (words_each about) (start about g) ws blank);
    is_map = record { each = λ v id n. cc (name-nil v, n); only = λ id flags h. absurd h };
  };
  locks = record {
    sole = λ j k hs is h i p q a b e. absurd (nobody_holds j hs h p a);
    taken = λ g inside odd. absurd (let z = blank g in omega (arith, odd.1, z));
  };
  each = first;
}
  where
    nobody_holds : (j : ℕ) (hs : List Holding) (h : Holding)
        → get_elem? (map held_of (newcomer nothing about ∷ [])) j ≡ some hs → Has h hs → ⊥
    nobody_holds zero hs h e a = subst (Has h) (sym (some-injective [] hs e)) a
    nobody_holds (suc j) hs h e a = not_there hs e

    first : (j : ℕ) (v : V) → get_elem? (newcomer nothing about ∷ []) j ≡ some v → Viewed about [] ws v
    first zero v e = subst (Viewed about [] ws) (some-injective (newcomer nothing about) v e) (blank_viewed
        about [] ws (newcomer nothing about) refl)
    first (suc j) v e = absurd (not_there v e)

-- the same of a table of this width and number of flags
pub compact_starts_of : (width flags : ℕ) (about : About) (ws : List ℕ) → about.width ≡ width
    → about.flags ≡ flags → IsAbout (IsSized width flags) (compact_word_count width flags) about
    → length ws ≡ about.root_words
    → ((i : ℕ) → ◌≡◌ {A = ℕ} (get_or ws i 0) 0) → Compact about [] ws (newcomer nothing about ∷ [])
compact_starts_of width flags about ws wide many is = compact_starts about ws (subst (λ (p : ℕ
    × ℕ). IsAbout (IsSized p.0 p.1) (compact_word_count p.0 p.1) about) (λ i. (sym wide i, sym many i)) is)

pub even_or_odd : (n : ℕ) → IsEven n ⊎ IsOdd n
even_or_odd zero = inl (0, refl)
even_or_odd (suc n) = ⊎_elim (λ (e : IsEven n). inr (e.0, ap suc e.1)) (λ (o : IsOdd n). inl (
  suc o.0,
  omega (arith, o.1),
)) (even_or_odd n)

-- what a view of the list holds
pub held_there : (about : About) (log : History) (ws : List ℕ) (views : List V) → Compact about log ws views
    → (k : ℕ) (is : List Holding) (i : Holding) → get_elem? (map held_of views) k ≡ some is → Has i is
    → HoldsRegion about log ws i
held_there about log ws views p k is i e a = let u = at_unmap held_of views k is e in (p.each k u.0
    u.1).holds i (subst (Has i) (sym u.2) a)

-- each region has a map of its names: in its words, or in its holder's base
pub map_there : (about : About) (log : History) (ws : List ℕ) (views : List V) → Compact about log ws views
    → (g : ℕ) → g < regions about → (m : List (ℕ × ℕ)) × IsMapOf about g log m × (length m ≤ most about)
map_there about log ws views p g inside = ⊎_elim
    (λ (even : IsEven (lock_of ws g)). let f = p.free g inside even in (
      f.map,
      f.is_map,
      kept_few about (part about ws g) f.map f.keeps,
    ))
    (λ (odd : IsOdd (lock_of ws g)).
    let y = p.locks.taken g inside odd in
    let h = held_there about log ws views p y.0 y.1 y.2 y.3 y.4 in
    (y.2.base, subst (λ (k : ℕ). IsMapOf about k log y.2.base) y.5 h.base_is, h.few))
    (even_or_odd (lock_of ws g))

pub compact_few : (about : About) (log : History) (ws : List ℕ) (views : List V)
    → Compact about log ws views → IsLegal about.flags log → FewEach about (roots_of log)
compact_few about log ws views p legal = few_names about log p.is_about legal p.packed (map_there about log
    ws views p)

module _ (about : About) (log : History) (ws : List ℕ) (nodes : ℕ
    → ℕ) (views : List V) (id : ℕ) (v : V) (p : Compact about log ws views) (legal : IsLegal about.flags
    log) (e : get_elem? views id ≡ some v)
    (f : Fits about (λ h t. roots_of h) log nodes v) where
  part_of_log : IsPart (roots_of v.seen) (roots_of log)
  part_of_log = roots_more v.seen log f.seen

  packed_seen : (i pair : ℕ) → Has (i, pair) (roots_of v.seen) → IsPacked about i
  packed_seen i pair h = let o = (are_names about.flags log legal).only i pair (part_of_log i pair h) in
      p.packed o.1.0 i o.1.1

  pub compact_sounds : KnowsRegions about v
  compact_sounds = record {
    is_about = p.is_about;
    packed = packed_seen;
    few = few_front about (roots_of v.seen) (roots_of log) part_of_log (compact_few about log ws views p
        legal);
    idle = (p.each id v e).idle;
  }

  pub compact_houses : HousedInRegions about (roots_of v.seen)
  compact_houses = record {
    itself = λ i pair h. (
      ((are_names about.flags log legal).only i pair (part_of_log i pair h)).0,
      packed_seen i pair h,
    );
    few = few_front about (roots_of v.seen) (roots_of log) part_of_log (compact_few about log ws views p
        legal);
  }

pub knows_parent : (about : About) (v : V) → KnowsRegions about v → KnowsRegions about (parent_view v)
knows_parent about v k = record { is_about = k.is_about; packed = k.packed; few = k.few; idle = k.idle }

pub knows_child : (about : About) (v : V) → KnowsRegions about v
    → KnowsRegions about (child_view (λ t. nothing) v)
knows_child about v k = record { is_about = k.is_about; packed = k.packed; few = k.few; idle = λ b. refl }

pub compact_ids_below : (about : About) (v : V) → KnowsRegions about v → (id pair : ℕ)
    → Has (id, pair) (roots_of v.seen) → id < 4611686018427387904
compact_ids_below about v k id pair h =
    let low = k.packed id pair h in
    let most_wide : 2 * about.width ≤ 62 = let w = k.is_about.range.layout.1 in omega (arith, w) in
    let small = pow_mono most_wide in
    omega (arith, low, small)

pub roots_longer : (g h : History) → Extends g (longer g h) → Extends h (longer g h)
    → IsPart (roots_of g) (roots_of (longer g h)) × IsPart (roots_of h) (roots_of (longer g h))
roots_longer g h before after = (roots_more g (longer g h) before, roots_more h (longer g h) after)

pub roots_of_one : (g h : History) (id pair : ℕ) → Has (id, pair) (roots_of (longer g h))
    → Has (id, pair) (roots_of g) ⊎ Has (id, pair) (roots_of h)
roots_of_one g h id pair has = ⊎_elim
    (λ (t : (longer g h ≡ g) × (length h ≤ length g)). inl (subst (λ (x : History). Has (
      id,
      pair,
    ) (roots_of x)) t.0 has))
    (λ (t : (longer g h ≡ h) × (length g ≤ length h)). inr (subst (λ (x : History). Has (
      id,
      pair,
    ) (roots_of x)) t.0 has))
    (longer_is g h)
