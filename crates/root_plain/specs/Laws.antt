-- The plain rule is kept by the steps on nodes, and where passes are made, split and joined; and what it
-- tells of a view.
use Rattle.std.proofs.Common.{◌≡◌, ◌⊎◌, ℕ, zero, suc, ◌<◌, List, [], ◌∷◌, ◌++◌, set, get_or, false, Some, sym}
use Rattle.std.proofs.Common.{subst, inl, ⊎_elim, arith}
use Rattle.std.proofs.lemmas.Nat.{pow_below}
use mathlib.Core.Option.{some, some-injective}
use lib.ListN.{get_elem?}
use Rattle.tree_shape.specs.Tree.{Has, IsPart}
use Rattle.tdb_base.specs.History.{History, name_of}
use Rattle.tdb_base.proofs.NameLemmas.{name-nil}
use Rattle.pair_rule.specs.declared.view.View.{View}
use Rattle.pair_rule.specs.declared.sizes.About.{About}
use Rattle.pair_rule.specs.View.{Grown, parent_view, child_view, joining_view, newcomer, nobody}
use Rattle.pair_rule.specs.Paths.{root_buckets, size, Listed}
use Rattle.pair_rule.specs.Rule.{Fits}
use Rattle.pair_rule.specs.Rest.{FillsPaths}
use Rattle.pair_rule.proofs.Lists.{has_front, has_back, has_either, each_set, each_snoc, not_there}
use Rattle.pair_rule.proofs.Buckets.{bucket_below, stands}
use Rattle.root_plain.specs.declared.root.Roots.{Roots}
use Rattle.root_plain.specs.Plain.{nothing_known, both_roots, IsPlain, IsRoot, root_at, Plain, LiesOnPaths}
use Rattle.root_plain.specs.Words.{root_one, root_used}

abbrev V : Type 0
V = View Roots

-- what the root words say of one view
abbrev Rooted : About → List ℕ → V → Type 0
Rooted about ws v = (id pair : ℕ) → Has (id, pair) v.root.roots
    → (id < size (root_buckets about)) × IsRoot about (root_at ws id) pair

with_roots : (about : About) (log : History) (ws : List ℕ) (views others : List V) → Plain about log ws views
    → ((j : ℕ) (v : V) → get_elem? others j ≡ some v → Rooted about ws v) → Plain about log ws others
with_roots about log ws views others p each =
    record { is_about = p.is_about; filled = p.filled; used = p.used; names = p.names; roots = each }

pub plain_keeps : (about : About) (log : History) (ws : List ℕ) (views : List V) (id : ℕ) (v w : V)
    → Plain about log ws views → get_elem? views id ≡ some v → Grown v w → Plain about log ws (set views id w)
plain_keeps about log ws views id v w p e g = with_roots about log ws views (set views id w) p
    (each_set (λ (j : ℕ) (u : V). Rooted about ws u) views id w p.roots
    (subst (λ (t : Roots). (k pair : ℕ) → Has (k, pair) t.roots
    → (k < size (root_buckets about)) × IsRoot about (root_at ws k) pair) (sym g.root) (p.roots id v e)))

pub plain_keeps_split : (about : About) (log : History) (ws : List ℕ) (views : List V) (id : ℕ) (v : V)
    → Plain about log ws views → get_elem? views id ≡ some v
    → Plain about log ws (set views id (parent_view v) ++ child_view (λ t. t) v ∷ [])
plain_keeps_split about log ws views id v p e =
    with_roots about log ws views (set views id (parent_view v) ++ child_view (λ t. t) v ∷ []) p
    (each_snoc (λ (u : V). Rooted about ws u) (set views id (parent_view v)) (child_view (λ t. t) v)
    (each_set (λ (j : ℕ) (u : V). Rooted about ws u) views id (parent_view v) p.roots (p.roots id v e))
    (p.roots id v e))

both_rooted : (about : About) (ws : List ℕ) (t u : Roots) (id pair : ℕ)
    → (Has (id, pair) t.roots → (id < size (root_buckets about)) × IsRoot about (root_at ws id) pair)
    → (Has (id, pair) u.roots → (id < size (root_buckets about)) × IsRoot about (root_at ws id) pair)
    → Has (id, pair) (t.roots ++ u.roots)
    → (id < size (root_buckets about)) × IsRoot about (root_at ws id) pair
both_rooted about ws t u id pair p q h = ⊎_elim p q (has_either (id, pair) t.roots u.roots h)

pub plain_keeps_join : (about : About) (log : History) (ws : List ℕ) (views : List V) (nodes : ℕ → ℕ)
    (id other : ℕ) (v w : V) → Plain about log ws views → get_elem? views id ≡ some v
    → get_elem? views other ≡ some w → ¬ (other ≡ id)
    → v.busy ≡ false → w.busy ≡ false → Fits about (λ h t. t.roots) log nodes v
    → Fits about (λ h t. t.roots) log nodes w
    → Plain about log ws (set (set views id (joining_view both_roots v w)) other (nobody nothing_known))
plain_keeps_join about log ws views nodes id other v w p e f apart idle rest fits fits_too =
    with_roots about log ws views
    (set (set views id (joining_view both_roots v w)) other (nobody nothing_known)) p
    (each_set (λ (j : ℕ) (u : V). Rooted about ws u) (set views id (joining_view both_roots v w)) other
    (nobody nothing_known)
    (each_set (λ (j : ℕ) (u : V). Rooted about ws u) views id (joining_view both_roots v w) p.roots
    (λ k pair h. both_rooted about ws v.root w.root k pair (p.roots id v e k pair)
    (p.roots other w f k pair) h))
    (λ k pair h. absurd h))

pub plain_starts : (about : About) (ws : List ℕ) → IsPlain about → ((i : ℕ) → ◌≡◌ {A = ℕ} (get_or ws i 0) 0)
    → Plain about [] ws (newcomer nothing_known about ∷ [])
plain_starts about ws is blank = record {
  is_about = is;
  filled = λ i inside. inl (blank i);
  used = λ i inside used. absurd (used (blank i));
  names = λ v id n. cc (name-nil v, n);
  roots = first;
}
  where
    first : (j : ℕ) (v : V) → get_elem? (newcomer nothing_known about ∷ []) j ≡ some v → Rooted about ws v
    first zero v e = subst (Rooted about ws) (some-injective (newcomer nothing_known about) v e)
        (λ id pair h. absurd h)
    first (suc j) v e = absurd (not_there v e)

pub plain_sounds : (about : About) (log : History) (ws : List ℕ) (views : List V) (id : ℕ) (v : V)
    → Plain about log ws views → get_elem? views id ≡ some v → LiesOnPaths about v
plain_sounds about log ws views id v p e = record {
  is_about = p.is_about;
  lies = λ i pair h.
      let k = p.roots id v e i pair h in
      let s = stands (root_buckets about) (IsRoot about) (root_one about) (root_used about)
      (root_at ws) i pair p.filled k.0 k.1 in
      record {
        inside = k.0;
        is_pair = s.is_pair;
        step = s.on_path.step;
        within = s.on_path.within;
        here =
            s.on_path.here;
      };
}

pub plain_houses : (about : About) (log : History) (ws : List ℕ) (nodes : ℕ → ℕ) (views : List V) (id : ℕ)
    (v : V) → Plain about log ws views → get_elem? views id ≡ some v → Fits about (λ h t. t.roots) log nodes v
    → v.seen ≡ log
    → FillsPaths (root_buckets about) v.root.roots
plain_houses about log ws nodes views id v p e fits all i pair h =
    let k = p.roots id v e i pair h in
    let o = (stands (root_buckets about) (IsRoot about) (root_one about) (root_used about)
    (root_at ws) i pair p.filled k.0 k.1).on_path in
    record {
      step = o.step;
      within = o.within;
      here = o.here;
      passed = λ step lt.
          let q = o.passed step lt in
          let at : ℕ = Rattle.pair_rule.specs.Paths.bucket (root_buckets about) pair step in
          let inside = bucket_below (root_buckets about) pair step p.is_about.range.roots.0 in
          let u = p.used at inside (λ z. root_used about q.0 (subst (λ (n : ℕ). IsRoot about n q.0) z q.1)) in
          let known = fits.named.each u.0 at
          (subst (λ (x : History). name_of x u.0 ≡ Some at) (sym all) u.1) in
          let there = p.roots id v e at known.0 known.1 in (
            q.0,
            subst (λ (x : ℕ). Has (at, x) v.root.roots)
                (root_one about (root_at ws at) known.0 q.0 there.1 q.1) known.1,
            q.2,
          );
    }

pub told_same : (about : About) (v w : V) → w.root ≡ v.root → LiesOnPaths about v → LiesOnPaths about w
told_same about v w same t =
    record {
      is_about = t.is_about;
      lies =
          λ id pair h. t.lies id pair (subst (λ (r : Roots). Has (id, pair) r.roots) same h);
    }

pub plain_ids_below : (about : About) (v : V) → LiesOnPaths about v → (id pair : ℕ) → Has (id, pair) v.root.roots
    → id < 4611686018427387904
unfolding size
plain_ids_below about v t id pair h = let l = (t.lies id pair h).inside in let small =
    pow_below about.sizes.roots 62 (let most = t.is_about.range.roots.1 in omega arith) in omega
    (arith, l, small)

pub roots_both : (t u : Roots) → IsPart t.roots (t.roots ++ u.roots) × IsPart u.roots (t.roots ++ u.roots)
roots_both t u = ((λ i x h. has_front (i, x) t.roots u.roots h), (λ i x h. has_back (i, x) t.roots u.roots h))

pub roots_either : (t u : Roots) (id pair : ℕ) → Has (id, pair) (t.roots ++ u.roots)
    → Has (id, pair) t.roots ⊎ Has (id, pair) u.roots
roots_either t u id pair h = has_either (id, pair) t.roots u.roots h
