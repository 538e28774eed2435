-- What the rule says of one view by itself, and of the view of all passes that there are.
use Rattle.std.proofs.Common.{◌≡◌, ◌≢◌, ◌⊎◌, ℕ, zero, suc, ◌<◌, List, [], ◌∷◌, ◌++◌, map, Bool, true, false, refl, sym, ap, ◌∙◌, subst, inl, inr, ⊎_elim, arith}
use mathlib.Core.Option.{some}
use lib.ListN.{get_elem?}
use Rattle.atomic_table.specs.Table.{State}
use Rattle.atomic_table.proofs.Lists.{at_map}
use Rattle.tree_shape.specs.Tree.{Has}
use Rattle.tdb_base.specs.History.{History, calls}
use Rattle.pair_rule.specs.declared.view.View.{View}
use Rattle.pair_rule.specs.declared.sizes.About.{About}
use Rattle.pair_rule.specs.Numbers.{child, Face}
use Rattle.pair_rule.specs.View.{face, made_of}
use Rattle.pair_rule.specs.Paths.{node_buckets, size, bucket, OnPath, Listed}
use Rattle.pair_rule.specs.Rule.{IsNode, at, HasPair, Numbers, StoreRule}
use Rattle.pair_rule.specs.Rest.{AreNodes, Whole}
use Rattle.pair_rule.proofs.Lists.{get_one, at_unmap}
use Rattle.pair_rule.proofs.Census.{child_above}
use Rattle.pair_rule.proofs.Buckets.{stands, one_bucket}

pub node_one : (n x y : ℕ) → IsNode n x → IsNode n y → x ≡ y
node_one n x y p q = omega (arith, p, q)

pub node_used : (x : ℕ) → IsNode 0 x → ⊥
node_used x p = omega (arith, p)

either_bool : (b : Bool) → (b ≡ true) ⊎ (b ≡ false)
either_bool true = inl refl
either_bool false = inr refl

-- every number is the whole view's: by induction on a bound
all_numbers : (faces : List Face) → Numbers faces → (id : ℕ) (f : Face) → get_elem? faces id ≡ some f → Has 0 f.numbers → ((c : ℕ) → Has c f.born → Has c f.numbers)
    → (bound c j : ℕ) (g : Face) → c < bound → get_elem? faces j ≡ some g → Has c g.numbers → Has c f.numbers
all_numbers faces ok id f e first all zero c j g below p has = absurd (omega arith)
all_numbers faces ok id f e first all (suc bound) c j g below p has = ⊎_elim
    (λ (z : c ≡ 0). subst (λ (n : ℕ). Has n f.numbers) (sym z) first)
    (λ (y : (k : ℕ) × (u : Face) × (q : ℕ) × (n : ℕ) × (get_elem? faces k ≡ some u) × (c ≡ child q n) × Has q u.numbers × Has c u.born).
    let up = child_above y.2 y.3 in
    let parent = all_numbers faces ok id f e first all bound y.2 y.0 y.1 (omega (arith, y.5, up)) y.4 y.6 in
    let here : y.0 ≡ id = ok.sole y.2 y.0 id y.1 f y.4 e y.6 parent in
    let same : y.1 ≡ f = get_one faces id y.1 f (subst (λ (m : ℕ). get_elem? faces m ≡ some y.1) here y.4) e in
    all c (subst (λ (u : Face). Has c u.born) same y.7))
    (ok.parents c j g p has)

module _ {T : Type 0} (S : Type 0) (about : About) (roots : About → History → T → List (ℕ × ℕ)) (root : History → List ℕ → List (View T) → Type 0) where
  abbrev pub Rule : State S (View T) → Type 0
  Rule = StoreRule about (roots about) root

  -- the bucket of a node that some view knows
  pub node_stands : (s : State S (View T)) (r : Rule s) (id : ℕ) (v : View T) → get_elem? s.views id ≡ some v → (i pair : ℕ) → Has (i, pair) v.known → HasPair (node_buckets about) IsNode (at s.words) i pair
  node_stands s r id v e i pair h = let k = (r.each id v e).known i pair h in stands (node_buckets about) IsNode node_one node_used (at s.words) i pair r.nodes k.0 k.1

  -- what views know together is a naming of pairs
  pub nodes_of : (s : State S (View T)) (r : Rule s) (known : List (ℕ × ℕ)) → ((i pair : ℕ) → Has (i, pair) known → HasPair (node_buckets about) IsNode (at s.words) i pair × (i < size (node_buckets about))) → AreNodes about known
  nodes_of s r known all = record {
    naming = record {
      one_pair = λ i x y h k. node_one (at s.words i) x y (all i x h).0.there (all i y k).0.there;
      one_index = λ i k x h l. one_bucket (node_buckets about) IsNode node_one node_used (at s.words) i k x (all i x h).0 (all k x l).0;
    };
    inside = λ i x h. ((all i x h).1, (all i x h).0.is_pair);
    on_path = λ i x h. let o = (all i x h).0.on_path in (o.step, o.within, o.here);
  }

  pub view_nodes : (s : State S (View T)) (r : Rule s) (id : ℕ) (v : View T) → get_elem? s.views id ≡ some v → AreNodes about v.known
  view_nodes s r id v e = nodes_of s r v.known (λ i pair h. (node_stands s r id v e i pair h, ((r.each id v e).known i pair h).0))

  module _ (s : State S (View T)) (r : Rule s) (id : ℕ) (v : View T) (e : get_elem? s.views id ≡ some v) (whole : Whole v) where
    -- no other pass has a number
    whole_numbers : (c j : ℕ) (u : View T) → get_elem? s.views j ≡ some u → Has c u.numbers → Has c v.numbers
    whole_numbers c j u p has = all_numbers (map face s.views) r.numbers id (face v) (at_map face s.views id v e) whole.first whole.all (suc c) c j (face u) (omega arith) (at_map face s.views j u p) has

    -- no other view is some pass's
    only_live : (j : ℕ) (u : View T) → get_elem? s.views j ≡ some u → u.live ≡ true → j ≡ id
    only_live j u p live =
        let mine = r.numbers.mine j (face u) (at_map face s.views j u p) live in
        r.numbers.sole u.number j id (face u) (face v) (at_map face s.views j u p) (at_map face s.views id v e) mine (whole_numbers u.number j u p mine)

    pub whole_callers : (c : ℕ) → (Has c v.numbers → ⊥) → calls r.log c ≡ []
    whole_callers c never = r.callers c (λ j f p has. let u = at_unmap face s.views j f p in never (whole_numbers c j u.0 u.1 (subst (λ (g : Face). Has c g.numbers) (sym u.2) has)))

    pub whole_made : (i : ℕ) → i < size (node_buckets about) → at s.words i ≢ 0 → Has i v.made
    whole_made i inside used =
        let m = r.made.all i inside used in
        let u = at_unmap made_of s.views m.0 m.1 m.2 in
        let has : Has i u.0.made = subst (Has i) (sym u.2) m.3 in
        ⊎_elim
        (λ (live : u.0.live ≡ true). let same : u.0 ≡ v = get_one s.views id u.0 v (subst (λ (n : ℕ). get_elem? s.views n ≡ some u.0) (only_live m.0 u.0 u.1 live) u.1) e in subst (λ (w : View T). Has i w.made) same has)
        (λ (spent : u.0.live ≡ false). absurd (subst (Has i) ((r.each m.0 u.0 u.1).spent spent).0 has))
        (either_bool u.0.live)

    -- it has seen all
    pub whole_seen : v.seen ≡ r.log
    whole_seen =
        let u = r.holder.1 in
        ⊎_elim
        (λ (live : u.live ≡ true). let same : u ≡ v = get_one s.views id u v (subst (λ (n : ℕ). get_elem? s.views n ≡ some u) (only_live r.holder.0 u r.holder.2 live) r.holder.2) e in ap (λ (w : View T). w.seen) (sym same) ∙ r.holder.3)
        (λ (spent : u.live ≡ false).
        let none : r.log ≡ [] = sym r.holder.3 ∙ ((r.each r.holder.0 u r.holder.2).spent spent).1 in
        let front = (r.each id v e).seen in
        nothing v.seen front.more (sym none ∙ front.whole) ∙ sym none)
        (either_bool u.live)
      where
        nothing : (h more : History) → [] ≡ h ++ more → h ≡ []
        nothing [] more z = refl
        nothing (x ∷ h) more z = cc z

    -- and each earlier bucket of a node's path is one of its nodes
    pub whole_paths : (i pair : ℕ) → Has (i, pair) v.known → OnPath (node_buckets about) (Listed v.known) i pair
    whole_paths i pair h =
        let o = (node_stands s r id v e i pair h).on_path in
        record {
          step = o.step;
          within = o.within;
          here = o.here;
          passed = λ step lt.
              let p = o.passed step lt in
              let k : ℕ = bucket (node_buckets about) pair step in
              let inside = Rattle.pair_rule.proofs.Buckets.bucket_below (node_buckets about) pair step r.least_nodes in
              let made = whole_made k inside (λ z. node_used p.0 (subst (λ (n : ℕ). IsNode n p.0) z p.1)) in
              let known = (r.each id v e).made k made in
              (p.0, subst (λ (x : ℕ). Has (k, x) v.known) (node_one (at s.words k) known.0 p.0 ((r.each id v e).known k known.0 known.1).1 p.1) known.1, p.2);
        }
