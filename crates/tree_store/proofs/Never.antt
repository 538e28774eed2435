-- A vector for which there was no place never gets a name.
use Rattle.std.proofs.Common.{◌≡◌, ◌≢◌, ◌⊎◌, ℕ, zero, suc, ◌+◌, ◌*◌, ◌^◌, ◌<◌, ◌≤◌, List, Option, Some, None, refl, sym, ap, ◌∙◌, subst, inl, inr, ⊎_elim, arith}
use Rattle.std.proofs.lemmas.Nat.{shr_split}
use Rattle.std.proofs.lemmas.Bool.{cases_lt, cases_eq}
use Rattle.tree_shape.specs.Tree.{Has, left_part, right_part, Stands, RootStands}
use Rattle.tree_shape.proofs.Trees.{at_pair, stands_more, one_number}
use Rattle.tdb_base.specs.History.{Vector, name_of}
use Rattle.packed_word.specs.Word.{pair_of}
use Rattle.pair_rule.specs.declared.sizes.About.{About}
use Rattle.pair_rule.specs.declared.pass.PassOf.{PassOf}
use Rattle.pair_rule.specs.Paths.{node_buckets, bucket}
use Rattle.pair_rule.specs.Part.{Store, Part}
use Rattle.pair_rule.specs.Rest.{AtRest, view}
use Rattle.tdb_base.proofs.NameLemmas.{names-differ}
use Rattle.pair_nodes.specs.Roots.{Refusals}
use Rattle.tree_store.specs.Vectors.{IsBlockedInside}
use Rattle.tree_store.specs.Store.{HasBlockedRoot, NeverNamed}
use Rattle.tree_store.proofs.Positions.{nodes_of}

-- a number is twice another, or one more
pub halves : (n : ℕ) → (half : ℕ) × ((n ≡ 2 * half) ⊎ (n ≡ 2 * half + 1))
halves zero = (0, inl refl)
halves (suc n) =
    let h = halves n in
    ⊎_elim
    (λ (even : n ≡ 2 * h.0). let found : (half : ℕ) × ((suc n ≡ 2 * half) ⊎ (suc n ≡ 2 * half + 1)) = (h.0, inr (omega arith)) in found)
    (λ (odd : n ≡ 2 * h.0 + 1). let found : (half : ℕ) × ((suc n ≡ 2 * half) ⊎ (suc n ≡ 2 * half + 1)) = (h.0 + 1, inl (omega arith)) in found)
    h.1

module _ (width slots : ℕ) (nodes : List (ℕ × ℕ)) (v : Vector) where
  abbrev HasNumber : ℕ → Type 0
  HasNumber position = (x : ℕ) × Stands width slots nodes v position x

  -- each position of a tree whose root pair stands has its number
  pub all_stand : (pair : ℕ) → RootStands width slots nodes pair v → (most position : ℕ) → position ≤ most → 2 ≤ position → position < 2 * slots → (x : ℕ) × Stands width slots nodes v position x
  all_stand pair root zero position le low high = absurd (omega arith)
  all_stand pair root (suc most) position le low high =
      ⊎_elim
      (λ (first : position < 4).
      ⊎_elim
      (λ (two : position ≡ 2). subst HasNumber (sym two) (let found : HasNumber 2 = (left_part width pair, root.0) in found))
      (λ (other : position ≢ 2). subst HasNumber (let three : 3 ≡ position = omega arith in three) (let found : HasNumber 3 = (right_part width pair, root.1) in found))
      (cases_eq position 2))
      (λ (later : 4 ≤ position).
      let h = halves position in
      let inner : h.0 < slots = ⊎_elim (λ (even : position ≡ 2 * h.0). let r : h.0 < slots = omega arith in r) (λ (odd : position ≡ 2 * h.0 + 1). let r : h.0 < slots = omega arith in r) h.1 in
      let below : h.0 ≤ most = ⊎_elim (λ (even : position ≡ 2 * h.0). let r : h.0 ≤ most = omega arith in r) (λ (odd : position ≡ 2 * h.0 + 1). let r : h.0 ≤ most = omega arith in r) h.1 in
      let above : 2 ≤ h.0 = ⊎_elim (λ (even : position ≡ 2 * h.0). let r : 2 ≤ h.0 = omega arith in r) (λ (odd : position ≡ 2 * h.0 + 1). let r : 2 ≤ h.0 = omega arith in r) h.1 in
      let x = all_stand pair root most h.0 below above (omega (arith, inner)) in
      let index = at_pair width slots nodes v h.0 x.0 inner x.1 in
      ⊎_elim
      (λ (even : position ≡ 2 * h.0). subst HasNumber (sym even) (let found : HasNumber (2 * h.0) = (left_part width index.0, index.2) in found))
      (λ (odd : position ≡ 2 * h.0 + 1). subst HasNumber (sym odd) (let found : HasNumber (2 * h.0 + 1) = (right_part width index.0, index.3) in found))
      h.1)
      (cases_lt position 4)

-- not where a pair inside the vector's tree has no place,
pub inside_never_named : {T : Type 0} (part : Part T) (store : Store) (p : PassOf T) (v : Vector) → IsBlockedInside store.about (view p).known v → NeverNamed part store p v
inside_never_named part store p v b q rq known roots = by (name_of (view q).seen v) refl
  where
    by : (o : Option ℕ) → name_of (view q).seen v ≡ o → o ≡ None
    by None t = refl
    by (Some id) t =
        let s = rq.seat.sound in
        let is = rq.seat.about_is in
        let nodes = (view q).known in
        let k = s.named.each v id t in
        let m = s.named.only id k.0 k.1 in
        let same = names-differ (view q).about.flags (view q).seen s.legal m.0 v id m.1 t in
        let theirs : RootStands store.about.width store.about.slots nodes k.0 v =
        subst (λ (y : About). RootStands y.width y.slots nodes k.0 v) is (subst (λ (u : Vector). RootStands (view q).about.width (view q).about.slots nodes k.0 u) same m.2) in
        let x = all_stand store.about.width store.about.slots nodes v k.0 theirs b.position b.position (omega arith) b.inner.0 (omega (arith, b.inner)) in
        let index = at_pair store.about.width store.about.slots nodes v b.position x.0 b.inner.1 x.1 in
        let lefts = one_number store.about.width store.about.slots nodes s.nodes.naming v (2 * b.position) (left_part store.about.width index.0) b.left index.2 (stands_more store.about.width store.about.slots (view p).known nodes v (2 * b.position) b.left known b.left_stands) in
        let rights = one_number store.about.width store.about.slots nodes s.nodes.naming v (2 * b.position + 1) (right_part store.about.width index.0) b.right index.3 (stands_more store.about.width store.about.slots (view p).known nodes v (2 * b.position + 1) b.right known b.right_stands) in
        let pair_is : index.0 ≡ pair_of store.about.width b.left b.right = sym (shr_split index.0 store.about.width) ∙ (λ i. lefts i * 2 ^ store.about.width + rights i) in
        let path = (nodes_of store.about (view q) is s.nodes).on_path x.0 index.0 index.1 in
        let other = b.blocked path.0 path.1 in
        let here : bucket (node_buckets store.about) (pair_of store.about.width b.left b.right) path.0 ≡ x.0 = ap (λ (n : ℕ). bucket (node_buckets store.about) n path.0) (sym pair_is) ∙ path.2 in
        let there : Has (x.0, other.0) nodes = subst (λ (i : ℕ). Has (i, other.0) nodes) here (known (bucket (node_buckets store.about) (pair_of store.about.width b.left b.right) path.0) other.0 other.1) in
        absurd (other.2 (s.nodes.naming.one_pair x.0 other.0 index.0 there index.1 ∙ pair_is))

-- and not where its root has none
pub root_never_named : {T : Type 0} (part : Part T) → Refusals part → (store : Store) (p : PassOf T) (v : Vector) → AtRest part store p → HasBlockedRoot part store.about (view p) v → NeverNamed part store p v
root_never_named part refusals store p v rp b q rq known roots = refusals.for_good store p q b.0 v rp rq known roots b.1 b.2
