-- The numbers at the positions of a vector's tree.
use Rattle.std.proofs.Common.{◌≡◌, ◌≢◌, ℕ, ◌+◌, ◌-◌, ◌*◌, ◌^◌, ◌<◌, ◌≤◌, List, [], ◌∷◌, length, set, get_or, sym, ◌∙◌, subst, ⊎_elim, arith, get_or-set_same, get_or-set_other}
use Rattle.std.proofs.lemmas.Nat.{shr_high, mod_low}
use Rattle.std.proofs.Math.Pow.{pow_mono}
use Rattle.std.proofs.lemmas.Bool.{cases_lt, cases_eq}
use Rattle.std.proofs.lemmas.Grind.{get_or_default_zero}
use lib.Seq.{drop-set-lt}
use Rattle.tree_shape.specs.Tree.{Has, IsPart, Stands, node}
use Rattle.tree_shape.proofs.Trees.{at_slot, at_pair, stands_more}
use Rattle.tdb_base.specs.History.{Vector}
use Rattle.packed_word.specs.Word.{pair_of}
use Rattle.pair_rule.specs.declared.view.View.{View}
use Rattle.pair_rule.specs.declared.sizes.About.{About}
use Rattle.pair_rule.specs.Paths.{size}
use Rattle.pair_rule.specs.Rest.{AreNodes}
use Rattle.pair_nodes.specs.Probe.{PutAt}
use Rattle.tree_store.specs.Vectors.{IsVector, IsInTree, slots_of, StandsFrom, Building}

-- a number at a position is small enough for a part of a pair
pub stands_small : (about : About) (nodes : List (ℕ × ℕ)) (v : Vector) (position x : ℕ) → AreNodes about nodes → about.sizes.nodes ≤ about.width → IsVector about v → position < 2 * about.slots
    → Stands about.width about.slots nodes v position x → x < 2 ^ about.width
unfolding size
stands_small about nodes v position x are fit vector inside stands = ⊎_elim
    (λ (inner : position < about.slots).
    let index = at_pair about.width about.slots nodes v position x inner stands in
    let below = (are.inside x index.0 index.1).0 in
    let room : 2 ^ about.sizes.nodes ≤ 2 ^ about.width = pow_mono fit in
    omega (arith, below, room))
    (λ (leaf : about.slots ≤ position).
    let is = at_slot about.width about.slots nodes v position x leaf stands in
    let below = vector.below (position - about.slots) 0 (omega (arith, vector.slots)) in
    subst (λ (n : ℕ). n < 2 ^ about.width) (sym is) below)
    (cases_lt position about.slots)

-- an index of a pair whose parts stand for what is below a position
pub stands_here : (width slots : ℕ) (nodes : List (ℕ × ℕ)) (v : Vector) (position index left right : ℕ) → position < slots → right < 2 ^ width → Has (index, pair_of width left right) nodes
    → Stands width slots nodes v (2 * position) left → Stands width slots nodes v (2 * position + 1) right → Stands width slots nodes v position index
stands_here width slots nodes v position index left right inner small has l r =
    node (pair_of width left right) inner has
    (subst (λ (n : ℕ). Stands width slots nodes v (2 * position) n) (sym (shr_high left width right small)) l)
    (subst (λ (n : ℕ). Stands width slots nodes v (2 * position + 1) n) (sym (mod_low left width right small)) r)

-- the tree with one position more
pub stands_from_more : (about : About) (v : Vector) (position index : ℕ) (nodes more : List (ℕ × ℕ)) (tree : List ℕ) → position < length tree → IsPart nodes more → StandsFrom about v (position + 1) nodes tree
    → Stands about.width about.slots more v position index → StandsFrom about v position more (set tree position index)
stands_from_more about v position index nodes more tree inside part from here q low high = ⊎_elim
    (λ (same : q ≡ position). subst (λ (n : ℕ). Stands about.width about.slots more v n (get_or (set tree position index) n 0)) (sym same)
    (subst (λ (n : ℕ). Stands about.width about.slots more v position n) (sym (get_or-set_same tree position index 0 inside)) here))
    (λ (other : q ≢ position). subst (λ (n : ℕ). Stands about.width about.slots more v q n) (sym (get_or-set_other tree position q index 0 other))
    (stands_more about.width about.slots nodes more v q (get_or tree q 0) part (from q (omega arith) high)))
    (cases_eq q position)

-- the slots are as they were
pub slots_same : (about : About) (tree : List ℕ) (position x : ℕ) → position < about.slots → slots_of about (set tree position x) ≡ slots_of about tree
slots_same about tree position x inner = drop-set-lt about.slots tree position x inner

module _ {T : Type 0} where
  -- one put of the node of a position
  pub built_one : (about : About) (v : Vector) (position index : ℕ) (old new : View T) → 2 ≤ position → position < about.slots → PutAt index 1 old new → Stands about.width about.slots new.known v position index → Building about v 1 old new
  built_one about v position index old new low high put stands = record {
    grown = put.grown;
    gained = ⊎_elim
        (λ (same : new.made ≡ old.made). record { more = []; made = same; few = omega arith; in_tree = λ i h. absurd h })
        (λ (one : (new.made ≡ index ∷ old.made) × ((pair : ℕ) → Has (index, pair) old.known → ⊥)). record {
          more = index ∷ [];
          made = one.0;
          few = omega arith;
          in_tree = λ i h. ⊎_elim
              (λ (is : i ≡ index). let found : IsInTree about new.known v i = (position, low, high, subst (λ (n : ℕ). Stands about.width about.slots new.known v position n) (sym is) stands) in found)
              (λ (no : ⊥). absurd no) h;
        })
        put.made;
    probes_are = put.probes_are;
  }

-- what is read at a position of the tree
pub read_tree : (about : About) (v : Vector) (nodes : List (ℕ × ℕ)) (tree : List ℕ) (first position x : ℕ) → length tree ≡ 2 * about.slots → StandsFrom about v first nodes tree → first ≤ position → position < 2 * about.slots
    → x ≡ get_or tree position x → Stands about.width about.slots nodes v position x
read_tree about v nodes tree first position x long from low high is =
    subst (λ (n : ℕ). Stands about.width about.slots nodes v position n) (sym (is ∙ get_or_default_zero tree position x (omega arith))) (from position low high)

-- a pass's nodes are those of its table
pub nodes_of : {T : Type 0} (about : About) (v : View T) → v.about ≡ about → AreNodes v.about v.known → AreNodes about v.known
nodes_of about v is are = subst (λ (a : About). AreNodes a v.known) is are

-- the node that was found or put for a position stands for its part of the vector
pub put_stands : {T : Type 0} {width : ℕ} {about : About} → about.sizes.nodes ≤ width → about.width ≡ width → (v w : View T) (tree : List ℕ) (position index left right : ℕ) → 2 ≤ position → position < about.slots
    → v.about ≡ about → AreNodes v.about v.known → length tree ≡ 2 * about.slots → IsVector about (slots_of about tree) → StandsFrom about (slots_of about tree) (position + 1) v.known tree
    → left ≡ get_or tree (2 * position) left → right ≡ get_or tree (2 * position + 1) right → IsPart v.known w.known → Has (index, pair_of width left right) w.known
    → Stands about.width about.slots w.known (slots_of about tree) position index
put_stands {T} {width} {about} fit same v w tree position index left right low high is nodes long vector from reads_left reads_right part has =
    let are = nodes_of about v is nodes in
    let vec = slots_of about tree in
    let l = read_tree about vec v.known tree (position + 1) (2 * position) left long from (omega arith) (omega arith) reads_left in
    let r = read_tree about vec v.known tree (position + 1) (2 * position + 1) right long from (omega arith) (omega arith) reads_right in
    let small = stands_small about v.known vec (2 * position + 1) right are (omega (arith, fit, same)) vector (omega arith) r in
    stands_here about.width about.slots w.known vec position index left right high small (subst (λ (n : ℕ). Has (index, pair_of n left right) w.known) (sym same) has)
    (stands_more about.width about.slots v.known w.known vec (2 * position) left part l) (stands_more about.width about.slots v.known w.known vec (2 * position + 1) right part r)
