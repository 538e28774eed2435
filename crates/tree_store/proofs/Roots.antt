-- The root pair of a tree that was put, and the tree as the last one of a pass.
use Rattle.std.proofs.Common.{◌≡◌, ℕ, ◌*◌, ◌^◌, ◌<◌, ◌≤◌, List, length, get_or, true, sym, subst, arith, get_or-drop}
use Rattle.std.proofs.lemmas.Nat.{shr_high, mod_low}
use Rattle.tree_shape.specs.Tree.{IsPart, Stands, RootStands}
use Rattle.tree_shape.proofs.Trees.{stands_more}
use Rattle.tdb_base.specs.History.{Vector}
use Rattle.packed_word.specs.Word.{pair_of}
use Rattle.pair_rule.specs.declared.view.View.{View}
use Rattle.pair_rule.specs.declared.sizes.About.{About}
use Rattle.pair_rule.specs.declared.pass.PassOf.{PassOf}
use Rattle.pair_rule.specs.Part.{Store, Part}
use Rattle.pair_rule.specs.Rest.{AreNodes, AtRest, view}
use Rattle.tree_store.specs.Vectors.{IsVector, slots_of, StandsFrom}
use Rattle.tree_store.proofs.Positions.{stands_small, read_tree, nodes_of}

-- two numbers are the parts of the vector's root pair
pub record RootRead (about : About) (nodes : List (ℕ × ℕ)) (v : Vector) (left right : ℕ) : Type 0 where
  pub left_small : left < 2 ^ about.width
  pub right_small : right < 2 ^ about.width
  pub stands : RootStands about.width about.slots nodes (pair_of about.width left right) v

pub root_read : {T : Type 0} (about : About) (v : View T) (tree : List ℕ) (left right : ℕ) → about.sizes.nodes ≤ about.width → 2 ≤ about.slots → v.about ≡ about → AreNodes v.about v.known
    → length tree ≡ 2 * about.slots → IsVector about (slots_of about tree) → StandsFrom about (slots_of about tree) 2 v.known tree → left ≡ get_or tree 2 left → right ≡ get_or tree 3 right → RootRead about v.known (slots_of about tree) left right
root_read about v tree left right fits two is nodes long vector from reads_left reads_right =
    let are = nodes_of about v is nodes in
    let vec = slots_of about tree in
    let l = read_tree about vec v.known tree 2 2 left long from (omega arith) (omega arith) reads_left in
    let r = read_tree about vec v.known tree 2 3 right long from (omega arith) (omega arith) reads_right in
    let small_left = stands_small about v.known vec 2 left are fits vector (omega arith) l in
    let small_right = stands_small about v.known vec 3 right are fits vector (omega arith) r in
    record {
      left_small = small_left;
      right_small = small_right;
      stands = (
        subst (λ (n : ℕ). Stands about.width about.slots v.known vec 2 n) (sym (shr_high left about.width right small_right)) l,
        subst (λ (n : ℕ). Stands about.width about.slots v.known vec 3 n) (sym (mod_low left about.width right small_right)) r,
      );
    }

pub root_stands_more : (width slots : ℕ) (nodes more : List (ℕ × ℕ)) (pair : ℕ) (v : Vector) → IsPart nodes more → RootStands width slots nodes pair v → RootStands width slots more pair v
root_stands_more width slots nodes more pair v part s = (stands_more width slots nodes more v 2 _ part s.0, stands_more width slots nodes more v 3 _ part s.1)

-- the tree stands with more nodes
pub stands_from_grown : (about : About) (v : Vector) (first : ℕ) (nodes more : List (ℕ × ℕ)) (tree : List ℕ) → IsPart nodes more → StandsFrom about v first nodes tree → StandsFrom about v first more tree
stands_from_grown about v first nodes more tree part from position low high = stands_more about.width about.slots nodes more v position (get_or tree position 0) part (from position low high)

-- a pass rests when the tree that was put became its last one
pub rests_kept : {T : Type 0} (part : Part T) (store : Store) (p : PassOf T)
    → AtRest part store p → IsVector store.about (slots_of store.about p.next_tree.items) → StandsFrom store.about (slots_of store.about p.next_tree.items) 2 (view p).known p.next_tree.items
    → AtRest part store (record p { last_tree = p.next_tree; next_tree = p.last_tree; has_last = true })
rests_kept part store p r vector from = record {
  seat = r.seat;
  last_length = r.next_length;
  next_length = r.last_length;
  marks_length = r.marks_length;
  last = λ has position low high. from position low high;
  last_slots = λ has slot low. subst (λ (n : ℕ). n < 2 ^ store.about.width) (get_or-drop store.about.slots p.next_tree.items slot 0) (vector.below slot 0 (omega (arith, vector.slots)));
  nodes_count = r.nodes_count;
  names_count = r.names_count;
}
