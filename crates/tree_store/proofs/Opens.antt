-- A tree is read from its root pair down.
use Rattle.std.proofs.Common.{refl, ◌≡◌, ◌≢◌, ℕ, ◌+◌, ◌-◌, ◌*◌, ◌^◌, ◌<◌, ◌≤◌, List, length, set, get_or, Some, sym, ap, ◌∙◌, subst, ⊎_elim, arith, get_or-set_same, get_or-set_other, length-set, length-drop}
use Rattle.std.proofs.lemmas.Nat.{shr_high, mod_low}
use Rattle.std.proofs.lemmas.Bool.{cases_eq}
use Rattle.std.proofs.lemmas.List.{get_or-drop}
use Rattle.std.proofs.lemmas.Grind.{get_or_default_zero, same_number_lists}
use Rattle.tree_shape.specs.Tree.{Has, IsNaming, IsPart, left_part, right_part, Stands, RootStands}
use Rattle.tree_shape.proofs.Trees.{at_slot, at_pair, stands_more}
use Rattle.tdb_base.specs.History.{Vector, History, name_of}
use Rattle.packed_word.specs.Word.{pair_of}
use Rattle.pair_rule.specs.declared.view.View.{View}
use Rattle.pair_rule.specs.declared.sizes.About.{About}
use Rattle.pair_rule.specs.declared.pass.PassOf.{PassOf}
use Rattle.pair_rule.specs.View.{Grown}
use Rattle.pair_rule.specs.Rest.{AtRest, view}
use Rattle.pair_nodes.specs.Probe.{Probed}
use Rattle.pair_nodes.proofs.Views.{grown_trans}
use Rattle.pair_rule.specs.Part.{Store, Part, root_pairs}
use Rattle.pair_rule.specs.Plays.{Caught}
use Rattle.tree_store.specs.Vectors.{slots_of, StandsTo, KeepsLast}
use Rattle.tree_store.specs.Reading.{PutsNone}
use Rattle.tree_store.proofs.Inserts.{last_kept}
use Rattle.tree_store.specs.Store.{Advanced}

-- what is read at an inner position stands there
pub opened_number : (about : About) (v : Vector) (nodes : List (ℕ × ℕ)) (tree : List ℕ) (end position x : ℕ) → position < length tree → 2 ≤ position → position < end → StandsTo about v end nodes tree
    → x ≡ get_or tree position x → Stands about.width about.slots nodes v position x
opened_number about v nodes tree end position x inside low before stands is =
    subst (λ (n : ℕ). Stands about.width about.slots nodes v position n) (sym (is ∙ get_or_default_zero tree position x inside)) (stands position low before)

module _ (about : About) (width : ℕ) (is : about.width ≡ width) (v : Vector) (nodes : List (ℕ × ℕ)) (left right : ℕ) (small : right < 2 ^ width) where
  abbrev BothStand : ℕ → Type 0
  BothStand position = Stands about.width about.slots nodes v (2 * position) left × Stands about.width about.slots nodes v (2 * position + 1) right

  -- two parts stand where those of their pair do
  both_stand : (position : ℕ) → Stands about.width about.slots nodes v (2 * position) (left_part about.width (pair_of width left right))
      → Stands about.width about.slots nodes v (2 * position + 1) (right_part about.width (pair_of width left right)) → Stands about.width about.slots nodes v (2 * position) left × Stands about.width about.slots nodes v (2 * position + 1) right
  both_stand position l r = (
    subst (λ (n : ℕ). Stands about.width about.slots nodes v (2 * position) n) (ap (λ (w : ℕ). left_part w (pair_of width left right)) is ∙ shr_high left width right small) l,
    subst (λ (n : ℕ). Stands about.width about.slots nodes v (2 * position + 1) n) (ap (λ (w : ℕ). right_part w (pair_of width left right)) is ∙ mod_low left width right small) r,
  )

  -- below the root
  pub root_parts : RootStands about.width about.slots nodes (pair_of width left right) v → Stands about.width about.slots nodes v 2 left × Stands about.width about.slots nodes v 3 right
  root_parts stands = both_stand 1 stands.0 stands.1

  -- below an inner position whose pair was looked up
  pub opened_parts : (position x : ℕ) → IsNaming nodes → position < about.slots → Stands about.width about.slots nodes v position x → Has (x, pair_of width left right) nodes
      → Stands about.width about.slots nodes v (2 * position) left × Stands about.width about.slots nodes v (2 * position + 1) right
  opened_parts position x naming inner stands has =
      let index = at_pair about.width about.slots nodes v position x inner stands in
      let same : index.0 ≡ pair_of width left right = naming.one_pair x index.0 (pair_of width left right) index.1 has in
      both_stand position (subst (λ (n : ℕ). Stands about.width about.slots nodes v (2 * position) (left_part about.width n)) same index.2)
      (subst (λ (n : ℕ). Stands about.width about.slots nodes v (2 * position + 1) (right_part about.width n)) same index.3)

-- the tree with the parts of one pair more
pub stands_to_more : (about : About) (v : Vector) (position left right : ℕ) (nodes more : List (ℕ × ℕ)) (tree : List ℕ) → 2 * position + 1 < length tree → IsPart nodes more
    → Stands about.width about.slots more v (2 * position) left × Stands about.width about.slots more v (2 * position + 1) right → StandsTo about v (2 * position) nodes tree
    → StandsTo about v (2 * position + 2) more (set (set tree (2 * position) left) (2 * position + 1) right)
stands_to_more about v position left right nodes more tree inside part both stands q low high = ⊎_elim
    (λ (same : q ≡ 2 * position + 1). subst (λ (n : ℕ). Stands about.width about.slots more v n (get_or (set first (2 * position + 1) right) n 0)) (sym same)
    (subst (λ (n : ℕ). Stands about.width about.slots more v (2 * position + 1) n) (sym (get_or-set_same first (2 * position + 1) right 0 (let long = length-set tree (2 * position) left in omega (arith, long)))) both.1))
    (λ (other : q ≢ 2 * position + 1). subst (λ (n : ℕ). Stands about.width about.slots more v q n) (sym (get_or-set_other first (2 * position + 1) q right 0 other))
    (⊎_elim
    (λ (same : q ≡ 2 * position). subst (λ (n : ℕ). Stands about.width about.slots more v n (get_or first n 0)) (sym same)
    (subst (λ (n : ℕ). Stands about.width about.slots more v (2 * position) n) (sym (get_or-set_same tree (2 * position) left 0 (omega arith))) both.0))
    (λ (before : q ≢ 2 * position). subst (λ (n : ℕ). Stands about.width about.slots more v q n) (sym (get_or-set_other tree (2 * position) q left 0 before))
    (stands_more about.width about.slots nodes more v q (get_or tree q 0) part (stands q low (omega arith))))
    (cases_eq q (2 * position))))
    (cases_eq q (2 * position + 1))
  where
    first : List ℕ
    first = set tree (2 * position) left

-- the slots of a tree that was read whole are the vector
pub slots_are : (about : About) (v : Vector) (nodes : List (ℕ × ℕ)) (tree : List ℕ) → 2 ≤ about.slots → length tree ≡ 2 * about.slots → length v ≡ about.slots → StandsTo about v (2 * about.slots) nodes tree → slots_of about tree ≡ v
slots_are about v nodes tree two long slots stands = same_number_lists (slots_of about tree) v (let l = length-drop about.slots tree in omega (arith, l, long, slots)) (λ j lt.
    let l = length-drop about.slots tree in
    let back : (about.slots + j) - about.slots ≡ j = omega arith in
    get_or-drop about.slots tree j 0 ∙ (at_slot about.width about.slots nodes v (about.slots + j) (get_or tree (about.slots + j) 0) (omega arith) (stands (about.slots + j) (omega (arith, two)) (omega (arith, l, long, lt)))
    ∙ ap (λ (n : ℕ). get_or v n 0) back))

module _ {T : Type 0} (part : Part T) where
  -- an identifier's root pair is that of a named vector
  pub named_root : (store : Store) (p : PassOf T) (id pair : ℕ) → AtRest part store p → Has (id, pair) (root_pairs part (view p))
      → (v : Vector) × (name_of (view p).seen v ≡ Some id) × RootStands store.about.width store.about.slots (view p).known pair v × (length v ≡ store.about.slots)
  named_root store p id pair rests has =
      subst (λ (y : About). (v : Vector) × (name_of (view p).seen v ≡ Some id) × RootStands y.width y.slots (view p).known pair v × (length v ≡ y.slots)) rests.seat.about_is (rests.seat.sound.named.only id pair has)

  -- calls, and then nodes that were looked up
  pub advanced_then : (more : History) (u v w : View T) → Caught part more u v → Grown v w → Advanced part more u w
  advanced_then more u v w k g = record {
    log = k.log;
    seen = g.seen ∙ k.seen;
    begins = k.begins;
    own = k.own;
    about = g.about ∙ k.about;
    face_is = g.face_is ∙ k.face_is;
    known = λ i pair has. g.known i pair (k.known i pair has);
    roots = subst (λ (pairs : List (ℕ × ℕ)). IsPart (root_pairs part u) pairs) (λ i. part.roots (sym g.about i) (sym g.seen i) (sym g.root i)) k.roots_stay;
  }

-- looking nodes up after looking nodes up
pub probed_then : {T : Type 0} (u v w : View T) → Probed 0 u v → Probed 0 v w → Probed 0 u w
probed_then {T} u v w a b = record {
  grown = grown_trans u v w a.grown b.grown;
  made = b.made ∙ a.made;
  probes_are = let p = a.probes_are in let q = b.probes_are in omega arith;
}

-- the tree whose root pair was noted
pub root_noted : (about : About) (width : ℕ) (v : Vector) (nodes : List (ℕ × ℕ)) (tree next : List ℕ) (left right : ℕ) → about.width ≡ width → right < 2 ^ width → 3 < length tree → next ≡ set (set tree 2 left) 3 right
    → RootStands about.width about.slots nodes (pair_of width left right) v → StandsTo about v 4 nodes next
root_noted about width v nodes tree next left right is small long noted root =
    subst (λ (l : List ℕ). StandsTo about v 4 nodes l) (sym noted)
    (stands_to_more about v 1 left right nodes nodes tree long (λ i y has. has) (root_parts about width is v nodes left right small root) (λ q low high. absurd (omega arith)))

-- calls by which no node was put, and then nodes that were looked up, leave the nodes and the last tree
pub puts_none : {T : Type 0} (part : Part T) (more : History) (p q r : PassOf T) → Caught part more (view p) (view q) → q ≡ record p { seat = q.seat } → KeepsLast q r → Probed 0 (view q) (view r) → PutsNone p r
puts_none {T} part more p q r k same keeps probed = record {
  made = probed.made ∙ k.made;
  probes = let a = probed.probes_are in let b = k.probes in omega (arith, a, b);
  last_stays = last_kept p r (ap (λ (x : PassOf T). x.has_last) keeps ∙ ap (λ (x : PassOf T). x.has_last) same) (ap (λ (x : PassOf T). x.last_tree) keeps ∙ ap (λ (x : PassOf T). x.last_tree) same) (probed.grown.about ∙ k.about);
}

pub grown_still : {T : Type 0} (v : View T) → Grown v v
grown_still v = record { about = refl; face_is = refl; busy = refl; seen = refl; known = λ i x h. h; root = refl }
