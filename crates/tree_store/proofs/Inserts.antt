-- An insertion as its parts: the slots are filled, inner nodes are put, and then the root.
use Rattle.std.proofs.Common.{◌≡◌, ℕ, ◌+◌, ◌-◌, ◌*◌, List, [], ◌∷◌, length, drop, get_or, Bool, Option, Some, None, true, false, sym, ap, ◌∙◌, subst, arith}
use Rattle.std.specs.Prelude.{if◌then◌else◌}
use Rattle.std.proofs.lemmas.List.{get_or-drop}
use Rattle.tree_shape.specs.Tree.{Has, IsPart, slot}
use Rattle.tdb_base.specs.History.{Vector, History, name_of, calls}
use Rattle.tdb_base.specs.Legal.{IsLegal, Extends}
use Rattle.tdb_base.proofs.NameLemmas.{entry-named}
use Rattle.tdb_base.specs.declared.reply.Reply.{Reply}
use Rattle.tdb_base.specs.declared.reply.Reply.TheVariants as r
use Rattle.pair_rule.specs.declared.view.View.{View}
use Rattle.pair_rule.specs.declared.sizes.About.{About}
use Rattle.pair_rule.specs.declared.pass.PassOf.{PassOf}
use Rattle.pair_rule.specs.View.{Grown}
use Rattle.pair_rule.specs.Rest.{AtRest, view, last_vector}
use Rattle.pair_rule.specs.Part.{Store, Part, root_pairs}
use Rattle.pair_rule.specs.Plays.{Caught}
use Rattle.pair_rule.specs.Calls.{call, KeepsBuffers}
use Rattle.pair_nodes.specs.Roots.{IsFoundOrPut, IsPutAfterLook}
use Rattle.tree_store.specs.Vectors.{slots_of, StandsFrom, raised, Gained, Building, compared, puts_after}
use Rattle.tree_store.specs.Store.{naming, IfNamed, NeverNamed, Advanced, HasRoot, HasBlockedRoot, LooksAndPuts, FindsOrPuts, TreeBecomesLast, KeepsLastTree, IsNamed, IsFullAtRoot, IsAnswered, AreTicked, RootIsNamed, RootIsFull, RootIsAnswered}
use Rattle.tree_store.proofs.Builds.{in_more}

-- at the slots of a tree its own vector stands
pub leaves_stand : (about : About) (nodes : List (ℕ × ℕ)) (tree : List ℕ) → StandsFrom about (slots_of about tree) about.slots nodes tree
leaves_stand about nodes tree position low high =
    let at : position ≡ about.slots + (position - about.slots) = omega arith in
    slot low (ap (λ (n : ℕ). get_or tree n 0) at ∙ sym (get_or-drop about.slots tree (position - about.slots) 0))

-- a pass rests with other numbers in the tree that is being put
pub rests_filled : {T : Type 0} (part : Part T) (store : Store) (p q : PassOf T)
    → AtRest part store p → q ≡ record p { next_tree = q.next_tree } → length q.next_tree.items ≡ 2 * store.about.slots → AtRest part store q
rests_filled {T} part store p q rests same long = subst (λ (x : PassOf T). AtRest part store x) (sym same) (record {
  seat = rests.seat;
  last_length = rests.last_length;
  next_length = long;
  marks_length = rests.marks_length;
  last = rests.last;
  last_slots = rests.last_slots;
  nodes_count = rests.nodes_count;
  names_count = rests.names_count;
})

-- the nodes that were put before a root
pub gained_before : {T : Type 0} (about : About) (v : Vector) (puts : ℕ) (old now new : View T) → Building about v puts old now → new.made ≡ now.made → IsPart now.known new.known → Gained about v puts old new
gained_before about v puts old now new b made known = record {
  more = b.gained.more;
  made = made ∙ b.gained.made;
  few = b.gained.few;
  in_tree = λ i has. in_more about v now.known new.known i known (b.gained.in_tree i has);
}

module _ {T : Type 0} (part : Part T) where
  -- calls after nodes were put
  pub advanced : (more : History) (u v w : View T) → Grown u v → Caught part more v w → Advanced part more u w
  advanced more u v w g k = record {
    log = k.log;
    seen = k.seen;
    begins = subst (λ (h : History). Extends h k.log) g.seen k.begins;
    own = λ c has. k.own c (subst (λ f. Has c f.numbers) (sym g.face_is) has) ∙ ap (λ (h : History). calls h c) g.seen;
    about = k.about ∙ g.about;
    face_is = k.face_is ∙ g.face_is;
    known = λ i pair has. k.known i pair (g.known i pair has);
    roots = subst (λ (pairs : List (ℕ × ℕ)). IsPart pairs (root_pairs part w)) (λ i. part.roots (g.about i) (g.seen i) (g.root i)) k.roots_stay;
  }

  pub advanced_call : (u v w : View T) (from vector : Vector) (fresh : Bool) (id : ℕ) → Grown u v → from ≡ vector → Caught part (call v.number fresh from id ∷ []) v w → Advanced part (call u.number fresh vector id ∷ []) u w
  advanced_call u v w from vector fresh id g same k =
      subst (λ (l : Vector). Advanced part (call u.number fresh l id ∷ []) u w) same
      (subst (λ (n : ℕ). Advanced part (call n fresh from id ∷ []) u w) (ap (λ f. f.number) g.face_is) (advanced (call v.number fresh from id ∷ []) u v w g k))

  -- the vector of a call has the call's identifier
  pub call_named : (caller : ℕ) (fresh : Bool) (vector : Vector) (id : ℕ) (u w : View T) → IsLegal w.about.flags w.seen → Advanced part (call caller fresh vector id ∷ []) u w → name_of w.seen vector ≡ Some id
  call_named caller fresh vector id u w legal k = entry-named w.about.flags w.seen k.log [] (call caller fresh vector id) legal k.seen

-- the vector of the last tree, where it became the last one, and where it stayed
tree_last : {T : Type 0} (about : About) (p q : PassOf T) → TreeBecomesLast p q → (view q).about ≡ about → last_vector q ≡ Some (slots_of about p.next_tree.items)
tree_last {T} about p q same is =
    let has : q.has_last ≡ true = ap (λ (x : PassOf T). x.has_last) same in
    let tree = ap (λ (x : PassOf T). x.last_tree) same in
    λ i. if has i then Some (drop (is i).slots (tree i).items) else None

pub last_kept : {T : Type 0} (p q : PassOf T) → q.has_last ≡ p.has_last → q.last_tree ≡ p.last_tree → (view q).about ≡ (view p).about → KeepsLastTree p q
last_kept p q has tree about = record { has = has; tree = tree; vector = λ i. if has i then Some (drop (about i).slots (tree i).items) else None }

-- An insertion as its parts: inner nodes were put by the pass p, which is then n, and then the root, by which it is q.
module _ {T : Type 0} (part : Part T) (store : Store) (last : Option Vector) (vector : Vector) (p n q : PassOf T) (rest : AtRest part store n) (after : AtRest part store q)
    (built : Building store.about vector (puts_after store.about last vector) (view p) (view n)) (filled : slots_of store.about n.next_tree.items ≡ vector)
    (has : n.has_last ≡ p.has_last) (tree : n.last_tree ≡ p.last_tree) (never : HasBlockedRoot part store.about (view q) vector → NeverNamed part store q vector) where
  known_more : (more : History) → Caught part more (view n) (view q) → Gained store.about vector (puts_after store.about last vector) (view p) (view q)
  known_more more k = gained_before store.about vector (puts_after store.about last vector) (view p) (view n) (view q) built k.made k.known

  -- the look for the root came after the nodes, which leave what is known of roots
  found_before : (fresh : Bool) → FindsOrPuts part store.about (slots_of store.about n.next_tree.items) fresh (view n) (view q) → FindsOrPuts part store.about vector fresh (view p) (view q)
  found_before fresh f =
      let from = subst (λ (l : Vector). FindsOrPuts part store.about l fresh (view n) (view q)) filled f in
      (from.0, from.1, subst (λ (t : T). IsFoundOrPut part store.about from.0 fresh t (view q).root) built.grown.root from.2)

  put_before : LooksAndPuts part store.about (slots_of store.about n.next_tree.items) (view n) (view q) → LooksAndPuts part store.about vector (view p) (view q)
  put_before f =
      let from = subst (λ (l : Vector). LooksAndPuts part store.about l (view n) (view q)) filled f in
      (from.0, from.1, subst (λ (t : T). IsPutAfterLook part store.about from.0 t (view q).root) built.grown.root from.2)

  named : (fresh : Bool) (id : ℕ) → RootIsNamed part store (slots_of store.about n.next_tree.items) fresh id n q → IsNamed part store last vector fresh id p q
  named fresh id a =
      let called = advanced_call part (view p) (view n) (view q) (slots_of store.about n.next_tree.items) vector fresh id built.grown filled a.call_is in
      record {
        call_is = called;
        name = call_named part (view p).number fresh vector id (view p) (view q) after.seat.sound.legal called;
        root = subst (λ (l : Vector). HasRoot part store.about (view q) l id) filled a.root;
        looked = found_before fresh a.looked;
        last_is = tree_last store.about n q a.tree after.seat.about_is ∙ ap Some filled;
        nodes = known_more (call (view n).number fresh (slots_of store.about n.next_tree.items) id ∷ []) a.call_is;
        probes = a.call_is.probes ∙ built.probes_are;
      }

  full : RootIsFull part store (slots_of store.about n.next_tree.items) n q → IsFullAtRoot part store last vector p q
  full a =
      let blocked = subst (λ (l : Vector). HasBlockedRoot part store.about (view q) l) filled a.blocked in
      record {
        blocked = blocked;
        looked = put_before a.looked;
        no_call = advanced part [] (view p) (view n) (view q) built.grown a.no_call;
        nodes = known_more [] a.no_call;
        probes = a.no_call.probes ∙ built.probes_are;
        last_stays = last_kept p q (ap (λ (x : PassOf T). x.has_last) a.buffers ∙ has) (ap (λ (x : PassOf T). x.last_tree) a.buffers ∙ tree) (a.no_call.about ∙ built.grown.about);
        for_good = never blocked;
      }

  pub answered : (reply : Reply) → RootIsAnswered part store (slots_of store.about n.next_tree.items) reply n q → IsAnswered part store last vector reply p q
  answered (r.New id) a = named true id a
  answered (r.Seen id) a = named false id a
  answered r.FullNodes a = absurd a
  answered r.FullRoots a = full a

-- the tree that was put becomes the last one, after a root was put
pub becomes_last : {T : Type 0} (p u : PassOf T) → KeepsBuffers p u → TreeBecomesLast p (record u { last_tree = u.next_tree; next_tree = u.last_tree; has_last = true })
becomes_last {T} p u same = ap {A = PassOf T} (λ q. record q { last_tree = q.next_tree; next_tree = q.last_tree; has_last = true }) same

-- what was told of a pass whose slots were filled, told of it before
pub as_filled : {T : Type 0} (about : About) (v : Vector) (from_last : Bool) (p q : PassOf T) (P : Option Vector → Vector → View T → Type 0) → q ≡ record p { next_tree = q.next_tree } → slots_of about q.next_tree.items ≡ v
    → P (compared from_last q) (slots_of about q.next_tree.items) (view q) → P (compared from_last p) v (view p)
as_filled {T} about v from_last p q P same vector a =
    subst (λ (x : PassOf T). P (compared from_last x) v (view x)) same (subst (λ (l : Vector). P (compared from_last q) l (view q)) vector a)

-- the reply tells of a name
pub of_naming : {T : Type 0} (part : Part T) (store : Store) (vector : Vector) (fresh : Bool) (id : ℕ) (reply : Reply) (old new : PassOf T) → reply ≡ naming fresh id → RootIsNamed part store vector fresh id old new → RootIsAnswered part store vector reply old new
of_naming part store vector true id reply old new is fact = subst (λ (x : Reply). RootIsAnswered part store vector x old new) (sym is) fact
of_naming part store vector false id reply old new is fact = subst (λ (x : Reply). RootIsAnswered part store vector x old new) (sym is) fact

-- the steps of a tree whose root was put as well
pub ticked_root : {T : Type 0} (part : Part T) (store : Store) (vector : Vector) (reply : Reply) (p q : PassOf T) (puts : ℕ) (old new : Option ℕ) → RootIsAnswered part store vector reply p q → new ≡ raised (puts + 1) old → AreTicked puts reply old new
ticked_root part store vector (r.New id) p q puts old new a is = is
ticked_root part store vector (r.Seen id) p q puts old new a is = is
ticked_root part store vector r.FullNodes p q puts old new a is = absurd a
ticked_root part store vector r.FullRoots p q puts old new a is = is

-- a reply that names its vector tells of some name
pub some_name : {T : Type 0} (part : Part T) (store : Store) (last : Option Vector) (vector : Vector) (reply : Reply) (p q : PassOf T) → IsAnswered part store last vector reply p q → IfNamed reply (λ fresh id. (x : Vector) × (name_of (view q).seen x ≡ Some id))
some_name part store last vector (r.New id) p q a = (vector, a.name)
some_name part store last vector (r.Seen id) p q a = (vector, a.name)
some_name part store last vector r.FullNodes p q a = tt
some_name part store last vector r.FullRoots p q a = tt
