-- What one line's insertion leaves, and several lines' one after the other.
use Rattle.std.proofs.Common.{◌≡◌, ◌⊎◌, ℕ, zero, suc, ◌+◌, ◌≤◌, List, [], ◌∷◌, ◌++◌, length, Bool, true, false, Option, Some, refl, sym, ap, ◌∙◌, subst, inl, inr, ⊎_elim, arith, append-nil, append_assoc, length-append, eq-eqb}
use Rattle.std.specs.Prelude.{slice_get, cond}
use Rattle.std.proofs.lemmas.List.Sums.{sum_by-append}
use Rattle.tree_shape.specs.Tree.{Has, IsPart}
use Rattle.tree_shape.proofs.Trees.{stands_more}
use Rattle.tdb_base.specs.History.{Vector, History, calls}
use Rattle.tdb_base.specs.Legal.{Extends}
use Rattle.tdb_base.specs.Replies.{is_full}
use Rattle.tdb_base.specs.declared.reply.Reply.{Reply}
use Rattle.tdb_base.specs.declared.reply.Reply.TheVariants as r
use Rattle.pair_rule.specs.declared.sizes.About.{About}
use Rattle.pair_rule.specs.declared.pass.PassOf.{PassOf}
use Rattle.pair_rule.specs.View.{face}
use Rattle.pair_rule.specs.Rest.{AtRest, view, last_vector}
use Rattle.pair_rule.proofs.Lists.{has_front, has_back, has_either}
use Rattle.pair_rule.proofs.Histories.{extends_refl, extends_trans, calls_append}
use Rattle.pair_rule.specs.Part.{Store, Part, root_pairs}
use Rattle.pair_rule.specs.Calls.{call}
use Rattle.pair_nodes.specs.Roots.{Refusals}
use Rattle.tree_store.specs.Vectors.{puts_after, Gained}
use Rattle.tree_store.specs.Store.{NeverNamed, Advanced, KeepsLastTree, IsAnswered}
use Rattle.work_run.specs.Full.{Barred, IsOfOne, is_full_inside, full_inside}
use Rattle.work_run.specs.Inserted.{last_after, last_of, puts_of, Inserted}
use Rattle.work_run.specs.Telling.{insertion}

-- ---- more nodes and roots

-- an index that is in a tree stays in it
pub of_one_more : (about : About) (nodes more : List (ℕ × ℕ)) (vectors : List Vector) (index : ℕ) → IsPart nodes more → IsOfOne about nodes vectors index → IsOfOne about more vectors index
of_one_more about nodes more vectors index part o = (o.0, o.1, (o.2.0, o.2.1, o.2.2, stands_more about.width about.slots nodes more o.0 o.2.0 index part o.2.3))

-- a vector stays barred, for passes that know more
pub barred_more : {T : Type 0} (part : Part T) → Refusals part → (store : Store) (p q : PassOf T) (v : Vector) (reply : Reply) → AtRest part store p → AtRest part store q → IsPart (view p).known (view q).known
    → IsPart (root_pairs part (view p)) (root_pairs part (view q)) → Barred part store.about (view p).known (root_pairs part (view p)) v reply → Barred part store.about (view q).known (root_pairs part (view q)) v reply
barred_more part refusals store p q v (r.New id) rp rq known roots b = tt
barred_more part refusals store p q v (r.Seen id) rp rq known roots b = tt
barred_more part refusals store p q v r.FullNodes rp rq known roots b = record {
  position = b.position;
  inner = b.inner;
  left = b.left;
  right = b.right;
  left_stands = stands_more store.about.width store.about.slots (view p).known (view q).known v _ b.left known b.left_stands;
  right_stands = stands_more store.about.width store.about.slots (view p).known (view q).known v _ b.right known b.right_stands;
  blocked = λ step lt. (let o = b.blocked step lt in (o.0, known _ o.0 o.1, o.2));
}
barred_more part refusals store p q v r.FullRoots rp rq known roots b = (
  b.0,
  (stands_more store.about.width store.about.slots (view p).known (view q).known v _ _ known b.1.0, stands_more store.about.width store.about.slots (view p).known (view q).known v _ _ known b.1.1),
  refusals.stay store p q b.0 rp rq known roots b.2,
)

-- ---- one line

module _ {T : Type 0} (part : Part T) (store : Store) (v : Vector) (p q : PassOf T) where
  -- facts of the one line
  only : (P : Vector → Reply → Type 0) (reply : Reply) → P v reply → (i : ℕ) (w : Vector) (s : Reply) → slice_get (v ∷ []) i ≡ Some w → slice_get (reply ∷ []) i ≡ Some s → P w s
  only P reply fact zero w s a b = let e : v ≡ w = cc a in let f : reply ≡ s = cc b in subst (λ (x : Vector). P x s) e (subst (λ (x : Reply). P v x) f fact)
  only P reply fact (suc i) w s a b = cc a

  mine_alone : (n : ℕ) (fresh : Bool) (id : ℕ) → calls (call n fresh v id ∷ []) n ≡ call n fresh v id ∷ []
  mine_alone n fresh id = rw (eq-eqb n n refl) refl

  called : (fresh : Bool) (id : ℕ) → Has (view p).number (view p).numbers → Advanced part (call (view p).number fresh v id ∷ []) (view p) (view q)
      → calls (view q).seen (view p).number ≡ calls (view p).seen (view p).number ++ call (view p).number fresh v id ∷ []
  called fresh id mine k =
      let n = (view p).number in
      ap (λ (h : History). calls h n) k.seen
      ∙ (calls_append k.log (call n fresh v id ∷ []) n ∙ (λ i. k.own n mine i ++ mine_alone n fresh id i))

  uncalled : Has (view p).number (view p).numbers → Advanced part [] (view p) (view q) → calls (view q).seen (view p).number ≡ calls (view p).seen (view p).number ++ []
  uncalled mine k =
      let n = (view p).number in
      ap (λ (h : History). calls h n) k.seen ∙ (calls_append k.log [] n ∙ (λ i. k.own n mine i ++ []))

  made_by : (most : ℕ) → Gained store.about v most (view p) (view q) → (i : ℕ) → Has i (view q).made → Has i (view p).made ⊎ IsOfOne store.about (view q).known (v ∷ []) i
  made_by most g i h = ⊎_elim
      (λ (new : Has i g.more). inr (v, inl refl, g.in_tree i new))
      (λ (old : Has i (view p).made). inl old)
      (has_either i g.more (view p).made (subst (λ (x : List ℕ). Has i x) g.made h))

  few_by : (most : ℕ) → Gained store.about v most (view p) (view q) → (reply : Reply) (inside : ℕ) → full_inside (reply ∷ []) ≡ inside → most + inside + (view p).probes ≤ (view q).probes
      → length (view q).made + full_inside (reply ∷ []) + (view p).probes ≤ length (view p).made + (view q).probes
  few_by most g reply inside is few =
      let long = ap (λ (l : List ℕ). length l) g.made ∙ length-append g.more (view p).made in
      omega (arith, long, g.few, is, few)

  -- a call that is one entry of the history
  named_one : (fresh : Bool) (id : ℕ) (reply : Reply) → insertion.entries (view p).number v reply ≡ call (view p).number fresh v id ∷ [] → is_full reply ≡ false → full_inside (reply ∷ []) ≡ 0 → Barred part store.about (view q).known (root_pairs part (view q)) v reply
      → AtRest part store p → AtRest part store q → Advanced part (call (view p).number fresh v id ∷ []) (view p) (view q) → last_vector q ≡ Some v
      → Gained store.about v (puts_after store.about (last_vector p) v) (view p) (view q) → (view q).probes ≡ (view p).probes + puts_after store.about (last_vector p) v
      → Inserted part store (v ∷ []) (reply ∷ []) (λ c. insertion.entries c v reply) p q
  named_one fresh id reply entry named inside barred rp rq k last gained probes = record {
    one_each = refl;
    rest = rq;
    face_is = k.face_is;
    seen = extends_trans (view p).seen k.log (view q).seen k.begins (record { more = call (view p).number fresh v id ∷ []; whole = k.seen });
    known = k.known;
    roots = k.roots;
    own = called fresh id rp.seat.sound.mine k ∙ ap (λ (h : History). calls (view p).seen (view p).number ++ h) (sym entry);
    never = only (λ w s. is_full s ≡ true → NeverNamed part store q w) reply (λ t. cc (t, named));
    barred = only (λ w s. Barred part store.about (view q).known (root_pairs part (view q)) w s) reply barred;
    made = made_by (puts_after store.about (last_vector p) v) gained;
    last = last ∙ sym (rw named refl);
    probes = omega (arith, probes);
    few_made = few_by (puts_after store.about (last_vector p) v) gained reply 0 inside (omega (arith, probes));
  }

  -- a call for which there was no place
  full_one : (most inside : ℕ) (reply : Reply) → full_inside (reply ∷ []) ≡ inside → most + inside + (view p).probes ≤ (view q).probes → is_full reply ≡ true → insertion.entries (view p).number v reply ≡ [] → AtRest part store p → AtRest part store q
      → face (view q) ≡ face (view p) → Extends (view p).seen (view q).seen → IsPart (view p).known (view q).known → IsPart (root_pairs part (view p)) (root_pairs part (view q))
      → calls (view q).seen (view p).number ≡ calls (view p).seen (view p).number ++ []
      → Gained store.about v most (view p) (view q) → (view q).probes ≤ (view p).probes + puts_after store.about (last_vector p) v
      → KeepsLastTree p q → NeverNamed part store q v → Barred part store.about (view q).known (root_pairs part (view q)) v reply
      → Inserted part store (v ∷ []) (reply ∷ []) (λ c. insertion.entries c v reply) p q
  full_one most inside reply inside_is spent full entry rp rq face_is seen known roots own gained probes keeps never barred = record {
    one_each = refl;
    rest = rq;
    face_is = face_is;
    seen = seen;
    known = known;
    roots = roots;
    own = own ∙ ap (λ (h : History). calls (view p).seen (view p).number ++ h) (sym entry);
    never = only (λ w s. is_full s ≡ true → NeverNamed part store q w) reply (λ t. never);
    barred = only (λ w s. Barred part store.about (view q).known (root_pairs part (view q)) w s) reply barred;
    made = made_by most gained;
    last = keeps.vector ∙ sym (rw full refl);
    probes = omega (arith, probes);
    few_made = few_by most gained reply inside inside_is spent;
  }

  pub one_inserted : (reply : Reply) → AtRest part store p → AtRest part store q → IsAnswered part store (last_vector p) v reply p q → Inserted part store (v ∷ []) (reply ∷ []) (λ c. insertion.entries c v reply) p q
  one_inserted (r.New id) rp rq a = named_one true id (r.New id) refl refl refl tt rp rq a.call_is a.last_is a.nodes a.probes
  one_inserted (r.Seen id) rp rq a = named_one false id (r.Seen id) refl refl refl tt rp rq a.call_is a.last_is a.nodes a.probes
  one_inserted r.FullNodes rp rq a =
      let n = a.refused in
      let w = n.grown in
      let few : (view q).probes ≤ (view p).probes + puts_after store.about (last_vector p) v = omega (arith, n.probes_are, n.fewer) in
      full_one n.puts 1 r.FullNodes refl (omega (arith, n.probes_are)) refl refl rp rq w.face_is
      (subst (λ (h : History). Extends (view p).seen h) (sym w.seen) (extends_refl (view p).seen)) w.known
      (subst (λ (pairs : List (ℕ × ℕ)). IsPart (root_pairs part (view p)) pairs) (λ i. part.roots (sym w.about i) (sym w.seen i) (sym w.root i)) (λ i x h. h))
      (ap (λ (h : History). calls h (view p).number) w.seen ∙ sym (append-nil (calls (view p).seen (view p).number)))
      n.gained few a.last_stays a.for_good n.blocked
  one_inserted r.FullRoots rp rq a =
      let c = a.no_call in
      let few : (view q).probes ≤ (view p).probes + puts_after store.about (last_vector p) v = omega (arith, a.probes) in
      full_one (puts_after store.about (last_vector p) v) 0 r.FullRoots refl (omega (arith, a.probes)) refl refl rp rq c.face_is
      (extends_trans (view p).seen c.log (view q).seen c.begins (record { more = []; whole = c.seen })) c.known c.roots
      (uncalled rp.seat.sound.mine c) a.nodes few a.last_stays a.for_good a.blocked

-- ---- several lines

last_more : (last : Option Vector) (vectors : List Vector) (replies : List Reply) (v : Vector) (reply : Reply) → length replies ≡ length vectors
    → last_of last (vectors ++ v ∷ []) (replies ++ reply ∷ []) ≡ last_after (last_of last vectors replies) v reply
last_more last [] [] v reply same = refl
last_more last [] (s ∷ replies) v reply same = absurd (omega arith)
last_more last (w ∷ vectors) [] v reply same = absurd (omega arith)
last_more last (w ∷ vectors) (s ∷ replies) v reply same = last_more (last_after last w s) vectors replies v reply (omega arith)

puts_more : (about : About) (last : Option Vector) (vectors : List Vector) (replies : List Reply) (v : Vector) (reply : Reply) → length replies ≡ length vectors
    → puts_of about last (vectors ++ v ∷ []) (replies ++ reply ∷ []) ≡ puts_of about last vectors replies + puts_after about (last_of last vectors replies) v
puts_more about last [] [] v reply same = omega arith
puts_more about last [] (s ∷ replies) v reply same = absurd (omega arith)
puts_more about last (w ∷ vectors) [] v reply same = absurd (omega arith)
puts_more about last (w ∷ vectors) (s ∷ replies) v reply same = let h = puts_more about (last_after last w s) vectors replies v reply (omega arith) in omega (arith, h)

-- the line at a place, when one is added
data AtPush (vectors : List Vector) (replies : List Reply) (v : Vector) (reply : Reply) (i : ℕ) (w : Vector) (s : Reply) : Type 0 where
  before : slice_get vectors i ≡ Some w → slice_get replies i ≡ Some s → AtPush vectors replies v reply i w s
  final : v ≡ w → reply ≡ s → AtPush vectors replies v reply i w s

at_push : (vectors : List Vector) (replies : List Reply) (v : Vector) (reply : Reply) → length replies ≡ length vectors → (i : ℕ) (w : Vector) (s : Reply)
    → slice_get (vectors ++ v ∷ []) i ≡ Some w → slice_get (replies ++ reply ∷ []) i ≡ Some s → AtPush vectors replies v reply i w s
at_push [] [] v reply same zero w s a b = final (cc a) (cc b)
at_push [] [] v reply same (suc i) w s a b = cc a
at_push [] (t ∷ replies) v reply same i w s a b = absurd (omega arith)
at_push (u ∷ vectors) [] v reply same i w s a b = absurd (omega arith)
at_push (u ∷ vectors) (t ∷ replies) v reply same zero w s a b = before a b
at_push (u ∷ vectors) (t ∷ replies) v reply same (suc i) w s a b = next (at_push vectors replies v reply (omega arith) i w s a b)
  where
    next : AtPush vectors replies v reply i w s → AtPush (u ∷ vectors) (t ∷ replies) v reply (suc i) w s
    next (before c d) = before c d
    next (final c d) = final c d

module _ {T : Type 0} (part : Part T) (refusals : Refusals part) (store : Store) where
  -- none yet
  pub none_inserted : (p : PassOf T) → AtRest part store p → Inserted part store [] [] (λ c. []) p p
  none_inserted p rests = record {
    one_each = refl;
    rest = rests;
    face_is = refl;
    seen = extends_refl (view p).seen;
    known = λ i x h. h;
    roots = λ i x h. h;
    own = sym (append-nil (calls (view p).seen (view p).number));
    never = λ i v reply a b. cc a;
    barred = λ i v reply a b. cc a;
    made = λ i h. inl h;
    last = refl;
    probes = omega arith;
    few_made = omega arith;
  }

  -- a vector has no name for good
  never_later : (p q : PassOf T) (v : Vector) → IsPart (view p).known (view q).known → IsPart (root_pairs part (view p)) (root_pairs part (view q)) → NeverNamed part store p v → NeverNamed part store q v
  never_later p q v known roots never u ru a b = never u ru (λ i x h. a i x (known i x h)) (λ i x h. b i x (roots i x h))

  -- one line more
  pub more_inserted : (p q w : PassOf T) (vectors : List Vector) (replies : List Reply) (earlier later : ℕ → History) (v : Vector) (reply : Reply) → Inserted part store vectors replies earlier p q → Inserted part store (v ∷ []) (reply ∷ []) later q w
      → Inserted part store (vectors ++ v ∷ []) (replies ++ reply ∷ []) (λ c. earlier c ++ later c) p w
  more_inserted p q w vectors replies earlier later v reply a b =
      let n = (view p).number in
      let same : (view q).number ≡ n = ap (λ f. f.number) a.face_is in
      record {
        one_each = length-append replies (reply ∷ []) ∙ omega (arith, a.one_each, length-append vectors (v ∷ []));
        rest = b.rest;
        face_is = b.face_is ∙ a.face_is;
        seen = extends_trans (view p).seen (view q).seen (view w).seen a.seen b.seen;
        known = λ i x h. b.known i x (a.known i x h);
        roots = λ i x h. b.roots i x (a.roots i x h);
        own = subst (λ (m : ℕ). calls (view w).seen m ≡ calls (view q).seen m ++ later m) same b.own
            ∙ (ap (λ (h : History). h ++ later n) a.own
            ∙ append_assoc (calls (view p).seen n) (earlier n) (later n));
        never = λ i u s x y full. of_never i u s full (at_push vectors replies v reply a.one_each i u s x y);
        barred = λ i u s x y. of_barred i u s (at_push vectors replies v reply a.one_each i u s x y);
        made = λ i h. ⊎_elim
            (λ (old : Has i (view q).made). ⊎_elim
            (λ (first : Has i (view p).made). inl first)
            (λ (of : IsOfOne store.about (view q).known vectors i). let o = of_one_more store.about (view q).known (view w).known vectors i b.known of in inr (o.0, has_front o.0 vectors (v ∷ []) o.1, o.2))
            (a.made i old))
            (λ (of : IsOfOne store.about (view w).known (v ∷ []) i). inr (of.0, has_back of.0 vectors (v ∷ []) of.1, of.2))
            (b.made i h);
        last = b.last ∙ (ap (λ (o : Option Vector). last_after o v reply) a.last ∙ sym (last_more (last_vector p) vectors replies v reply a.one_each));
        probes = (let e = puts_more store.about (last_vector p) vectors replies v reply a.one_each in
            let f = ap (λ (o : Option Vector). puts_after store.about o v) a.last in
            omega (arith, a.probes, b.probes, e, f));
        few_made = (let e = sum_by-append (λ (r : Reply). cond (is_full_inside r) 1 0) replies (reply ∷ []) in
            omega (arith, a.few_made, b.few_made, e));
      }
    where
      of_never : (i : ℕ) (u : Vector) (s : Reply) → is_full s ≡ true → AtPush vectors replies v reply i u s → NeverNamed part store w u
      of_never i u s full (before x y) = never_later q w u b.known b.roots (a.never i u s x y full)
      of_never i u s full (final x y) = subst (λ (z : Vector). NeverNamed part store w z) x (b.never 0 v reply refl refl (ap is_full y ∙ full))

      of_barred : (i : ℕ) (u : Vector) (s : Reply) → AtPush vectors replies v reply i u s → Barred part store.about (view w).known (root_pairs part (view w)) u s
      of_barred i u s (before x y) = barred_more part refusals store q w u s a.rest b.rest b.known b.roots (a.barred i u s x y)
      of_barred i u s (final x y) =
          subst (λ (z : Vector). Barred part store.about (view w).known (root_pairs part (view w)) z s) x
          (subst (λ (z : Reply). Barred part store.about (view w).known (root_pairs part (view w)) v z) y (b.barred 0 v reply refl refl))
