-- Lines that are inserted and then marked.
use Rattle.std.proofs.Common.{◌≡◌, ℕ, zero, suc, List, [], ◌∷◌, ◌++◌, length, map, Bool, true, false, Option, Some, None, refl, sym, ap, ◌∙◌, subst, inl, inr, ⊎_elim, arith, append_assoc, eq-eqb}
use Rattle.std.specs.Prelude.{flat_map, option_map, option_to_list, slice_get}
use Rattle.std.proofs.lemmas.List.{length-map}
use Rattle.std.proofs.lemmas.Option.{get_or_from_slice_get, slice_get-map}
use Rattle.tree_shape.specs.Tree.{Has}
use Rattle.tdb_base.specs.Agrees.{entry_of, entry_of_both}
use Rattle.tdb_base.specs.History.{Vector, Set, History, calls, name_of}
use Rattle.tdb_base.specs.Lines.{mine}
use Rattle.tdb_base.specs.Replies.{id_of, is_full}
use Rattle.tdb_base.specs.declared.reply.Reply.{Reply}
use Rattle.tdb_base.specs.declared.reply.Reply.TheVariants as r
use Rattle.tdb_base.proofs.DistinctLemmas.{at-map, map-at}
use Rattle.pair_rule.specs.declared.sizes.About.{About}
use Rattle.pair_rule.specs.declared.pass.PassOf.{PassOf}
use Rattle.pair_rule.specs.Rest.{view, last_vector}
use Rattle.pair_rule.proofs.Histories.{extends_trans, calls_append}
use Rattle.pair_rule.specs.Part.{Store, Part}
use Rattle.pair_nodes.specs.Roots.{Refusals, RootActed, deed}
use Rattle.tree_store.specs.Store.{IsAnswered}
use Rattle.work_run.specs.Full.{IsOfOne}
use Rattle.work_run.specs.Inserted.{Inserted}
use Rattle.work_run.specs.Marks.{HasRunMarked, entries_of_mark, is_first}
use Rattle.work_run.specs.Ran.{HasRunOver, HasRunTask}
use Rattle.work_run.specs.Telling.{entries_at, entries_of_both, insertion, marking, then_set}
use Rattle.work_run.proofs.Answered.{barred_more, of_one_more}
use Rattle.work_run.proofs.Mine.{all_at}

-- ---- one line

-- the vector of a line that was answered an identifier has it as its name
pub named_by : {T : Type 0} (part : Part T) (store : Store) (last : Option Vector) (v : Vector) (reply : Reply) (p q : PassOf T) (id : ℕ) → IsAnswered part store last v reply p q → id_of reply ≡ Some id
    → name_of (view q).seen v ≡ Some id
named_by part store last v (r.New n) p q id a e = a.name ∙ e
named_by part store last v (r.Seen n) p q id a e = a.name ∙ e
named_by part store last v r.FullNodes p q id a e = cc e
named_by part store last v r.FullRoots p q id a e = cc e

-- and the reply tells of one entry
told_one : (caller : ℕ) (v : Vector) (flag : ℕ) (first : Bool) (reply : Reply) (id : ℕ) → id_of reply ≡ Some id
    → (marking flag).entries caller v (reply, first) ≡ insertion.entries caller v reply ++ deed caller (Set flag first) v id ∷ []
told_one caller v flag first (r.New n) id e = let same : n ≡ id = cc e in ap (λ (i : ℕ). insertion.entries caller v (r.New n) ++ deed caller (Set flag first) v i ∷ []) same
told_one caller v flag first (r.Seen n) id e = let same : n ≡ id = cc e in ap (λ (i : ℕ). insertion.entries caller v (r.Seen n) ++ deed caller (Set flag first) v i ∷ []) same
told_one caller v flag first r.FullNodes id e = cc e
told_one caller v flag first r.FullRoots id e = cc e

not_full : (reply : Reply) (id : ℕ) → id_of reply ≡ Some id → is_full reply ≡ false
not_full (r.New n) id e = refl
not_full (r.Seen n) id e = refl
not_full r.FullNodes id e = cc e
not_full r.FullRoots id e = cc e

module _ {T : Type 0} (part : Part T) (refusals : Refusals part) (store : Store) (v : Vector) (p q w : PassOf T) where
  last_is : w ≡ record q { seat = w.seat } → (view w).about ≡ (view q).about → last_vector w ≡ last_vector q
  last_is buffers about = cc (buffers, about)

  -- a line that was inserted and answered an identifier, and whose flag was then set
  pub marked_one : (reply : Reply) (flag : ℕ) (first : Bool) (id : ℕ) → id_of reply ≡ Some id → name_of (view q).seen v ≡ Some id
      → Inserted part store (v ∷ []) (reply ∷ []) (λ c. insertion.entries c v reply) p q → RootActed part store (Set flag first) id q w
      → Inserted part store (v ∷ []) (reply ∷ []) (λ c. (marking flag).entries c v (reply, first)) p w
  marked_one reply flag first id given name a acted =
      let n = (view p).number in
      let same : (view q).number ≡ n = ap (λ f. f.number) a.face_is in
      let set = deed (view q).number (Set flag first) v id in
      let k = acted.entry v name in
      let own : calls (view w).seen n ≡ calls (view q).seen n ++ deed n (Set flag first) v id ∷ [] =
      ap (λ (h : History). calls h n) k.seen
      ∙ (calls_append k.log (set ∷ []) n
      ∙ (λ i. k.own n (subst (λ (m : ℕ). Has m (view q).numbers) same a.rest.seat.sound.mine) i ++ called n same i)) in
      record {
        one_each = a.one_each;
        rest = acted.rest;
        face_is = k.face_is ∙ a.face_is;
        seen = extends_trans (view p).seen (view q).seen (view w).seen a.seen (extends_trans (view q).seen k.log (view w).seen k.begins (record { more = set ∷ []; whole = k.seen }));
        known = λ i x h. k.known i x (a.known i x h);
        roots = λ i x h. k.roots_stay i x (a.roots i x h);
        own = own ∙ (ap (λ (h : History). h ++ deed n (Set flag first) v id ∷ []) a.own
            ∙ (append_assoc (calls (view p).seen n) (insertion.entries n v reply) (deed n (Set flag first) v id ∷ [])
            ∙ ap (λ (h : History). calls (view p).seen n ++ h) (sym (told_one n v flag first reply id given))));
        never = λ i u s x y full. cc (full, not_full s id (let e : reply ≡ s = the_one i s y in subst (λ (z : Reply). id_of z ≡ Some id) e given));
        barred = λ i u s x y. barred_more part refusals store q w u s a.rest acted.rest k.known k.roots_stay (a.barred i u s x y);
        made = λ i h. ⊎_elim
            (λ (old : Has i (view p).made). inl old)
            (λ (of : IsOfOne store.about (view q).known (v ∷ []) i). inr (of_one_more store.about (view q).known (view w).known (v ∷ []) i k.known of))
            (a.made i (subst (λ (x : List ℕ). Has i x) k.made h));
        last = last_is acted.buffers k.about ∙ a.last;
        probes = (let more = k.probes in omega (arith, a.probes, more));
        few_made = (let more = k.probes in let long = ap (λ (l : List ℕ). length l) k.made in omega (arith, a.few_made, more, long));
      }
    where
      called : (n : ℕ) → (view q).number ≡ n → calls (deed (view q).number (Set flag first) v id ∷ []) n ≡ deed n (Set flag first) v id ∷ []
      called n same = subst (λ (m : ℕ). calls (deed m (Set flag first) v id ∷ []) n ≡ deed n (Set flag first) v id ∷ []) (sym same) (rw (eq-eqb n n refl) refl)

      the_one : (i : ℕ) (s : Reply) → slice_get (reply ∷ []) i ≡ Some s → reply ≡ s
      the_one zero s y = cc y
      the_one (suc i) s y = cc y

-- a line that was answered full is not marked
pub unmarked_one : {T : Type 0} (part : Part T) (store : Store) (v : Vector) (p q : PassOf T) (reply : Reply) (flag : ℕ) → id_of reply ≡ None
    → Inserted part store (v ∷ []) (reply ∷ []) (λ c. insertion.entries c v reply) p q
    → Inserted part store (v ∷ []) (reply ∷ []) (λ c. (marking flag).entries c v (reply, false)) p q
unmarked_one part store v p q (r.New n) flag e a = cc e
unmarked_one part store v p q (r.Seen n) flag e a = cc e
unmarked_one part store v p q r.FullNodes flag e a = a
unmarked_one part store v p q r.FullRoots flag e a = a

-- an answer of a marked line is proper
pub proper_named : (reply : Reply) (first : Bool) (id : ℕ) → id_of reply ≡ Some id → is_full reply ≡ true → first ≡ false
proper_named reply first id given full = cc (full, not_full reply id given)

-- ---- a run

module _ (flag : ℕ) (trace : List Vector) (answers : List (Reply × Bool)) where
  abbrev replies : List Reply
  replies = map (λ a. a.0) answers

  abbrev firsts : List Bool
  firsts = map (λ a. a.1) answers

  -- the entries of a line
  entries_are : (c k : ℕ) → entries_at (marking flag) trace answers c k ≡ entries_of_mark flag trace replies firsts c k
  entries_are c k =
      by (slice_get trace k) (slice_get answers k) (is_first firsts k)
      (λ a e. sym (get_or_from_slice_get firsts k a.1 false (slice_get-map (λ (x : Reply × Bool). x.1) answers k ∙ ap (option_map (λ (x : Reply × Bool). x.1)) e)))
      ∙ ap (λ (o : Option Reply). flat_map (then_set flag (is_first firsts k)) (option_to_list (entry_of_both c (slice_get trace k) o))) (sym (slice_get-map (λ (x : Reply × Bool). x.0) answers k))
    where
      by : (v : Option Vector) (o : Option (Reply × Bool)) (first : Bool) → ((a : Reply × Bool) → o ≡ Some a → a.1 ≡ first)
          → entries_of_both (marking flag) c v o ≡ flat_map (then_set flag first) (option_to_list (entry_of_both c v (option_map (λ (x : Reply × Bool). x.0) o)))
      by None o first h = refl
      by (Some v) None first h = refl
      by (Some v) (Some a) first h = ap (λ (b : Bool). flat_map (then_set flag b) (option_to_list (entry_of c v a.0))) (h a refl)

  -- a run of marks, by its replies and marks
  pub marking_run : {T : Type 0} (part : Part T) (about : About) (workers block : ℕ) (base new : PassOf T) (rs : List Reply) (fs : List Bool) → rs ≡ replies → fs ≡ firsts
      → HasRunTask (marking flag) part about trace answers workers block base new
      → HasRunMarked part about trace rs fs workers block flag base new
  marking_run part about workers block base new rs fs are_replies are_firsts run =
      subst (λ (x : List Reply). HasRunMarked part about trace x fs workers block flag base new) (sym are_replies)
      (subst (λ (y : List Bool). HasRunMarked part about trace replies y workers block flag base new) (sym are_firsts)
      (record {
        ran = subst (λ (es : ℕ → ℕ → History). HasRunOver (mine (length trace) workers block) es part about trace replies workers base new) (λ i c k. entries_are c k i) run.ran;
        marks = record {
          one_each = length-map answers (λ (x : Reply × Bool). x.1) ∙ sym (length-map answers (λ (x : Reply × Bool). x.0));
          full = λ i reply at full.
              (let a = map-at (λ (x : Reply × Bool). x.0) answers reply i at in
              let unmarked : a.0.1 ≡ false = all_at (marking flag).proper answers i a.0 run.proper a.1 (ap is_full a.2 ∙ full) in
              at-map (λ (x : Reply × Bool). x.1) answers a.0 i a.1 ∙ ap Some unmarked);
        };
      }))
