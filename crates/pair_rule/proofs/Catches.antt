-- Views that caught up: one after another, and as passes between calls.
use Rattle.std.proofs.Common.{◌≡◌, ◌<◌, ◌^◌, ℕ, ◌+◌, List, [], ◌∷◌, ◌++◌, length, drop, get_or, Bool, true, false, cond, refl, sym, ap, ◌∙◌, subst, ⊎_elim, eq-eqb, arith, append-nil}
use Rattle.std.specs.Prelude.{◌&&◌, ◌||◌, ◌==◌}
use Rattle.std.specs.List.{list_any}
use Rattle.std.proofs.lemmas.List.Sums.{sum_by-append}
use Rattle.tree_shape.specs.Tree.{Has, Stands}
use Rattle.tree_shape.proofs.Trees.{stands_more}
use Rattle.tdb_base.specs.History.{Put, Entry, History, is_fresh, calls}
use Rattle.tdb_base.specs.Legal.{Extends}
use Rattle.pair_rule.specs.declared.view.View.{View}
use Rattle.pair_rule.specs.declared.pass.PassOf.{PassOf}
use Rattle.pair_rule.specs.Part.{Part, Store}
use Rattle.pair_rule.specs.Rest.{Sound, SeatRests, AtRest, names_of_callers, view}
use Rattle.pair_rule.specs.Plays.{Caught}
use Rattle.pair_rule.proofs.Histories.{extends_refl, extends_trans}
use Rattle.pair_rule.proofs.Counts.{names_same}

-- how many names these callers gave: by one entry after another
names_append : (ns : List ℕ) (g h : History) → names_of_callers ns (g ++ h) ≡ names_of_callers ns g + names_of_callers ns h
names_append ns g h = sum_by-append (λ (e : Entry). cond (is_fresh e.act && list_any (λ c. c == e.caller) ns) 1 0) g h

any_of : (c : ℕ) (ns : List ℕ) → Has c ns → list_any (λ d. d == c) ns ≡ true
any_of c [] h = absurd h
any_of c (n ∷ ns) h = ⊎_elim
    (λ (e : c ≡ n). rw (eq-eqb n c (sym e)) refl)
    (λ (t : Has c ns). rw (any_of c ns t) (or_true (n == c)))
    h
  where
    or_true : (b : Bool) → (b || true) ≡ true
    or_true true = refl
    or_true false = refl

pub names_by_seen : (ns : List ℕ) (e : Entry) → e.act ≡ Put false → names_of_callers ns (e ∷ []) ≡ 0
names_by_seen ns e seen = rw seen refl

pub names_by_fresh : (ns : List ℕ) (e : Entry) → e.act ≡ Put true → Has e.caller ns → names_of_callers ns (e ∷ []) ≡ 1
names_by_fresh ns e fresh has = rw (fresh, any_of e.caller ns has) refl

module _ {T : Type 0} (part : Part T) where
  -- a view that nothing happened to
  pub caught_none : (v : View T) → Sound part v → Caught part [] v v
  caught_none v sound = record {
    log = v.seen;
    seen = sym (append-nil v.seen);
    begins = extends_refl v.seen;
    own = λ c has. refl;
    about = refl;
    face_is = refl;
    made = refl;
    probing = refl;
    probes = refl;
    known = λ i x has. has;
    roots_stay = λ i x has. has;
    sound = sound;
  }

  -- a view that caught up, and then again
  pub caught_then : (more : History) (v u w : View T) → Caught part [] v u → Caught part more u w → Caught part more v w
  caught_then more v u w a b =
      let whole : u.seen ≡ a.log = a.seen ∙ append-nil a.log in
      let front : Extends a.log b.log = subst (λ (h : History). Extends h b.log) whole b.begins in
      record {
        log = b.log;
        seen = b.seen;
        begins = extends_trans v.seen a.log b.log a.begins front;
        own = λ c has. b.own c (subst (Has c) (sym (ap (λ f. f.numbers) a.face_is)) has) ∙ (ap (λ (h : History). calls h c) whole ∙ a.own c has);
        about = b.about ∙ a.about;
        face_is = b.face_is ∙ a.face_is;
        made = b.made ∙ a.made;
        probing = b.probing ∙ a.probing;
        probes = b.probes ∙ a.probes;
        known = λ i x has. b.known i x (a.known i x has);
        roots_stay = λ i x has. b.roots_stay i x (a.roots_stay i x has);
        sound = b.sound;
      }

  module _ (store : Store) where
    -- the names that the pass gave, after it caught up and made these calls
    pub names_caught : (p q : PassOf T) (more : History) → AtRest part store p → Caught part more (view p) (view q)
        → names_of_callers (view q).numbers (view q).seen ≡ p.names_count + names_of_callers (view p).numbers more
    names_caught p q more r k =
        let ns = (view p).numbers in
        let numbers : (view q).numbers ≡ ns = ap (λ f. f.numbers) k.face_is in
        let before : names_of_callers ns k.log ≡ names_of_callers ns (view p).seen = names_same ns k.log (view p).seen r.seat.sound.numbers_once k.own in
        let both = names_append ns k.log more in
        let count = r.names_count in
        ap (λ (l : List ℕ). names_of_callers l (view q).seen) numbers ∙ (ap (λ (h : History). names_of_callers ns h) k.seen ∙ omega (arith, both, before, count))

    -- a pass that caught up, with its tree and its buffers as they were
    pub rests_caught : (p q : PassOf T) (more : History) → AtRest part store p → SeatRests part store q.seat → Caught part more (view p) (view q)
        → q.last_tree ≡ p.last_tree → q.next_tree ≡ p.next_tree → q.marks ≡ p.marks → q.has_last ≡ p.has_last → q.nodes_count ≡ p.nodes_count
        → q.names_count ≡ p.names_count + names_of_callers (view p).numbers more → AtRest part store q
    rests_caught p q more r seat k last next marks tree nodes names = record {
      seat = seat;
      last_length = ap (λ l. length l.items) last ∙ r.last_length;
      next_length = ap (λ l. length l.items) next ∙ r.next_length;
      marks_length = ap (λ l. length l.items) marks ∙ r.marks_length;
      last = λ has position low high. subst (λ l. Stands store.about.width store.about.slots (view q).known (drop store.about.slots l.items) position (get_or l.items position 0)) (sym last)
          (stands_more store.about.width store.about.slots (view p).known (view q).known (drop store.about.slots p.last_tree.items) position (get_or p.last_tree.items position 0) k.known (r.last (sym tree ∙ has) position low high));
      last_slots = λ has slot low. subst (λ l. get_or l.items (store.about.slots + slot) 0 < 2 ^ store.about.width) (sym last) (r.last_slots (sym tree ∙ has) slot low);
      nodes_count = nodes ∙ (r.nodes_count ∙ ap length (sym k.made));
      names_count = names ∙ sym (names_caught p q more r k);
    }
