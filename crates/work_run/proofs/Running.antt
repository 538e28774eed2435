-- What a run leaves: workers are split, insert their lines, and are dismissed.
use Rattle.std.proofs.Common.{◌≡◌, ◌⊎◌, ℕ, zero, suc, ◌+◌, ◌<◌, ◌≤◌, List, [], ◌∷◌, ◌++◌, length, get_or, map, false, Option, Some, None, refl, sym, ap, ◌∙◌, subst, inl, inr, ⊎_elim, arith, length-append}
use Rattle.std.specs.Prelude.{All, Contains, cond, flat_map, slice_get, sum}
use Rattle.std.specs.List.{range_with_len}
use Rattle.std.proofs.lemmas.List.FromFn.{length-map-range_with_len}
use Rattle.std.proofs.lemmas.List.{get_or-map, length-map, nil_from_length}
use Rattle.std.proofs.lemmas.List.Sums.{sum_by-cons}
use Rattle.std.proofs.lemmas.Option.{get_or_from_slice_get, slice_get_within, slice_get-get_or}
use Rattle.tree_shape.specs.Tree.{Has, IsPart}
use Rattle.tdb_base.specs.Agrees.{AgreesOverAmongOthers}
use Rattle.tdb_base.specs.History.{Vector, Entry, History, calls}
use Rattle.tdb_base.specs.Legal.{IsLegal, Extends}
use Rattle.tdb_base.specs.Lines.{picked}
use Rattle.tdb_base.specs.declared.reply.Reply.{Reply}
use Rattle.tdb_base.specs.declared.reply.Reply.TheVariants as r
use Rattle.tdb_base.proofs.AgreesLemmas.{calls-some}
use Rattle.tdb_base.proofs.ListLemmas.{at-contained, at-within}
use Rattle.tdb_base.proofs.PickLemmas.{picked_length}
use Rattle.tdb_base.proofs.TallyLemmas.{contained-at}
use Rattle.pair_rule.specs.declared.view.View.{View}
use Rattle.pair_rule.specs.declared.sizes.About.{About}
use Rattle.pair_rule.specs.declared.pass.PassOf.{PassOf}
use Rattle.pair_rule.specs.Paths.{node_buckets, size, Listed}
use Rattle.pair_rule.specs.View.{child_view}
use Rattle.pair_rule.specs.Rest.{Whole, view, last_vector}
use Rattle.pair_rule.proofs.Census.{child_same}
use Rattle.pair_rule.proofs.Lists.{has_either}
use Rattle.pair_rule.proofs.Histories.{calls_append}
use Rattle.pair_rule.specs.Part.{Store, Part, root_pairs}
use Rattle.pair_rule.specs.Splits.{HasTaken}
use Rattle.pair_nodes.specs.Roots.{Refusals}
use Rattle.work_run.specs.declared.worker.Worker.{Worker}
use Rattle.pair_rule.specs.Callers.{after_splits, after_joins, AreJoined}
use Rattle.work_run.specs.Workers.{IsSplitWorker, AreSplitWorkers}
use Rattle.work_run.specs.Full.{IsOfOne, is_full_inside, full_inside}
use Rattle.work_run.specs.Giving.{Giving}
use Rattle.work_run.specs.Inserted.{puts_of, Inserted}
use Rattle.tdb_base.specs.Lines.{owned}
use Rattle.work_run.specs.Telling.{Telling, told_entries, entries_at}
use Rattle.work_run.specs.Work.{CanWork, HasTakenLines}
use Rattle.work_run.specs.Ran.{HasRunTold, KeepsPass, OneHistoryOver, FullAreBarred, NewNodesAreOfLines, puts_of_worker, puts_of_all}
use Rattle.work_run.specs.Enough.{IsOfNewStore, HasNodesFor, NeverAnswered}
use Rattle.work_run.proofs.Answered.{barred_more, of_one_more}
use Rattle.work_run.proofs.Few.{few_puts}
use Rattle.work_run.proofs.Filled.{all_are_filled, has_all_below}
use Rattle.pair_rule.proofs.Elements.{has_map, has_unmap, has_place, placed}
use Rattle.work_run.proofs.Elements.{has_or_not, numbered_at, at_numbered}
use Rattle.pair_rule.proofs.InTurn.{given, after_splits_stay, whole_again}
use Rattle.pair_rule.proofs.InTurn.{numbers_first, numbers_other}
use Rattle.work_run.proofs.Mine.{all_at, picked_at, picked_has, picked_map}
use Rattle.work_run.proofs.Owned.{owned_below, owned_at}
use Rattle.work_run.proofs.Telling.{told_picked}

module _ {T : Type 0} where
  after_splits_splits : (n : ℕ) (v : View T) → (after_splits n v).splits ≡ v.splits + n
  after_splits_splits zero v = omega arith
  after_splits_splits (suc n) v = let h = after_splits_splits n v in omega (arith, h)

  -- different passes that were split from one have different numbers
  given_differ : (v : View T) (j k : ℕ) → given v j ≡ given v k → j ≡ k
  given_differ v j k same =
      let both = child_same (after_splits j v).number (after_splits k v).number (after_splits j v).splits (after_splits k v).splits same in
      omega (arith, both.1, after_splits_splits j v, after_splits_splits k v)

  module _ (join : T → T → T) where
    numbers_either : (v : View T) (ws : List (View T)) (c : ℕ) → Has c (after_joins join v ws).numbers → Has c v.numbers ⊎ ((w : View T) × Has w ws × Has c w.numbers)
    numbers_either v [] c h = inl h
    numbers_either v (w ∷ ws) c h = ⊎_elim
        (λ (a : Has c (after_joins join v ws).numbers). ⊎_elim
        (λ (b : Has c v.numbers). inl b)
        (λ (f : (u : View T) × Has u ws × Has c u.numbers). let found : (u : View T) × Has u (w ∷ ws) × Has c u.numbers = (f.0, inr f.1, f.2) in inr found)
        (numbers_either v ws c a))
        (λ (b : Has c w.numbers). let found : (u : View T) × Has u (w ∷ ws) × Has c u.numbers = (w, inl refl, b) in inr found)
        (has_either c (after_joins join v ws).numbers w.numbers h)

    made_either : (v : View T) (ws : List (View T)) (i : ℕ) → Has i (after_joins join v ws).made → Has i v.made ⊎ ((w : View T) × Has w ws × Has i w.made)
    made_either v [] i h = inl h
    made_either v (w ∷ ws) i h = ⊎_elim
        (λ (a : Has i (after_joins join v ws).made). ⊎_elim
        (λ (b : Has i v.made). inl b)
        (λ (f : (u : View T) × Has u ws × Has i u.made). let found : (u : View T) × Has u (w ∷ ws) × Has i u.made = (f.0, inr f.1, f.2) in inr found)
        (made_either v ws i a))
        (λ (b : Has i w.made). let found : (u : View T) × Has u (w ∷ ws) × Has i u.made = (w, inl refl, b) in inr found)
        (has_either i (after_joins join v ws).made w.made h)

    after_joins_number : (v : View T) (ws : List (View T)) → (after_joins join v ws).number ≡ v.number
    after_joins_number v [] = refl
    after_joins_number v (w ∷ ws) = after_joins_number v ws

    -- the probes of views that were joined into one
    probes_within : (v : View T) (ws : List (View T)) (most : ℕ → ℕ) (from : ℕ) → ((j : ℕ) (d : View T) → j < length ws → (get_or ws j d).probes ≤ most (from + j))
        → (after_joins join v ws).probes ≤ v.probes + sum (map most (range_with_len from (length ws)))
    probes_within v [] most from each = omega arith
    probes_within v (w ∷ ws) most from each =
        let rest = probes_within v ws most (from + 1) (λ j d lt. let h = each (suc j) d (omega arith) in let e : from + suc j ≡ (from + 1) + j = omega arith in subst (λ (n : ℕ). (get_or ws j d).probes ≤ most n) e h) in
        let here = subst (λ (n : ℕ). w.probes ≤ most n) (let e : from + 0 ≡ from = omega arith in e) (each 0 w (omega arith)) in
        omega (arith, rest, here, sum_by-cons (λ (x : ℕ). x) (most from) (map most (range_with_len (from + 1) (length ws))))

    -- views that put no more nodes than they began probes were joined into one, and one of them put fewer
    made_within : (v : View T) (ws : List (View T)) → ((u : View T) → Has u ws → length u.made ≤ u.probes) → length (after_joins join v ws).made + v.probes ≤ length v.made + (after_joins join v ws).probes
    made_within v [] each = omega arith
    made_within v (w ∷ ws) each =
        let long = length-append (after_joins join v ws).made w.made in
        omega (arith, made_within v ws (λ u t. each u (inr t)), each w (inl refl), long)

    made_fewer : (v : View T) (ws : List (View T)) → ((u : View T) → Has u ws → length u.made ≤ u.probes) → (one : View T) → Has one ws → length one.made < one.probes → length (after_joins join v ws).made + v.probes < length v.made + (after_joins join v ws).probes
    made_fewer v [] each one there fewer = absurd there
    made_fewer v (w ∷ ws) each one there fewer =
        let long = length-append (after_joins join v ws).made w.made in
        ⊎_elim
        (λ (e : one ≡ w). let here = subst (λ (u : View T). length u.made < u.probes) e fewer in omega (arith, made_within v ws (λ u t. each u (inr t)), here, long))
        (λ (t : Has one ws). let rest = made_fewer v ws (λ u t. each u (inr t)) one t fewer in omega (arith, rest, each w (inl refl), long))
        there

-- some reply says so
full_counted : (replies : List Reply) (k : ℕ) → slice_get replies k ≡ Some r.FullNodes → 1 ≤ full_inside replies
full_counted [] k at = cc at
full_counted (reply ∷ replies) zero at = let e : reply ≡ r.FullNodes = cc at in rw e (omega (arith, sum_by-cons (λ (x : Reply). cond (is_full_inside x) 1 0) r.FullNodes replies))
full_counted (reply ∷ replies) (suc k) at = omega (arith, full_counted replies k at, sum_by-cons (λ (x : Reply). cond (is_full_inside x) 1 0) reply replies)

-- workers that were split can work
pub can_work : {T S A : Type 0} (part : Part T) (store : Store) (giving : Giving S) (begins : ℕ → S → Type 0) (base now : PassOf T) (all_workers : List (Worker T S A)) (lines : ℕ)
    → AreSplitWorkers part store giving.left begins base now all_workers → ((j : ℕ) (s : S) → begins j s → giving.within lines s) → All (CanWork part store giving lines) all_workers
can_work part store giving begins base now all_workers lines split inside = λ k d lt.
    (let w = split.each k d lt in
    record { rest = w.split.rest; none_yet = w.none_yet; room = w.room; inside = inside k (get_or all_workers k d).lines w.begins_so })

-- each worker has an answer for each of its lines
pub answers_each : {T S A : Type 0} (part : Part T) (store : Store) (giving : Giving S) (telling : Telling A) (trace : List Vector) (owner : ℕ → ℕ) (all_workers after : List (Worker T S A))
    → ((j : ℕ) (d : Worker T S A) → j < length all_workers → HasTakenLines part store giving telling trace (owned (length trace) owner j) (get_or all_workers j d) (get_or after j d)) → length after ≡ length all_workers
    → (j : ℕ) (d : Worker T S A) → j < length after → length (get_or after j d).answers.items ≡ length (owned (length trace) owner j)
answers_each part store giving telling trace owner all_workers after worked all_after j d lt =
    let a = worked j d (omega arith) in
    sym (length-map (get_or after j d).answers.items telling.reply) ∙ (a.inserted.one_each ∙ picked_length trace (owned (length trace) owner j) (owned_below (length trace) owner j))

module _ {T S A : Type 0} (part : Part T) (refusals : Refusals part) (store : Store) (giving : Giving S) (telling : Telling A) (begins : ℕ → S → Type 0) (base now new : PassOf T) (trace : List Vector) (answers : List A)
    (owner : ℕ → ℕ) (workers : ℕ) (owners : (i : ℕ) → i < length trace → owner i < workers)
    (all_workers after : List (Worker T S A)) (split : AreSplitWorkers part store giving.left begins base now all_workers) (all_split : length all_workers ≡ workers)
    (worked : (j : ℕ) (d : Worker T S A) → j < length all_workers → HasTakenLines part store giving telling trace (owned (length trace) owner j) (get_or all_workers j d) (get_or after j d)) (all_after : length after ≡ length all_workers)
    (answer_each : length answers ≡ length trace)
    (are_placed : (j : ℕ) (d : Worker T S A) → j < length after → picked answers (owned (length trace) owner j) ≡ (get_or after j d).answers.items)
    (joint : AreJoined part store now new (map (λ (w : Worker T S A). w.pass) after)) where
  abbrev v0 : View T
  v0 = view base

  abbrev passes : List (PassOf T)
  passes = map (λ (w : Worker T S A). w.pass) after

  abbrev views : List (View T)
  views = map (λ (p : PassOf T). view p) passes

  abbrev lines_of : ℕ → List ℕ
  lines_of = owned (length trace) owner

  abbrev replies : List Reply
  replies = map telling.reply answers

  abbrev own_entries : ℕ → ℕ → History
  own_entries j caller = told_entries telling caller (picked trace (lines_of j)) (picked answers (lines_of j))

  one_each : length replies ≡ length trace
  one_each = length-map answers telling.reply ∙ answer_each

  -- the worker with this number: its pass before and after it inserted its lines
  record Mate (j : ℕ) : Type 0 where
    start : PassOf T
    pass : PassOf T
    there : Has pass passes
    here : (d : Worker T S A) → (get_or after j d).pass ≡ pass
    start_is : view start ≡ child_view part.split (after_splits j v0)
    start_tree : last_vector start ≡ None
    fresh : calls v0.seen (given v0 j) ≡ []
    inserted : Inserted part store (picked trace (lines_of j)) (picked replies (lines_of j)) (own_entries j) start pass

  untreed : (p : PassOf T) → p.has_last ≡ false → last_vector p ≡ None
  untreed p none = rw none refl

  mate : (j : ℕ) → j < workers → Mate j
  mate j lt =
      let p = placed after j (omega arith) in
      let q = placed all_workers j (omega arith) in
      let h = split.each j q.one (omega arith) in
      let a = worked j p.one (omega arith) in
      let start = get_or all_workers j p.one in
      let is_split = subst (λ (w : Worker T S A). IsSplitWorker part store giving.left begins (after_splits j v0) j w) (q.here q.one ∙ sym (q.here p.one)) h in
      let own : (get_or after j p.one).answers.items ≡ picked answers (lines_of j) = sym (are_placed j p.one (omega arith)) in
      record {
        start = start.pass;
        pass = p.one.pass;
        there = has_map (λ (w : Worker T S A). w.pass) p.one after p.there;
        here = λ d. ap (λ (w : Worker T S A). w.pass) (p.here d);
        start_is = is_split.split.view_is;
        start_tree = untreed start.pass is_split.split.no_tree;
        fresh = ap (λ (h : History). calls h (given v0 j)) (sym (after_splits_stay j v0).seen) ∙ subst (λ (n : ℕ). calls (after_splits j v0).seen n ≡ []) (ap (λ (u : View T). u.number) is_split.split.view_is) is_split.split.unknown.no_calls;
        inserted = subst (λ (w : Worker T S A). Inserted part store (picked trace (lines_of j)) (picked replies (lines_of j)) (own_entries j) start.pass w.pass) (p.here p.one)
            (subst (λ (r : List Reply). Inserted part store (picked trace (lines_of j)) r (own_entries j) start.pass (get_or after j p.one).pass) (sym (picked_map telling.reply answers (lines_of j)))
            (subst (λ (x : List A). Inserted part store (picked trace (lines_of j)) (map telling.reply x) (λ c. told_entries telling c (picked trace (lines_of j)) x) start.pass (get_or after j p.one).pass) own a.inserted));
      }

  -- each pass that was joined is that of a worker
  mate_of : (u : View T) → Has u views → (j : ℕ) × (lt : j < workers) × (u ≡ view (mate j lt).pass)
  mate_of u h =
      let p = has_unmap (λ (p : PassOf T). view p) u passes h in
      let w = has_unmap (λ (w : Worker T S A). w.pass) p.0 after p.1 in
      let place = has_place w.0 after w.1 in
      let lt : place.0 < workers = omega (arith, place.1, all_after, all_split) in
      let m = mate place.0 lt in
      (place.0, lt, p.2 ∙ (ap (λ (q : PassOf T). view q) (w.2 ∙ ap (λ (x : Worker T S A). x.pass) (sym place.2)) ∙ ap (λ (q : PassOf T). view q) (m.here w.0)))

  -- what the new view is
  joined_is : view new ≡ after_joins part.join (after_splits workers v0) views
  joined_is = joint.view_is ∙ (λ i. after_joins part.join ((split.view_is ∙ ap (λ (n : ℕ). after_splits n v0) all_split) i) views)

  numbers_of : (j : ℕ) (lt : j < workers) → (view (mate j lt).pass).numbers ≡ given v0 j ∷ []
  numbers_of j lt = let m = mate j lt in ap (λ f. f.numbers) m.inserted.face_is ∙ ap (λ (u : View T). u.numbers) m.start_is

  born_of_mate : (j : ℕ) (lt : j < workers) → (view (mate j lt).pass).born ≡ []
  born_of_mate j lt = let m = mate j lt in ap (λ f. f.born) m.inserted.face_is ∙ ap (λ (u : View T). u.born) m.start_is

  has_own : (j : ℕ) (lt : j < workers) → Has (given v0 j) (view (mate j lt).pass).numbers
  has_own j lt = subst (λ (x : List ℕ). Has (given v0 j) x) (sym (numbers_of j lt)) (inl refl)

  taken_of : (j : ℕ) (lt : j < workers) → HasTaken part (view (mate j lt).pass) (view new)
  taken_of j lt = joint.taken (mate j lt).pass (mate j lt).there

  has_view : (j : ℕ) (lt : j < workers) → Has (view (mate j lt).pass) views
  has_view j lt = has_map (λ (p : PassOf T). view p) (mate j lt).pass passes (mate j lt).there

  -- a whole pass is whole again
  pub whole_run : Whole v0 → Whole (view new)
  whole_run whole = subst (λ (u : View T). Whole u) (sym joined_is)
      (whole_again part.join v0 workers views whole
      (λ u h. (let m = mate_of u h in ap (λ (x : View T). x.born) m.2 ∙ born_of_mate m.0 m.1))
      (λ j lt. (view (mate j lt).pass, has_view j lt, has_own j lt)))

  -- the calls of a worker
  calls_of : (j : ℕ) (lt : j < workers) → calls (view new).seen (given v0 j) ≡ flat_map (entries_at telling trace answers (given v0 j)) (lines_of j)
  calls_of j lt =
      let m = mate j lt in
      let n = given v0 j in
      let start : (view m.start).number ≡ n = ap (λ (u : View T). u.number) m.start_is in
      let own = subst (λ (x : ℕ). calls (view m.pass).seen x ≡ calls (view m.start).seen x ++ own_entries j x) start m.inserted.own in
      let none : calls (view m.start).seen n ≡ [] = ap (λ (u : View T). calls u.seen n) m.start_is ∙ (ap (λ (h : History). calls h n) (after_splits_stay j v0).seen ∙ m.fresh) in
      (taken_of j lt).calls n (has_own j lt)
      ∙ (own ∙ (ap (λ (h : History). h ++ own_entries j n) none
      ∙ sym (told_picked telling n trace answers (lines_of j) answer_each (owned_below (length trace) owner j))))

  -- the line with a number is one of its worker's, as is the reply
  record Turn (i : ℕ) (v : Vector) (reply : Reply) : Type 0 where
    worker : ℕ
    among : worker < workers
    number : ℕ
    line : slice_get (picked trace (lines_of worker)) number ≡ Some v
    answer : slice_get (picked replies (lines_of worker)) number ≡ Some reply

  turn : (i : ℕ) (v : Vector) (reply : Reply) → slice_get trace i ≡ Some v → slice_get replies i ≡ Some reply → Turn i v reply
  turn i v reply a b =
      let lt = slice_get_within trace i v a in
      let j : ℕ = owner i in
      let at = owned_at (length trace) owner i lt in
      let below = owned_below (length trace) owner j in
      record {
        worker = j;
        among = owners i lt;
        number = at.0;
        line = picked_at trace (lines_of j) at.0 i v below at.1 a;
        answer = picked_at replies (lines_of j) at.0 i reply (subst (λ (n : ℕ). All (λ k. k < n) (lines_of j)) (sym one_each) below) at.1 b;
      }

  pub full_run : FullAreBarred part store.about trace replies (view new)
  full_run i v reply a b =
      let t = turn i v reply a b in
      let m = mate t.worker t.among in
      let k = taken_of t.worker t.among in
      barred_more part refusals store m.pass new v reply m.inserted.rest joint.rest k.known k.roots (m.inserted.barred t.number v reply t.line t.answer)

  callers : List ℕ
  callers = map (given v0) (range_with_len 0 workers)

  among_run : AgreesOverAmongOthers store.about.flags lines_of (entries_at telling trace answers) trace replies workers v0.seen (view new).seen callers
  unfolding callers
  among_run = record {
    one_each = one_each;
    legal = subst (λ (x : About). IsLegal x.flags (view new).seen) joint.rest.seat.about_is joint.rest.seat.sound.legal;
    extends = subst (λ (h : History). Extends h (view new).seen) (ap (λ (u : View T). u.seen) (split.view_is) ∙ (after_splits_stay (length all_workers) v0).seen) joint.base_taken.seen;
    callers_count = length-map-range_with_len (given v0) 0 workers;
    callers_differ = λ j k c a b.
        (let x = at_numbered (given v0) workers j c a in
        let y = at_numbered (given v0) workers k c b in
        given_differ v0 j k (sym x.1 ∙ y.1));
    callers_new = λ c there.
        (let at = at-contained callers c there in
        let x = at_numbered (given v0) workers at.0 c at.1 in
        ap (λ (n : ℕ). calls v0.seen n) x.1 ∙ (mate at.0 x.0).fresh);
    in_order = λ j c a.
        (let x = at_numbered (given v0) workers j c a in
        subst (λ (n : ℕ). calls (view new).seen n ≡ flat_map (entries_at telling trace answers n) (lines_of j)) (sym x.1) (calls_of j x.0));
    full = λ i v reply a b full.
        (let t = turn i v reply a b in
        let m = mate t.worker t.among in
        let k = taken_of t.worker t.among in
        m.inserted.never t.number v reply t.line t.answer full new joint.rest k.known k.roots);
  }

  joined_run : (c : ℕ) → Contains callers c → Has c (view new).numbers
  unfolding callers
  joined_run c there =
      let at = at-contained callers c there in
      let x = at_numbered (given v0) workers at.0 c at.1 in
      subst (λ (n : ℕ). Has n (view new).numbers) (sym x.1)
      (subst (λ (u : View T). Has (given v0 at.0) u.numbers) (sym joined_is) (numbers_other part.join (after_splits workers v0) (view (mate at.0 x.0).pass) views (given v0 at.0) (has_view at.0 x.0) (has_own at.0 x.0)))

  -- whoever called since has more calls than before
  silent : (more : History) → (view new).seen ≡ v0.seen ++ more → (e : Entry) → Contains more e → length (calls (view new).seen e.caller) ≤ length (calls v0.seen e.caller) → ⊥
  silent more is e there few =
      let at = at-contained more e there in
      let whole : calls (view new).seen e.caller ≡ calls v0.seen e.caller ++ calls more e.caller = ap (λ (h : History). calls h e.caller) is ∙ calls_append v0.seen more e.caller in
      let long = ap (λ (h : History). length h) whole ∙ length-append (calls v0.seen e.caller) (calls more e.caller) in
      calls-some more at.0 e at.1 (nil_from_length (calls more e.caller) (omega (arith, few, long)))

  now_is : view now ≡ after_splits workers v0
  now_is = split.view_is ∙ ap (λ (n : ℕ). after_splits n v0) all_split

  old_calls : (c : ℕ) → Has c v0.numbers → calls (view new).seen c ≡ calls v0.seen c
  old_calls c h =
      joint.base_taken.calls c (subst (λ (u : View T). Has c u.numbers) (sym now_is) (subst (λ (x : List ℕ). Has c x) (sym (after_splits_stay workers v0).numbers) h))
      ∙ ap (λ (u : History). calls u c) (ap (λ (u : View T). u.seen) now_is ∙ (after_splits_stay workers v0).seen)

  -- who called is a worker
  caller_of : Whole v0 → (more : History) → (view new).seen ≡ v0.seen ++ more → (e : Entry) → Contains more e → Contains callers e.caller
  unfolding callers
  caller_of whole more is e there =
      let c = e.caller in
      let all = joint.rest.seat.sound.whole (whole_run whole) in
      ⊎_elim
      (λ (h : Has c (view new).numbers). ⊎_elim
      (λ (old : Has c (after_splits workers v0).numbers). absurd (silent more is e there (let same = ap (λ (h : History). length h) (old_calls c (subst (λ (x : List ℕ). Has c x) (after_splits_stay workers v0).numbers old)) in omega (arith, same))))
      (λ (f : (w : View T) × Has w views × Has c w.numbers).
      let m = mate_of f.0 f.1 in
      let own : Has c (given v0 m.0 ∷ []) = subst (λ (x : List ℕ). Has c x) (ap (λ (u : View T). u.numbers) m.2 ∙ numbers_of m.0 m.1) f.2 in
      ⊎_elim (λ (same : c ≡ given v0 m.0). contained-at callers c (m.0, numbered_at (given v0) workers m.0 m.1 ∙ ap Some (sym same))) (λ (no : ⊥). absurd no) own)
      (numbers_either part.join (after_splits workers v0) views c (subst (λ (u : View T). Has c u.numbers) joined_is h)))
      (λ (none : Has c (view new).numbers → ⊥). absurd (silent more is e there (let nothing = ap (λ (h : History). length h) (all.callers c none) in omega (arith, nothing))))
      (has_or_not c (view new).numbers)

  pub history_run : OneHistoryOver lines_of (entries_at telling trace answers) store.about trace replies workers v0 (view new)
  unfolding callers
  history_run = (callers, record { among = among_run; joined = joined_run; alone = λ whole. record { among = among_run; no_others = caller_of whole } })

  -- the nodes that came in
  pub nodes_run : NewNodesAreOfLines store.about trace v0 (view new)
  nodes_run whole index pair there =
      let all = joint.rest.seat.sound.whole (whole_run whole) in
      let made : Has index (after_joins part.join (after_splits workers v0) views).made = subst (λ (u : View T). Has index u.made) joined_is (all.made index pair there) in
      ⊎_elim
      (λ (old : Has index (after_splits workers v0).made).
      let h = subst (λ (x : List ℕ). Has index x) (sym (ap (λ (u : View T). u.made) now_is)) old in
      let k = split.rest.seat.sound.made index h in
      inl (k.0, subst (λ (x : List (ℕ × ℕ)). Has (index, k.0) x) (ap (λ (u : View T). u.known) now_is ∙ (after_splits_stay workers v0).known) k.1))
      (λ (f : (w : View T) × Has w views × Has index w.made).
      let t = mate_of f.0 f.1 in
      let m = mate t.0 t.1 in
      let here = subst (λ (u : View T). Has index u.made) t.2 f.2 in
      ⊎_elim
      (λ (before : Has index (view m.start).made). absurd (subst (λ (x : List ℕ). Has index x) (ap (λ (u : View T). u.made) m.start_is) before))
      (λ (of : IsOfOne store.about (view m.pass).known (picked trace (lines_of t.0)) index).
      let o = of_one_more store.about (view m.pass).known (view new).known (picked trace (lines_of t.0)) index (taken_of t.0 t.1).known of in
      inr (o.0, picked_has trace (lines_of t.0) o.0 o.1, o.2))
      (m.inserted.made index here))
      (made_either part.join (after_splits workers v0) views index made)

  -- the probes
  few_probes : (j : ℕ) (lt : j < workers) → (view (mate j lt).pass).probes ≤ puts_of_worker store.about trace replies (lines_of j)
  few_probes j lt =
      let m = mate j lt in
      let none : (view m.start).probes ≡ 0 = ap (λ (u : View T). u.probes) m.start_is in
      let puts = ap (λ (o : Option Vector). puts_of store.about o (picked trace (lines_of j)) (picked replies (lines_of j))) m.start_tree in
      omega (arith, m.inserted.probes, none, puts)

  view_at : (j : ℕ) (d : View T) (lt : j < workers) → get_or views j d ≡ view (mate j lt).pass
  view_at j d lt =
      let here : j < length after = omega (arith, all_after, all_split) in
      let one = (placed after j here).one in
      get_or-map (λ (p : PassOf T). view p) passes j one.pass d (omega (arith, length-map after (λ (w : Worker T S A). w.pass)))
      ∙ (ap (λ (p : PassOf T). view p) (get_or-map (λ (w : Worker T S A). w.pass) after j one one.pass here) ∙ ap (λ (p : PassOf T). view p) ((mate j lt).here one))

  pub probes_run : (view new).probes ≤ v0.probes + puts_of_all store.about trace replies lines_of workers
  probes_run =
      let most = λ (j : ℕ). puts_of_worker store.about trace replies (lines_of j) in
      let long : length views ≡ workers = length-map passes (λ (p : PassOf T). view p) ∙ (length-map after (λ (w : Worker T S A). w.pass) ∙ (all_after ∙ all_split)) in
      let few = probes_within part.join (after_splits workers v0) views most 0
      (λ j d lt. (let inside : j < workers = omega (arith, long) in subst (λ (n : ℕ). (get_or views j d).probes ≤ most n) (let e : j ≡ 0 + j = omega arith in e)
      (subst (λ (u : View T). u.probes ≤ most j) (sym (view_at j d inside)) (few_probes j inside)))) in
      let same = ap (λ (u : View T). u.probes) joined_is in
      let total = ap (λ (n : ℕ). sum (map most (range_with_len 0 n))) long in
      omega (arith, few, same, total, (after_splits_stay workers v0).probes)

  made_each : (u : View T) → Has u views → length u.made ≤ u.probes
  made_each u h =
      let m = mate_of u h in
      let sound = (mate m.0 m.1).inserted.rest.seat.sound in
      subst (λ (x : View T). length x.made ≤ x.probes) (sym m.2) (omega (arith, sound.probed))

  -- where a line was full inside its tree, fewer nodes were put than probes were begun
  made_run : (i : ℕ) → slice_get replies i ≡ Some r.FullNodes → length (view new).made + v0.probes < length v0.made + (view new).probes
  made_run i at =
      let lt : i < length trace = omega (arith, slice_get_within replies i r.FullNodes at, one_each) in
      let v = placed trace i lt in
      let t = turn i v.one r.FullNodes (slice_get-get_or trace i v.one lt ∙ ap Some (v.here v.one)) at in
      let m = mate t.worker t.among in
      let full = full_counted (picked replies (lines_of t.worker)) t.number t.answer in
      let none : (view m.start).probes ≡ 0 = ap (λ (u : View T). u.probes) m.start_is in
      let empty : length (view m.start).made ≡ 0 = ap (λ (u : View T). length u.made) m.start_is in
      let fewer : length (view m.pass).made < (view m.pass).probes = omega (arith, m.inserted.few_made, full, none, empty) in
      let less = made_fewer part.join (after_splits workers v0) views made_each (view m.pass) (has_view t.worker t.among) fewer in
      let stay = after_splits_stay workers v0 in
      omega (arith, less, ap (λ (u : View T). length u.made) joined_is, ap (λ (u : View T). u.probes) joined_is, ap (λ (l : List ℕ). length l) stay.made, stay.probes)

  -- in a new store with a bucket for each node that the lines can have no line is full inside its tree
  enough_run : IsOfNewStore v0 → HasNodesFor store.about (length trace) → NeverAnswered replies r.FullNodes
  enough_run is_new room i at =
      let lt : i < length trace = omega (arith, slice_get_within replies i r.FullNodes at, one_each) in
      let v = placed trace i lt in
      let blocked = (full_run i v.one r.FullNodes (slice_get-get_or trace i v.one lt ∙ ap Some (v.here v.one)) at).blocked in
      let all = joint.rest.seat.sound.whole (whole_run is_new.whole) in
      let b = node_buckets store.about in
      let filled = has_all_below (size b) (view new).made (λ j below. (let here = all_are_filled b joint.rest.seat.is_about.range.least_nodes room.all_walked (Listed (view new).known) _ blocked j below in all.made j here.0 here.1)) in
      let none : length v0.made ≡ 0 = ap (λ (l : List ℕ). length l) (nothing_made is_new.no_nodes) in
      omega (arith, filled, none, made_run i at, probes_run, few_puts store.about trace replies owner workers owners, room.enough)
    where
      nothing_made : v0.known ≡ [] → v0.made ≡ []
      nothing_made empty = by v0.made (λ j h. let k = made_then_known j h in subst (λ (l : List (ℕ × ℕ)). Has (j, k.0) l) empty k.1)
        where
          by : (l : List ℕ) → ((j : ℕ) → Has j l → ⊥) → l ≡ []
          by [] without = refl
          by (j ∷ l) without = absurd (without j (inl refl))

          made_then_known : (j : ℕ) → Has j v0.made → (pair : ℕ) × Has (j, pair) v0.known
          made_then_known j h =
              let stay = after_splits_stay workers v0 in
              let k = split.rest.seat.sound.made j (subst (λ (l : List ℕ). Has j l) (sym (ap (λ (u : View T). u.made) now_is ∙ stay.made)) h) in
              (k.0, subst (λ (l : List (ℕ × ℕ)). Has (j, k.0) l) (ap (λ (u : View T). u.known) now_is ∙ stay.known) k.1)

  -- what the pass had
  kept_run : KeepsPass part base new
  kept_run =
      let stay = after_splits_stay workers v0 in
      record {
        pass_is = joint.pass_is ∙ (λ i. record (split.pass_is i) { seat = new.seat; nodes_count = new.nodes_count; names_count = new.names_count });
        number = ap (λ (u : View T). u.number) joined_is ∙ (after_joins_number part.join (after_splits workers v0) views ∙ stay.number);
        numbers = λ c h. subst (λ (u : View T). Has c u.numbers) (sym joined_is) (numbers_first part.join (after_splits workers v0) views c (subst (λ (x : List ℕ). Has c x) (sym stay.numbers) h));
        calls_stay = old_calls;
        known = λ i x h. joint.base_taken.known i x (subst (λ (y : List (ℕ × ℕ)). Has (i, x) y) (sym (ap (λ (u : View T). u.known) now_is ∙ stay.known)) h);
        roots = subst (λ (pairs : List (ℕ × ℕ)). IsPart pairs (root_pairs part (view new))) (ap (λ (u : View T). root_pairs part u) now_is ∙ (λ i. part.roots (stay.about i) (stay.seen i) (stay.root i))) joint.base_taken.roots;
      }

  -- each answer is one of a worker's
  proper_run : All telling.proper answers
  proper_run = λ k d lt.
      (let line : k < length trace = omega (arith, lt, answer_each) in
      let j : ℕ = owner k in let at = owned_at (length trace) owner k line in
      let below : All (λ i. i < length answers) (lines_of j) = subst (λ (n : ℕ). All (λ i. i < n) (lines_of j)) (sym answer_each) (owned_below (length trace) owner j) in
      let a = at-within answers k lt in
      let among = owners k line in
      let w = (placed after j (omega (arith, among, all_after, all_split))).one in
      let there : slice_get (get_or after j w).answers.items at.0 ≡ Some a.0 = ap (λ (xs : List A). slice_get xs at.0) (sym (are_placed j w (omega (arith, among, all_after, all_split)))) ∙ picked_at answers (lines_of j) at.0 k a.0 below at.1 a.1 in
      subst telling.proper (sym (get_or_from_slice_get answers k a.0 d a.1))
      (all_at telling.proper (get_or after j w).answers.items at.0 a.0 (worked j w (omega (arith, among, all_split))).proper there))

  -- all of it
  pub runs : HasRunTold (owned (length trace) owner) telling part store.about trace answers workers base new
  runs = record {
    proper = proper_run;
    ran = record { one_history = history_run; kept = kept_run; whole = whole_run; nodes = nodes_run; full = full_run; enough_nodes = enough_run; probes = probes_run };
  }
