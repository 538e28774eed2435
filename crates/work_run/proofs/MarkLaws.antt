-- How often lines are marked first: the lines agree with the insertions of a history and with its marks.
use Rattle.std.proofs.Common.{◌≡◌, ◌<◌, ◌+◌, ℕ, zero, suc, List, [], ◌∷◌, length, map, Option, Some, None, Bool, true, false, cond, refl, sym, ap, subst, arith, ◌∙◌}
use Rattle.std.specs.Prelude.{◌&&◌, ◌==◌, count_by, filter, flat_map, option_map, option_to_list, slice_get, sum_by}
use Rattle.std.specs.List.{zip}
use Rattle.std.proofs.lemmas.List.Sums.{length-filter, sum_by-cons}
use Rattle.pair_nodes.specs.Roots.{deed}
use Rattle.tdb_base.specs.Agrees.{Agrees, entries_of_insertion, entry_of, entry_of_both}
use Rattle.tdb_base.specs.History.{Vector, Put, Set, Entry, History, calls, is_fresh, name_of, same}
use Rattle.tdb_base.specs.Legal.{IsLegal}
use Rattle.tdb_base.specs.Lines.{dealt_to, distinct, mine, named}
use Rattle.tdb_base.specs.Replies.{is_full}
use Rattle.tdb_base.specs.declared.reply.Reply.{Reply}
use Rattle.tdb_base.specs.declared.reply.Reply.TheVariants as r
use Rattle.tdb_base.proofs.DistinctLemmas.{at-map, count-cons, count-named, count-same, distinct-at, distinct-once, map-at}
use Rattle.tdb_base.proofs.ListLemmas.{At, at-contained, at-filter, at-filter_map, at-flat_map, cut-at, filter-at}
use Rattle.tdb_base.proofs.NameLemmas.{entry-named, gives-once, name-source, same-equal, same-refl}
use Rattle.tdb_base.proofs.SumLemmas.{sum-by-classes, sum-ones, sum-same}
use Rattle.tdb_base.specs.Renamed.{renamed}
use Rattle.tdb_base.proofs.HeadlineLemmas.{counts-names}
use Rattle.tdb_base.proofs.RenameLemmas.{RenamesAlike, agrees-numbered}
use Rattle.tdb_base.proofs.TallyLemmas.{dealt-shared, contained-at, line_weight, tally}
use Rattle.tree_store.specs.Store.{naming}
use Rattle.work_run.specs.Marks.{AgreesMarked, CountsMarks, EachMarkedOnce, MarkersMayBeRenumbered, AsManyFirstAsNew, MarksAreCounted, entries_of_mark, is_first}
use Rattle.work_run.specs.Telling.{then_set}
use Rattle.work_run.proofs.MarkParts.{Kept, IsOfMarks, flat_map-at, kept-agrees, kept-all, mark-caller, mark_of, marks_in, put-caller, put_of, puts_in}

-- ---- what a line's calls are in both parts

abbrev remarked : Reply → Bool → Reply
remarked (r.New id) first = naming first id
remarked (r.Seen id) first = naming first id
remarked r.FullNodes first = r.FullNodes
remarked r.FullRoots first = r.FullRoots

abbrev remarks : List Reply → List Bool → List Reply
remarks replies firsts = map (λ line. remarked line.0 line.1) (zip replies firsts)

remark-at : (replies : List Reply) (firsts : List Bool) (i : ℕ) → length firsts ≡ length replies → slice_get (remarks replies firsts) i ≡ option_map (λ reply. remarked reply (is_first firsts i)) (slice_get replies i)
remark-at [] firsts i long = refl
remark-at (x ∷ replies) [] i long = absurd (omega arith)
remark-at (x ∷ replies) (b ∷ firsts) zero long = refl
remark-at (x ∷ replies) (b ∷ firsts) (suc i) long = remark-at replies firsts i (omega arith)

length-remarks : (replies : List Reply) (firsts : List Bool) → length firsts ≡ length replies → length (remarks replies firsts) ≡ length replies
length-remarks [] firsts long = refl
length-remarks (x ∷ replies) [] long = absurd (omega arith)
length-remarks (x ∷ replies) (b ∷ firsts) long = let rest = length-remarks replies firsts (omega arith) in omega (arith, rest)

still-full : (reply : Reply) (first : Bool) → is_full (remarked reply first) ≡ true → is_full reply ≡ true
still-full (r.New id) true t = cc t
still-full (r.New id) false t = cc t
still-full (r.Seen id) true t = cc t
still-full (r.Seen id) false t = cc t
still-full r.FullNodes first t = refl
still-full r.FullRoots first t = refl

module _ (flag : ℕ) (first : Bool) (c : ℕ) where
  puts-of-line : (v : Option Vector) (o : Option Reply) → puts_in (flat_map (then_set flag first) (option_to_list (entry_of_both c v o))) ≡ option_to_list (entry_of_both c v o)
  puts-of-line None o = refl
  puts-of-line (Some v) None = refl
  puts-of-line (Some v) (Some (r.New id)) = refl
  puts-of-line (Some v) (Some (r.Seen id)) = refl
  puts-of-line (Some v) (Some r.FullNodes) = refl
  puts-of-line (Some v) (Some r.FullRoots) = refl

  named-entry : (v : Vector) (id : ℕ) (b : Bool) → deed c (Put b) v id ∷ [] ≡ option_to_list (entry_of c v (naming b id))
  named-entry v id true = refl
  named-entry v id false = refl

  marks-of-line : (v : Option Vector) (o : Option Reply)
      → marks_in (flat_map (then_set flag first) (option_to_list (entry_of_both c v o))) ≡ option_to_list (entry_of_both c v (option_map (λ reply. remarked reply first) o))
  marks-of-line None o = refl
  marks-of-line (Some v) None = refl
  marks-of-line (Some v) (Some (r.New id)) = named-entry v id first
  marks-of-line (Some v) (Some (r.Seen id)) = named-entry v id first
  marks-of-line (Some v) (Some r.FullNodes) = refl
  marks-of-line (Some v) (Some r.FullRoots) = refl

  -- an entry for a line puts, or marks; and with it comes a mark of its vector
  record Pair (l : History) (e : Entry) : Type 0 where
    of_marks : IsOfMarks flag e.act
    mark : Entry
    there : At l mark
    vector : mark.vector ≡ e.vector
    kept : mark_of mark.act mark ≡ Some (deed mark.caller (Put first) mark.vector mark.id)

  pair : (fresh : Bool) (v : Vector) (id : ℕ) (e : Entry) → At (flat_map (then_set flag first) (deed c (Put fresh) v id ∷ [])) e → Pair (flat_map (then_set flag first) (deed c (Put fresh) v id ∷ [])) e
  pair fresh v id e (zero, at) =
      let one : deed c (Put fresh) v id ≡ e = cc at in
      record { of_marks = subst (λ (x : Entry). IsOfMarks flag x.act) one tt; mark = deed c (Set flag first) v id; there = (suc zero, refl); vector = ap (λ (x : Entry). x.vector) one; kept = refl }
  pair fresh v id e (suc zero, at) =
      let one : deed c (Set flag first) v id ≡ e = cc at in
      record { of_marks = subst (λ (x : Entry). IsOfMarks flag x.act) one refl; mark = deed c (Set flag first) v id; there = (suc zero, refl); vector = ap (λ (x : Entry). x.vector) one; kept = refl }
  pair fresh v id e (suc (suc k), at) = cc at

  pair-of-line : (v : Option Vector) (o : Option Reply) (e : Entry) → At (flat_map (then_set flag first) (option_to_list (entry_of_both c v o))) e → Pair (flat_map (then_set flag first) (option_to_list (entry_of_both c v o))) e
  pair-of-line None o e at = cc at.1
  pair-of-line (Some v) None e at = cc at.1
  pair-of-line (Some v) (Some (r.New id)) e at = pair true v id e at
  pair-of-line (Some v) (Some (r.Seen id)) e at = pair false v id e at
  pair-of-line (Some v) (Some r.FullNodes) e at = cc at.1
  pair-of-line (Some v) (Some r.FullRoots) e at = cc at.1

-- ---- names

same-sym : (u v : Vector) → same u v ≡ same v u
same-sym u v = by (same u v) refl (same v u) refl
  where
    by : (a : Bool) → same u v ≡ a → (b : Bool) → same v u ≡ b → a ≡ b
    by true s true t = refl
    by false s false t = refl
    by true s false t = let yes = ap (λ (x : Vector). same v x) (same-equal u v s) ∙ same-refl v in cc (yes, t)
    by false s true t = let yes = ap (λ (x : Vector). same u x) (same-equal v u t) ∙ same-refl u in cc (yes, s)

-- lists of the same vectors have as many without repeats
same-distinct : (xs ys : List Vector) → ((v : Vector) → At xs v → At ys v) → ((v : Vector) → At ys v → At xs v) → length (distinct xs) ≡ length (distinct ys)
same-distinct xs ys there back =
    sym (sum-ones (distinct xs))
    ∙ (sum-by-classes same (λ (v : Vector). v) (distinct ys) (λ (v : Vector). 1) (distinct xs)
    (λ x at. let here = there x (distinct-at xs x at.0 at.1) in distinct-once ys x here.0 here.1)
    ∙ (sum-same (λ (c : Vector). sum_by (λ v. 1) (filter (λ y. same y c) (distinct xs))) (λ (c : Vector). 1) (distinct ys)
    (λ c at. let here = back c (distinct-at ys c at.0 at.1) in
    sum-ones (filter (λ (y : Vector). same y c) (distinct xs))
    ∙ (length-filter (λ (y : Vector). same y c) (distinct xs)
    ∙ (count-same (λ (y : Vector). same y c) (λ (y : Vector). same c y) (distinct xs) (λ y. same-sym y c) ∙ distinct-once xs c here.0 here.1)))
    ∙ sum-ones (distinct ys)))

abbrev fresh_vectors : History → List Vector
fresh_vectors h = map (λ e. e.vector) (filter (λ e. is_fresh e.act) h)

fresh-named : (count : ℕ) (h : History) → IsLegal count h → (v : Vector) → At (fresh_vectors h) v → (id : ℕ) × (name_of h v ≡ Some id)
fresh-named count h legal v at =
    let found = map-at (λ (e : Entry). e.vector) (filter (λ (e : Entry). is_fresh e.act) h) v at.0 at.1 in
    let place = (filter-at (λ (e : Entry). is_fresh e.act) h found.0 at.0 found.1).0 in
    let cut = cut-at h found.0 place.0 place.1 in
    (found.0.id, subst (λ (x : Vector). name_of h x ≡ Some found.0.id) found.2 (entry-named count h cut.before cut.after found.0 legal cut.whole))

named-fresh : (h : History) (v : Vector) (id : ℕ) → name_of h v ≡ Some id → At (fresh_vectors h) v
named-fresh h v id n =
    let s = name-source h v id n in
    let place = at-filter (λ (e : Entry). is_fresh e.act) h s.1 s.0 s.2 s.4 in
    (place.0, at-map (λ (e : Entry). e.vector) (filter (λ (e : Entry). is_fresh e.act) h) s.1 place.0 place.1 ∙ ap Some s.3)

-- ---- counts

-- what the lines weigh by their marks
line-weighs : (w : Vector → Bool → ℕ) → ((v : Vector) → w v false ≡ 0) → (v : Vector) (reply : Reply) (first : Bool) → (is_full reply ≡ true → first ≡ false) → line_weight w (v, remarked reply first) ≡ w v first
line-weighs w none v (r.New id) true full = refl
line-weighs w none v (r.New id) false full = refl
line-weighs w none v (r.Seen id) true full = refl
line-weighs w none v (r.Seen id) false full = refl
line-weighs w none v r.FullNodes first full = sym (ap (w v) (full refl) ∙ none v)
line-weighs w none v r.FullRoots first full = sym (ap (w v) (full refl) ∙ none v)

module _ (w : Vector → Bool → ℕ) (none : (v : Vector) → w v false ≡ 0) where
  lines-weigh : (trace : List Vector) (replies : List Reply) (firsts : List Bool) → length replies ≡ length trace → length firsts ≡ length replies
      → ((i : ℕ) (reply : Reply) → slice_get replies i ≡ Some reply → is_full reply ≡ true → slice_get firsts i ≡ Some false)
      → sum_by (line_weight w) (zip trace (remarks replies firsts)) ≡ sum_by (λ line. w line.0 line.1) (zip trace firsts)
  lines-weigh [] replies firsts long all full = refl
  lines-weigh (v ∷ trace) [] firsts long all full = absurd (omega arith)
  lines-weigh (v ∷ trace) (x ∷ replies) [] long all full = absurd (omega arith)
  lines-weigh (v ∷ trace) (x ∷ replies) (b ∷ firsts) long all full =
      let one = line-weighs w none v x b (λ t. cc (full zero x refl t)) in
      let rest = lines-weigh trace replies firsts (omega arith) (omega arith) (λ i reply at t. full (suc i) reply at t) in
      sum_by-cons (line_weight w) (v, remarked x b) (zip trace (remarks replies firsts))
      ∙ ((λ i. one i + rest i) ∙ sym (sum_by-cons (λ (line : Vector × Bool). w line.0 line.1) (v, b) (zip trace firsts)))

count-marks : (trace : List Vector) (firsts : List Bool) → length firsts ≡ length trace → sum_by (λ line. cond line.1 1 0) (zip trace firsts) ≡ count_by (λ first. first) firsts
count-marks [] [] long = refl
count-marks [] (b ∷ firsts) long = absurd (omega arith)
count-marks (v ∷ trace) [] long = absurd (omega arith)
count-marks (v ∷ trace) (b ∷ firsts) long =
    sum_by-cons (λ (line : Vector × Bool). cond line.1 1 0) (v, b) (zip trace firsts)
    ∙ (ap (λ (n : ℕ). cond b 1 0 + n) (count-marks trace firsts (omega arith)) ∙ sym (count-cons (λ (first : Bool). first) b firsts))

-- ---- a run from nothing

module _ (count : ℕ) (trace : List Vector) (replies : List Reply) (firsts : List Bool) (workers block flag : ℕ) (h : History) (callers : List ℕ)
    (agrees : AgreesMarked count trace replies firsts workers block flag [] h callers) where
  abbrev line_of_mark : ℕ → ℕ → History
  line_of_mark c i = entries_of_mark flag trace replies firsts c i

  -- each entry is of a line, with its mark
  record Source (e : Entry) : Type 0 where
    of_marks : IsOfMarks flag e.act
    first : Bool
    mark : Entry
    there : At h mark
    vector : mark.vector ≡ e.vector
    kept : mark_of mark.act mark ≡ Some (deed mark.caller (Put first) mark.vector mark.id)

  source : (e : Entry) → At h e → Source e
  source e at =
      let c = e.caller in
      let known = at-contained callers c (agrees.over.no_others h refl e (contained-at h e at)) in
      let own : (e.caller == c) ≡ true = grind arith in
      let mine-calls = at-filter (λ (x : Entry). x.caller == c) h e at.0 at.1 own in
      let all : calls h c ≡ flat_map (line_of_mark c) (mine (length trace) workers block known.0) = agrees.over.among.in_order known.0 c known.1 in
      let line = flat_map-at (line_of_mark c) (mine (length trace) workers block known.0) e (mine-calls.0, ap (λ (t : History). slice_get t mine-calls.0) (sym all) ∙ mine-calls.1) in
      let p = pair-of-line flag (is_first firsts line.0) c (slice_get trace line.0) (slice_get replies line.0) e line.2 in
      let listed = at-flat_map (line_of_mark c) (mine (length trace) workers block known.0) line.0 p.mark line.1.0 line.1.1 p.there in
      record {
        of_marks = p.of_marks;
        first = is_first firsts line.0;
        mark = p.mark;
        there = (filter-at (λ (x : Entry). x.caller == c) h p.mark listed.0 (ap (λ (t : History). slice_get t listed.0) all ∙ listed.1)).0;
        vector = p.vector;
        kept = p.kept;
      }

  kept : Kept count flag h
  kept = kept-all count flag h agrees.over.among.legal (λ e at. (source e at).of_marks)

  -- who has a name is marked
  named-marked : (v : Vector) (id : ℕ) → name_of h v ≡ Some id → (i : ℕ) × (name_of (marks_in h) v ≡ Some i)
  named-marked v id n =
      let s = name-source h v id n in
      let o = source s.1 (s.0, s.2) in
      let e = deed o.mark.caller (Put o.first) o.mark.vector o.mark.id in
      let at = at-filter_map (λ (x : Entry). mark_of x.act x) h o.mark e o.there.0 o.there.1 o.kept in
      let cut = cut-at (marks_in h) e at.0 at.1 in
      (o.mark.id, subst (λ (x : Vector). name_of (marks_in h) x ≡ Some o.mark.id) (o.vector ∙ s.3) (entry-named count (marks_in h) cut.before cut.after e kept.marks_legal cut.whole))

  -- the insertions alone agree with the replies
  pub puts-agree : Agrees count trace replies workers block [] (puts_in h) callers
  puts-agree = kept-agrees (λ (e : Entry). put_of e.act e) (λ e x t. put-caller e.act e x t) count (mine (length trace) workers block) line_of_mark (entries_of_insertion trace replies) trace replies replies workers h callers
      agrees.over (λ c i. puts-of-line flag (is_first firsts i) c (slice_get trace i) (slice_get replies i)) agrees.over.among.one_each kept.puts_legal
      (λ i v reply a b full. kept.puts_names v ∙ agrees.over.among.full i v reply a b full)

  -- and the marks alone with what they stand for
  marks-agree : Agrees count trace (remarks replies firsts) workers block [] (marks_in h) callers
  marks-agree = kept-agrees (λ (e : Entry). mark_of e.act e) (λ e x t. mark-caller e.act e x t) count (mine (length trace) workers block) line_of_mark (entries_of_insertion trace (remarks replies firsts)) trace replies (remarks replies firsts) workers h callers
      agrees.over
      (λ c i. marks-of-line flag (is_first firsts i) c (slice_get trace i) (slice_get replies i)
      ∙ ap (λ (o : Option Reply). option_to_list (entry_of_both c (slice_get trace i) o)) (sym (remark-at replies firsts i agrees.marks.one_each)))
      (length-remarks replies firsts agrees.marks.one_each ∙ agrees.over.among.one_each) kept.marks_legal
      (λ i v reply a b full. unnamed v (agrees-full i v reply a (slice_get replies i) refl (sym (remark-at replies firsts i agrees.marks.one_each) ∙ b) full))
    where
      agrees-full : (i : ℕ) (v : Vector) (reply : Reply) → slice_get trace i ≡ Some v → (o : Option Reply) → slice_get replies i ≡ o → option_map (λ x. remarked x (is_first firsts i)) o ≡ Some reply → is_full reply ≡ true → name_of h v ≡ None
      agrees-full i v reply a None t u full = cc u
      agrees-full i v reply a (Some x) t u full =
          let same-reply : remarked x (is_first firsts i) ≡ reply = cc u in
          agrees.over.among.full i v x a t (still-full x (is_first firsts i) (ap is_full same-reply ∙ full))

      unnamed : (v : Vector) → name_of h v ≡ None → name_of (marks_in h) v ≡ None
      unnamed v none = by (name_of (marks_in h) v) refl
        where
          by : (o : Option ℕ) → name_of (marks_in h) v ≡ o → o ≡ None
          by None t = refl
          by (Some i) t = let named = kept.marks_names v i t in cc (named, none)

  as-many : length (named (marks_in h)) ≡ length (named h)
  as-many = same-distinct (fresh_vectors (marks_in h)) (fresh_vectors h)
      (λ v at. let n = fresh-named count (marks_in h) kept.marks_legal v at in named-fresh h v n.0 (kept.marks_names v n.0 n.1))
      (λ v at. let n = fresh-named count h kept.legal v at in let m = named-marked v n.0 n.1 in named-fresh (marks_in h) v m.0 m.1)

  as-many-put : length (named (puts_in h)) ≡ length (named h)
  as-many-put = same-distinct (fresh_vectors (puts_in h)) (fresh_vectors h)
      (λ v at. let n = fresh-named count (puts_in h) kept.puts_legal v at in named-fresh h v n.0 (sym (kept.puts_names v) ∙ n.1))
      (λ v at. let n = fresh-named count h kept.legal v at in named-fresh (puts_in h) v n.0 (kept.puts_names v ∙ n.1))

  module _ (some : 0 < workers) where
    -- whatever the marks weigh, the lines weigh as much
    weigh : (w : Vector → Bool → ℕ) → ((v : Vector) → w v false ≡ 0) → sum_by (λ line. w line.0 line.1) (zip trace firsts) ≡ sum_by (λ e. w e.vector (is_fresh e.act)) (marks_in h)
    weigh w none = sym (lines-weigh w none trace replies firsts agrees.over.among.one_each agrees.marks.one_each agrees.marks.full)
        ∙ sym (tally count (dealt_to workers block) trace (remarks replies firsts) workers (marks_in h) callers w marks-agree (dealt-shared (length trace) workers block some))

    pub counts-marks : CountsMarks firsts h
    counts-marks = sym (count-marks trace firsts (agrees.marks.one_each ∙ agrees.over.among.one_each))
        ∙ (weigh (λ v fresh. cond fresh 1 0) (λ v. refl) ∙ (count-named count (marks_in h) kept.marks_legal ∙ as-many))

    pub each-marked-once : EachMarkedOnce trace firsts h
    each-marked-once v id n =
        let m = named-marked v id n in
        weigh (λ u fresh. cond (fresh && same u v) 1 0) (λ u. refl) ∙ (gives-once count v (marks_in h) kept.marks_legal ∙ rw m.1 refl)

    pub as-many-new : AsManyFirstAsNew replies firsts
    as-many-new = counts-marks ∙ (sym as-many-put ∙ sym (counts-names count (dealt_to workers block) trace replies workers (puts_in h) callers puts-agree (dealt-shared (length trace) workers block some)))

pub marks-are-counted : MarksAreCounted
marks-are-counted count trace replies firsts workers block flag h callers some agrees = record {
  names = counts-marks count trace replies firsts workers block flag h callers agrees some;
  once = each-marked-once count trace replies firsts workers block flag h callers agrees some;
  new = as-many-new count trace replies firsts workers block flag h callers agrees some;
}

-- what a line's calls are, made by another caller
marked-alike : (flag : ℕ) (trace : List Vector) (replies : List Reply) (firsts : List Bool) → RenamesAlike (entries_of_mark flag trace replies firsts)
marked-alike flag trace replies firsts f c i = by (slice_get trace i) (slice_get replies i) (is_first firsts i)
  where
    by : (v : Option Vector) (o : Option Reply) (first : Bool)
        → renamed f (flat_map (then_set flag first) (option_to_list (entry_of_both c v o))) ≡ flat_map (then_set flag first) (option_to_list (entry_of_both (f c) v o))
    by (Some v) (Some (r.New id)) first = refl
    by (Some v) (Some (r.Seen id)) first = refl
    by (Some v) (Some r.FullNodes) first = refl
    by (Some v) (Some r.FullRoots) first = refl
    by (Some v) None first = refl
    by None o first = refl

pub markers-renumbered : MarkersMayBeRenumbered
markers-renumbered count trace replies firsts workers block flag h callers agrees = record {
  over = agrees-numbered (marked-alike flag trace replies firsts) agrees.over;
  marks = agrees.marks;
}
