-- Root tables that have a place for each line's root.
use Rattle.std.proofs.Common.{◌≡◌, ℕ, zero, suc, ◌+◌, ◌<◌, ◌≤◌, List, [], ◌∷◌, length, Bool, true, false, cond, Some, refl, sym, ap, ◌∙◌, subst, inl, inr, arith}
use Rattle.std.specs.Prelude.{slice_get, slice_index, count_by}
use Rattle.std.proofs.lemmas.List.Elements.{All-get_or}
use Rattle.std.proofs.lemmas.List.Sums.{sum_by-cons, count_by-le-length}
use Rattle.std.proofs.lemmas.Option.{slice_get_within, slice_get-get_or}
use Rattle.tree_shape.specs.Tree.{Has}
use Rattle.tdb_base.specs.Agrees.{AgreesOver, AgreesOwned, entries_of_insertion}
use Rattle.tdb_base.specs.Headline.{CountsNames}
use Rattle.tdb_base.specs.Lines.{AreShared, mine, owned}
use Rattle.tdb_base.specs.Replies.{is_new}
use Rattle.tdb_base.specs.declared.reply.Reply.{Reply}
use Rattle.tdb_base.specs.declared.reply.Reply.TheVariants as r
use Rattle.tdb_base.proofs.DistinctLemmas.{count-named}
use Rattle.tdb_base.proofs.HeadlineLemmas.{counts-names}
use Rattle.pair_rule.specs.declared.pass.PassOf.{PassOf}
use Rattle.tdb_base.specs.History.{Vector, Entry, History, is_fresh, name_of}
use Rattle.tdb_base.specs.Legal.{IsLegal}
use Rattle.tdb_base.proofs.NameLemmas.{name-given}
use Rattle.tdb_base.proofs.ListLemmas.{at-contained}
use Rattle.pair_rule.specs.Part.{Store, Part, root_pairs}
use Rattle.pair_rule.specs.Paths.{root_buckets, size, Listed}
use Rattle.pair_rule.specs.Rest.{AtRest, view}
use Rattle.region_root.specs.Names.{are_names}
use Rattle.root_plain.specs.Plain.{plain}
use Rattle.work_run.specs.Enough.{IsOfNewStore, HasRootsFor, NeverAnswered, PlainRootsSuffice, CompactRootsSuffice}
use Rattle.work_run.specs.Drew.{AreDrawnBy}
use Rattle.work_run.specs.Marks.{AgreesMarked, HasRunMarked, entries_of_mark}
use Rattle.work_run.specs.Ran.{HasRunOver}
use Rattle.pair_rule.proofs.Elements.{placed}
use Rattle.work_run.proofs.MarkLaws.{marks-are-counted}
use Rattle.work_run.proofs.Filled.{all_are_filled, has_all_below, no_longer}

-- the identifiers of a history's names, one for each entry that gives one
ids : History → List ℕ
ids [] = []
ids (e ∷ h) = cond (is_fresh e.act) (e.id ∷ ids h) (ids h)

ids_long : (h : History) → length (ids h) ≡ count_by (λ e. is_fresh e.act) h
unfolding ids
ids_long [] = refl
ids_long (e ∷ h) = by (is_fresh e.act) (ids_long h) ∙ sym (sum_by-cons (λ (x : Entry). cond (is_fresh x.act) 1 0) e h)
  where
    by : (b : Bool) → length (ids h) ≡ count_by (λ x. is_fresh x.act) h → length (cond b (e.id ∷ ids h) (ids h)) ≡ cond b 1 0 + count_by (λ x. is_fresh x.act) h
    by true p = omega (arith, p)
    by false p = omega (arith, p)

ids_have : (h : History) (e : Entry) (k : ℕ) → slice_get h k ≡ Some e → is_fresh e.act ≡ true → Has e.id (ids h)
unfolding ids
ids_have [] e k at fresh = cc at
ids_have (f ∷ h) e zero at fresh = let same : f ≡ e = cc at in subst (λ (x : Entry). Has e.id (cond (is_fresh x.act) (x.id ∷ ids h) (ids h))) (sym same) (rw fresh (inl refl))
ids_have (f ∷ h) e (suc k) at fresh = by (is_fresh f.act) (ids_have h e k at fresh)
  where
    by : (b : Bool) → Has e.id (ids h) → Has e.id (cond b (f.id ∷ ids h) (ids h))
    by true p = inr p
    by false p = p

-- a name's identifier is one of them
named_id : (count : ℕ) (h : History) (v : Vector) (id : ℕ) → IsLegal count h → name_of h v ≡ Some id → Has id (ids h)
named_id count h v id legal name =
    let given = name-given count h v id legal name in
    let at = at-contained h given.entry given.there in
    subst (λ (n : ℕ). Has n (ids h)) given.named (ids_have h given.entry at.0 at.1 (ap is_fresh given.fresh))

pub plain_roots_suffice : PlainRootsSuffice
plain_roots_suffice store lines room p pair rest few blocked =
    let b = root_buckets store.about in
    let h = (view p).seen in
    let sound = rest.seat.sound in
    let filled = all_are_filled b rest.seat.is_about.range.roots.0 room.all_walked (Listed (root_pairs plain (view p))) pair blocked in
    let all = has_all_below (size b) (ids h)
    (λ i below. (let here = filled i below in let name = sound.named.only i here.0 here.1 in named_id (view p).about.flags h name.0 i sound.legal name.1)) in
    let long = ids_long h in
    omega (arith, all, long, few, room.enough)

pub compact_roots_suffice : (width flags : ℕ) → CompactRootsSuffice width flags
compact_roots_suffice width flags store lines enough p pair rest few full =
    let h = (view p).seen in
    let legal = rest.seat.sound.legal in
    let names = are_names (view p).about.flags h legal in
    let all = no_longer full.others (ids h) full.are_roots.once
    (λ x has. (let e = (full.are_roots.each x has).1 in let o = names.only e.0 x e.1 in named_id (view p).about.flags h o.1.0 x legal (o.1.1 ∙ ap Some (sym o.0)))) in
    let long = ids_long h in
    omega (arith, all, long, few, enough, full.all)

-- where some reply is full, fewer are new than there are
fewer_new : (replies : List Reply) (i : ℕ) → slice_get replies i ≡ Some r.FullRoots → count_by is_new replies < length replies
fewer_new [] i at = cc at
fewer_new (reply ∷ replies) zero at = let e : reply ≡ r.FullRoots = cc at in rw e (omega (arith, sum_by-cons (λ (x : Reply). cond (is_new x) 1 0) r.FullRoots replies, count_by-le-length is_new replies))
fewer_new (reply ∷ replies) (suc i) at = omega (arith, fewer_new replies i at, sum_by-cons (λ (x : Reply). cond (is_new x) 1 0) reply replies, one_at_most (is_new reply))
  where
    one_at_most : (b : Bool) → cond b 1 0 ≤ 1
    one_at_most true = omega arith
    one_at_most false = omega arith

-- a run after which as many lines are new as there are names, and of which some line is full
some_room : {T : Type 0} (part : Part T) (store : Store) (lines_of : ℕ → List ℕ) (line_entries : ℕ → ℕ → History) (trace : List Vector) (replies : List Reply) (workers : ℕ) (old new : PassOf T)
    → AtRest part store new → HasRunOver lines_of line_entries part store.about trace replies workers old new → CountsNames replies (view new).seen
    → HasRootsFor part store (length trace) → NeverAnswered replies r.FullRoots
some_room part store lines_of line_entries trace replies workers old new rest ran names room i at =
    let h = (view new).seen in
    let among = ran.one_history.1.among in
    let fresh = count-named store.about.flags h among.legal in
    let lt : i < length trace = omega (arith, slice_get_within replies i r.FullRoots at, among.one_each) in
    let v = placed trace i lt in
    let barred = ran.full i v.one r.FullRoots (slice_get-get_or trace i v.one lt ∙ ap Some (v.here v.one)) at in
    room new barred.0 rest (omega (arith, names, fresh, fewer_new replies i at, among.one_each)) barred.2

-- in a new store with a place for each line's root no line is full at its root
pub never_full_roots : {T : Type 0} (part : Part T) (store : Store) (owner : ℕ → ℕ) (trace : List Vector) (replies : List Reply) (workers : ℕ) (old new : PassOf T)
    → AtRest part store new → AreShared (length trace) workers owner
    → HasRunOver (owned (length trace) owner) (entries_of_insertion trace replies) part store.about trace replies workers old new
    → IsOfNewStore (view old) → HasRootsFor part store (length trace) → NeverAnswered replies r.FullRoots
never_full_roots part store owner trace replies workers old new rest shared ran is_new_store room =
    let h = (view new).seen in
    let flags = store.about.flags in
    let one = ran.one_history in
    let agrees = subst (λ (g : History). AgreesOwned flags owner trace replies workers g h one.0) is_new_store.no_calls (one.1.alone is_new_store.whole) in
    some_room part store (owned (length trace) owner) (entries_of_insertion trace replies) trace replies workers old new rest ran (counts-names flags owner trace replies workers h one.0 agrees shared) room

-- the same where lines are inserted and marked
pub marked_never_full_roots : {T : Type 0} (part : Part T) (store : Store) (trace : List Vector) (replies : List Reply) (firsts : List Bool) (workers block flag : ℕ) (old new : PassOf T)
    → AtRest part store new → 0 < workers → HasRunMarked part store.about trace replies firsts workers block flag old new
    → IsOfNewStore (view old) → HasRootsFor part store (length trace) → NeverAnswered replies r.FullRoots
marked_never_full_roots part store trace replies firsts workers block flag old new rest some run is_new_store room =
    let h = (view new).seen in
    let flags = store.about.flags in
    let one = run.ran.one_history in
    let agrees : AgreesMarked flags trace replies firsts workers block flag [] h one.0 = record {
      over = subst (λ (g : History). AgreesOver flags (mine (length trace) workers block) (entries_of_mark flag trace replies firsts) trace replies workers g h one.0) is_new_store.no_calls (one.1.alone is_new_store.whole);
      marks = run.marks;
    } in
    let told = marks-are-counted flags trace replies firsts workers block flag h one.0 some agrees in
    some_room part store (mine (length trace) workers block) (entries_of_mark flag trace replies firsts) trace replies workers old new rest run.ran (sym told.new ∙ told.names) room

-- each line that is drawn is some worker's
pub drawn_shared : (lines workers block : ℕ) (drawn : List ℕ) → AreDrawnBy lines workers block drawn → AreShared lines workers (slice_index drawn)
drawn_shared lines workers block drawn drew = λ i lt. let long = drew.one_each in All-get_or (λ (j : ℕ). j < workers) drawn i 0 (omega (arith, lt, long)) drew.among
