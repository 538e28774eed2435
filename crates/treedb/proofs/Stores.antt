-- From what a run of workers leaves of a store to the replies of one history, with workers numbered from 0.
use Rattle.std.proofs.Common.{◌≡◌, ℕ, suc, ◌+◌, ◌*◌, ◌-◌, ◌<◌, ◌≤◌, List, [], ◌∷◌, length, Bool, true, false, Option, Some, None, refl, sym, ap, ◌∙◌, subst, ⊎_elim, arith}
use Rattle.std.specs.Prelude.{All, IfSome, slice_get, count_by}
use Rattle.std.specs.List.{list_any, range_with_len}
use Rattle.tree_shape.specs.Tree.{Has}
use Rattle.tdb_base.specs.History.{Vector, History, name_of}
use Rattle.tdb_base.specs.Renamed.{renamed, position_of}
use Rattle.tdb_base.specs.Replies.{is_new, is_full, id_of}
use Rattle.tdb_base.specs.declared.reply.Reply.{Reply}
use Rattle.tdb_base.specs.declared.reply.Reply.TheVariants as r
use Rattle.tdb_base.proofs.HeadlineLemmas.{none-full}
use Rattle.tdb_base.proofs.ListLemmas.{at-within}
use Rattle.tdb_base.proofs.RenameLemmas.{legal-renamed, name-renamed}
use Rattle.std.proofs.lemmas.Option.{slice_get_within}
use Rattle.tdb_base.proofs.DistinctLemmas.{count-named}
use Rattle.tree_store.proofs.Census.{names_all}
use Rattle.pair_rule.specs.declared.view.View.{View}
use Rattle.pair_rule.specs.declared.sizes.About.{About}
use Rattle.pair_rule.specs.declared.pass.PassOf.{PassOf}
use Rattle.pair_rule.specs.Part.{Part, Store, root_pairs}
use Rattle.pair_rule.specs.Rest.{AtRest, HasAll, Housed, names_of_callers, view}
use Rattle.work_run.specs.Full.{AreOfVectors, IsOfOne}
use Rattle.tdb_base.specs.Agrees.{AgreesOver}
use Rattle.tdb_base.specs.Lines.{AreShared, owned}
use Rattle.work_run.proofs.Few.{few_puts}
use Rattle.trace_csv.specs.declared.report.Stats.{Stats}
use Rattle.command_line.specs.declared.outcome.Choice.{Choice}
use Rattle.treedb.specs.Answered.{CountsOf}
use Rattle.treedb.specs.Filling.{AreInserted}
use Rattle.command_line.specs.Rules.{flag_count}
use Rattle.treedb.specs.Sharing.{AgreesTreated, line_entries, owner_of, treated}
use Rattle.treedb.specs.ReadBack.{IsOfLines, IsReadBack, IsReadBy, new_id, new_ids}
use Rattle.trace_csv.specs.declared.form.Form.{Form}
use Rattle.treedb.specs.Lines.{form_of}
use Rattle.treedb.specs.Stored.{Counts, AreTold, NodesAreNamed, InStore, raw_in}
use Rattle.treedb.specs.declared.distinct.ReadBack.{ReadBack}
use Rattle.treedb.specs.declared.insertion.LineReplies.{LineReplies}
use Rattle.treedb.proofs.Insertions.{Inserts, agrees-from-zero, insertions}
use Rattle.treedb.proofs.NewLemmas.{named-line, new-named, read-back, read-of-lines, read-renamed}
use Rattle.treedb.proofs.SharingLemmas.{shared-out}
use Rattle.treedb.proofs.RoomLemmas.{buckets_for, none_is_full, of_new_store}
use Rattle.treedb.specs.Room.{HaveRoom}
use Rattle.pair_rule.specs.Paths.{node_buckets}

-- the same nodes and roots house a history whose callers have other numbers
housed_renamed : (about : About) (house : List (ℕ × ℕ) → Type 0) (nodes roots : List (ℕ × ℕ)) (f : ℕ → ℕ) (h : History) → Housed about house nodes roots h → Housed about house nodes roots (renamed f h)
housed_renamed about house nodes roots f h s = record {
  are_nodes = s.are_nodes;
  fills_paths = s.fills_paths;
  legal = legal-renamed about.flags f h s.legal;
  named = record {
    each = λ v id n. s.named.each v id (sym (name-renamed f h v) ∙ n);
    only = λ id pair has. (let o = s.named.only id pair has in (o.0, name-renamed f h o.0 ∙ o.1, o.2, o.3));
  };
  house_is = s.house_is;
}

-- what is told of an option's value, where it is told
told_so : (asked : Bool) (stats : Option Stats) (P Q : Stats → Type 0) → ((s : Stats) → P s → Q s) → AreTold asked stats P → AreTold asked stats Q
told_so true (Some s) P Q f fact = f s fact
told_so true None P Q f fact = fact
told_so false (Some s) P Q f fact = fact
told_so false None P Q f fact = fact

-- the element of a list is at some place
has_some_place : (v : Vector) (xs : List Vector) → Has v xs → (i : ℕ) × (slice_get xs i ≡ Some v)
has_some_place v [] h = absurd h
has_some_place v (x ∷ xs) h = ⊎_elim
    (λ (e : v ≡ x). let found : (i : ℕ) × (slice_get (x ∷ xs) i ≡ Some v) = (0, ap Some (sym e)) in found)
    (λ (t : Has v xs). let m = has_some_place v xs t in let found : (i : ℕ) × (slice_get (x ∷ xs) i ≡ Some v) = (suc m.0, m.1) in found)
    h

-- a reply that is not full names its line
named_by : (reply : Reply) → is_full reply ≡ false → (id : ℕ) × (id_of reply ≡ Some id)
named_by (r.New id) e = (id, refl)
named_by (r.Seen id) e = (id, refl)
named_by r.FullNodes e = cc e
named_by r.FullRoots e = cc e

module _ {T : Type 0} (part : Part T) (c : Choice) (trace : List Vector) (made : LineReplies) (store : Store) (last : PassOf T)
    (some : 0 < c.workers) (inserted : AreInserted part c trace made store last) (rests : AtRest part store last) where
  abbrev replies : List Reply
  replies = made.replies.items

  abbrev pub history : History
  history = renamed (position_of inserted.done.ran.one_history.0) (view last).seen

  abbrev owner : ℕ → ℕ
  owner = owner_of c (treated made)

  -- each line is some worker's
  shared : AreShared (length trace) c.workers owner
  shared = shared-out c (length trace) replies (treated made) some inserted.done.shared

  -- the pass stands for the whole store
  all : HasAll part (view last).about (view last)
  all = rests.seat.sound.whole (inserted.done.ran.whole inserted.whole)

  own_agrees : AgreesTreated c (treated made) trace replies (view last).seen inserted.done.ran.one_history.0
  own_agrees =
      let none_seen : (view inserted.first).seen ≡ [] = ap (λ (v : View T). v.seen) inserted.begins in
      let lines_of : ℕ → List ℕ = owned (length trace) owner in
      let entries : ℕ → ℕ → History = line_entries c (treated made) trace replies in
      let callers = inserted.done.ran.one_history.0 in
      subst (λ (n : ℕ). AgreesOver n lines_of entries trace replies c.workers [] (view last).seen callers) inserted.about_is.flags
      (subst (λ (h : History). AgreesOver store.about.flags lines_of entries trace replies c.workers h (view last).seen callers) none_seen (inserted.done.ran.one_history.1.alone inserted.whole))

  -- what holds of insertions
  own_inserts : Inserts (flag_count c.profile) owner trace replies c.workers (view last).seen inserted.done.ran.one_history.0
  own_inserts = insertions c trace replies (treated made) (view last).seen inserted.done.ran.one_history.0 some inserted.done.shared own_agrees

  pub agrees_run : AgreesTreated c (treated made) trace replies history (range_with_len 0 c.workers)
  agrees_run = agrees-from-zero c trace replies (treated made) (view last).seen inserted.done.ran.one_history.0 some inserted.done.shared own_agrees

  run_inserts : Inserts (flag_count c.profile) owner trace replies c.workers history (range_with_len 0 c.workers)
  run_inserts = insertions c trace replies (treated made) history (range_with_len 0 c.workers) some inserted.done.shared agrees_run

  filled_run : AreOfVectors store.about (view last).known trace
  filled_run index pair h = ⊎_elim
      (λ (old : (other : ℕ) × Has (index, other) (view inserted.first).known). absurd (subst (λ (v : View T). Has (index, old.0) v.known) inserted.begins old.1))
      (λ (of : IsOfOne store.about (view last).known trace index). of)
      (inserted.done.ran.nodes inserted.whole index pair h)

  -- each name was given by a call of a line that is new
  names_are : names_of_callers (view last).numbers (view last).seen ≡ count_by is_new replies
  names_are =
      names_all (view last).numbers (view last).seen all.callers
      ∙ (count-named (flag_count c.profile) (view last).seen own_agrees.among.legal
      ∙ sym own_inserts.counts)

  few_made : length (view last).made ≤ (store.about.slots - 2) * length trace
  few_made =
      let probed = rests.seat.sound.probed in
      let none : (view inserted.first).probes ≡ 0 = ap (λ (v : View T). v.probes) inserted.begins in
      let most = few_puts store.about trace replies owner c.workers shared in
      omega (arith, probed, inserted.done.ran.probes, none, most)

  -- with room for all lines none is full
  never_full_run : HaveRoom c.mode store.about.slots (length trace) inserted.about_is.sizes → list_any is_full replies ≡ false
  never_full_run room =
      let about = store.about in
      let is = inserted.about_is in
      let new = of_new_store (view inserted.first) inserted.unknown about inserted.begins inserted.whole in
      let nodes = buckets_for (node_buckets about) ((about.slots - 2) * length trace) is.sizes.nodes is.sizes.probe is.nodes is.probe is.is_about.range.least_nodes room.nodes in
      none_is_full replies (inserted.done.ran.enough_nodes new nodes) (inserted.enough_roots room.roots)

  counts_run : (form : Form) (s : Stats) → CountsOf form part store.about (view last) s → Counts form part store.about (length trace) (view last).known replies s
  counts_run form s k = record {
    indexes = (view last).made;
    once = rests.seat.sound.made_once;
    all = λ index. (λ h. rests.seat.sound.made index h, λ p. all.made index p.0 p.1);
    nodes_are = k.nodes;
    few = omega (arith, k.nodes, few_made);
    stored = k.stored ∙ (λ i. 8 * sym k.nodes i + part.bytes store.about (names_are i));
    raw = k.raw ∙ ap (λ (n : ℕ). raw_in form (4 * store.about.slots * n)) names_are;
  }

  named_run : list_any is_full replies ≡ false → NodesAreNamed store.about (view last).known history
  named_run none index pair h =
      let of = filled_run index pair h in
      let at = has_some_place of.0 trace of.1 in
      let reply = at-within replies at.0 (let same = agrees_run.among.one_each in let lt = slice_get_within trace at.0 of.0 at.1 in omega arith) in
      let id = named_by reply.0 (none-full replies at.0 reply.0 none reply.1) in
      (of.0, id.0, named-line (flag_count c.profile) owner trace replies c.workers history (range_with_len 0 c.workers) run_inserts shared at.0 of.0 reply.0 id.0 at.1 reply.1 id.1, of.2)

  pub in_store_run : (stats : Option Stats) → AreTold c.stats stats (CountsOf (form_of c) part store.about (view last)) → InStore part c trace replies history stats
  in_store_run stats told = record {
    about = store.about;
    nodes = (view last).known;
    roots = root_pairs part (view last);
    about_is = inserted.about_is;
    housed = housed_renamed store.about (part.house store.about) (view last).known (root_pairs part (view last)) (position_of inserted.done.ran.one_history.0) (view last).seen
        (subst (λ (a : About). Housed a (part.house a) (view last).known (root_pairs part (view last)) (view last).seen) rests.seat.about_is all.housed);
    filled = filled_run;
    barred = inserted.done.ran.full;
    never_full = never_full_run;
    named = named_run;
    counts = told_so c.stats stats (CountsOf (form_of c) part store.about (view last)) (Counts (form_of c) part store.about (length trace) (view last).known replies) (counts_run (form_of c)) told;
  }

  -- the identifiers of the replies that are new name vectors, and what is read back by them is the named ones
  pub new_are_named : All (λ reply. IfSome (new_id reply) (λ id. (v : Vector) × (name_of (view last).seen v ≡ Some id))) replies
  new_are_named = new-named (flag_count c.profile) owner trace replies c.workers (view last).seen inserted.done.ran.one_history.0 own_inserts shared

  pub read_back_run : (form : Form) (back : ReadBack) → IsReadBy form store.about.slots (view last).seen (new_ids replies) back → IsReadBack form history back
  read_back_run form back by = read-renamed (position_of inserted.done.ran.one_history.0) form (view last).seen back
      (read-back (flag_count c.profile) owner trace replies c.workers (view last).seen inserted.done.ran.one_history.0 own_inserts shared form store.about.slots back by)

  pub of_lines_run : (form : Form) (back : ReadBack) → IsReadBy form store.about.slots (view last).seen (new_ids replies) back → IsOfLines trace back
  of_lines_run form back by =
      read-of-lines (flag_count c.profile) owner trace replies c.workers (view last).seen inserted.done.ran.one_history.0 own_inserts shared form store.about.slots back by inserted.about_is.slots
