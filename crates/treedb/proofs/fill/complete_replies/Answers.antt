use Rattle.std.proofs.Common.{◌≡◌, ℕ, List, length, sym, ap, ◌∙◌, subst, rules, Some}
use Rattle.std.specs.Prelude.{All, IfSome}
use Rattle.tdb_base.specs.History.{Vector, name_of}
use Rattle.tdb_base.specs.declared.reply.Reply.{Reply}
use Rattle.pair_rule.specs.Rest.{view}
use Rattle.treedb.specs.ReadBack.{AwaitsLines, IsOfLines, IsReadBack, IsReadBy, ReadsInto, new_id, new_ids}
use Rattle.treedb.proofs.NewLemmas.{if-printed, if-some, read-into}
use Rattle.trace_csv.specs.declared.form.Form.{Form}
use Rattle.treedb.specs.Answered.{CountsOf}
use Rattle.treedb.specs.Lines.{form_of}
use Rattle.treedb.specs.Stored.{AreTold}
use Rattle.treedb.proofs.Stores.{agrees_run, history, in_store_run, new_are_named, of_lines_run, read_back_run}
use Rattle.treedb.proofs.fill.complete_replies.Goals as goal

pub read_back-vectors-requires : goal.read_back-vectors-requires
read_back-vectors-requires g c =
    let choice = c.args.choice.now in
    let trace = c.args.trace.now in
    let about = c.args.store.now.about in
    let last = c.args.pass.now in
    let made = c.args.inserted in
    let replies = made.replies.items in
    let some = c.requires.valid.in_range.workers.0 in
    let value = c.deref.ensures.value in
    let named = subst (λ (x : List Reply). All (λ reply. IfSome (new_id reply) (λ id. (v : Vector) × (name_of (view last).seen v ≡ Some id))) x) (sym value)
    (new_are_named g.N.Part.RootPart.part choice trace made c.args.store.now last some c.requires.inserted c.requires.rest) in
    let lines : length trace ≡ length c.deref.result.now = sym c.requires.inserted.done.ran.one_history.1.among.one_each ∙ ap (λ (x : List Reply). length x) (sym value) in
    let given = if-some choice.job c.args.room (AwaitsLines about.slots (length trace)) c.requires.room in
    let room = subst (λ (n : ℕ). IfSome c.args.room (AwaitsLines about.slots n)) lines given in
    (search rules, (c.requires.names, (c.requires.rest, (named, room))))

pub returns : goal.returns
returns g c =
    let part = g.N.Part.RootPart.part in
    let choice = c.args.choice.now in
    let trace = c.args.trace.now in
    let store = c.args.store.now in
    let last = c.args.pass.now in
    let made = c.args.inserted in
    let replies = made.replies.items in
    let some = c.requires.valid.in_range.workers.0 in
    let run = history part choice trace made store last some c.requires.inserted c.requires.rest in
    let form = form_of choice in
    let slots = store.about.slots in
    let same = c.form_of-form.ensures in
    let result = c.read_back-vectors.result in
    let stats = subst (λ (f : Form). AreTold choice.stats c.stats_of-stats.result (CountsOf f part store.about (view last))) same c.stats_of-stats.ensures in
    let by_form = subst (λ (f : Form). ReadsInto f slots (view last).seen (new_ids c.deref.result.now) c.args.room result) same c.read_back-vectors.ensures in
    let into = subst (λ (x : List Reply). ReadsInto form slots (view last).seen (new_ids x) c.args.room result) c.deref.ensures.value by_form in
    let read = read-into choice.job c.args.room result (AwaitsLines slots (length trace)) form slots (view last).seen (new_ids replies) c.requires.room into in
    record {
      history = run;
      shared = c.requires.inserted.done.shared;
      agrees = agrees_run part choice trace made store last some c.requires.inserted c.requires.rest;
      of_mode = c.requires.of_mode.kept trace replies run c.stats_of-stats.result
          (in_store_run part choice trace made store last some c.requires.inserted c.requires.rest c.stats_of-stats.result stats);
      vectors = if-printed choice.job result (IsReadBy form slots (view last).seen (new_ids replies)) (IsReadBack form run)
          (read_back_run part choice trace made store last some c.requires.inserted c.requires.rest form) read;
      of_lines = if-printed choice.job result (IsReadBy form slots (view last).seen (new_ids replies)) (IsOfLines trace)
          (of_lines_run part choice trace made store last some c.requires.inserted c.requires.rest form) read;
    }
