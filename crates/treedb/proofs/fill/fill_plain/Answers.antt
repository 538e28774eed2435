use Rattle.std.proofs.Common.{rules, length, subst}
use Rattle.command_line.specs.declared.outcome.Mode.{Mode}
use Rattle.pair_rule.specs.Paths.{root_buckets}
use Rattle.pair_rule.specs.Rest.{view}
use Rattle.root_plain.specs.Plain.{plain}
use Rattle.tdb_base.specs.declared.reply.Reply.TheVariants as r
use Rattle.work_run.specs.Enough.{NeverAnswered}
use Rattle.treedb.specs.Filling.{AreInserted}
use Rattle.treedb.specs.Room.{HasRootRoom}
use Rattle.treedb.proofs.Parts.{plain_part}
use Rattle.treedb.proofs.RoomLemmas.{buckets_for, of_new_store}
use Rattle.treedb.proofs.fill.fill_plain.Goals as goal

pub complete_replies-requires : goal.complete_replies-requires
complete_replies-requires g c =
    let ready = c.requires.ready in
    let choice = c.args.choice.now in
    let lines = length c.args.trace.now in
    let about = c.args.store.now.about in
    let is = ready.about_is in
    let new = of_new_store (view c.args.pass.now) ready.unknown about ready.begins ready.whole in
    let enough : HasRootRoom choice.mode is.sizes lines → NeverAnswered c.in_ok-inserted.inserted.replies.items r.FullRoots = λ room.
    c.in_ok-inserted.ensures.enough_roots new (buckets_for (root_buckets about) lines is.sizes.roots is.sizes.probe is.roots is.probe is.is_about.range.roots.0
    (subst (λ (m : Mode). HasRootRoom m is.sizes lines) c.requires.plain room)) in
    let inserted : AreInserted plain choice c.args.trace.now c.in_ok-inserted.inserted c.args.store.now c.insert_plainly.new.pass = record {
      about_is = ready.about_is;
      first = c.args.pass.now;
      unknown = ready.unknown;
      begins = ready.begins;
      whole = ready.whole;
      enough_roots = enough;
      done = c.in_ok-inserted.ensures.inserted;
    } in
    (search rules, (c.requires.valid, (plain_part choice c.requires.plain, (search rules, (c.in_ok-inserted.ensures.rest, (inserted, ready.room_is))))))
