use Rattle.std.proofs.Common.{rules, length, subst}
use Rattle.command_line.specs.declared.outcome.Mode.{Mode}
use Rattle.pair_rule.specs.Rest.{view}
use Rattle.region_root.specs.Compact.{compact}
use Rattle.tdb_base.specs.declared.reply.Reply.TheVariants as r
use Rattle.work_run.specs.Enough.{NeverAnswered}
use Rattle.treedb.specs.Filling.{AreInserted}
use Rattle.treedb.specs.Room.{HasRootRoom}
use Rattle.treedb.proofs.Parts.{compact_part}
use Rattle.treedb.proofs.RoomLemmas.{cells_for, of_new_store}
use Rattle.treedb.proofs.fill.fill_compact.Goals as goal

pub complete_replies-requires : goal.complete_replies-requires
complete_replies-requires g c =
    let ready = c.requires.ready in
    let choice = c.args.choice.now in
    let lines = length c.args.trace.now in
    let about = c.args.store.now.about in
    let is = ready.about_is in
    let new = of_new_store (view c.args.pass.now) ready.unknown about ready.begins ready.whole in
    let enough : HasRootRoom choice.mode is.sizes lines → NeverAnswered c.in_ok-inserted.inserted.replies.items r.FullRoots = λ room.
    c.in_ok-inserted.ensures.enough_roots new (cells_for about lines is.sizes.region is.region (subst (λ (m : Mode). HasRootRoom m is.sizes lines) c.requires.compact room)) in
    let inserted : AreInserted (compact g.row.W g.row.F) choice c.args.trace.now c.in_ok-inserted.inserted c.args.store.now c.insert_waiting.new.pass = record {
      about_is = ready.about_is;
      first = c.args.pass.now;
      unknown = ready.unknown;
      begins = ready.begins;
      whole = ready.whole;
      enough_roots = enough;
      done = c.in_ok-inserted.ensures.inserted;
    } in
    (search rules, (c.requires.valid, (compact_part g.row.W g.row.F choice c.requires.profile c.requires.compact, (search rules, (c.in_ok-inserted.ensures.rest, (inserted, ready.room_is))))))
