use Rattle.std.proofs.Common.{◌≡◌, ◌-◌, ◌+◌, rules, arith, sym, ap, ◌∙◌, Some, take, length}
use Rattle.std.specs.Prelude.{get_or, map}
use Rattle.tdb_base.specs.declared.reply.Reply.TheVariants.{New}
use Rattle.pair_rule.specs.Rest.{view}
use Rattle.pair_rule.proofs.Histories.{extends_trans}
use Rattle.treedb.specs.ReadBack.{new_id, new_ids, vectors}
use Rattle.treedb.proofs.ReadBackLemmas.{adds-names, named-later, new_ids-more, room-less, room-next}
use Rattle.treedb.proofs.distinct.ReadBack.add_all.Goals as goal

pub add_new-requires : goal.add_new-requires
add_new-requires g c =
    let inv = c.loop-reply.invariant in
    let i = c.loop-reply.reply-index in
    let replies = c.args.replies.now in
    let there = c.loop-reply-test.true in
    let v = view c.loop-reply.pass in
    let named = named-later v.about.flags (view c.args.pass.now).seen v.seen (new_id (get_or replies i (New 0))) inv.rest.seat.sound.legal inv.later
    (c.requires.named i (New 0) (omega (arith, there))) in
    (search rules, (c.requires.names, (inv.rest, (named, (inv.slots ∙ c.requires.slots, (room-less (length replies - i) 1 c.loop-reply.self inv.room (omega (arith, there)), inv.counted))))))

pub loop-reply-preserved : goal.loop-reply-preserved
loop-reply-preserved g c =
    let inv = c.loop-reply.invariant in
    let i = c.loop-reply.reply-index in
    let replies = c.args.replies.now in
    let there = c.loop-reply-test.true in
    let h = (view c.args.pass.now).seen in
    let v = view c.loop-reply.pass in
    let told = c.add_new.ensures in
    let left : length replies - i ≡ (length replies - (i + 1)) + 1 = omega (arith, there) in
    let room = room-less (length replies - i) ((length replies - (i + 1)) + 1) c.loop-reply.self inv.room (omega (arith, left)) in
    record {
      rest = told.rest;
      later = extends_trans h v.seen (view c.add_new.new.pass).seen inv.later told.later;
      slots = told.room.slots ∙ inv.slots;
      room = room-next (length replies - (i + 1)) c.loop-reply.self c.add_new.new.self room told.room told.one_more;
      counted = told.counted;
      names = adds-names v.about.flags h v.seen (new_id (get_or replies i (New 0))) (vectors c.loop-reply.self) (vectors c.add_new.new.self) (new_ids (take i replies)) inv.rest.seat.sound.legal inv.later
          (c.requires.named i (New 0) (omega (arith, there))) told.added inv.names
          ∙ ap (map Some) (sym (new_ids-more replies i (New 0) (omega (arith, there))));
    }
