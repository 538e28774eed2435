use Rattle.std.proofs.Common.{true, sym, subst, ap}
use Rattle.packed_word.specs.Word.{pair_of}
use Rattle.pair_rule.specs.Rest.{AtRest, view}
use Rattle.tree_store.specs.Store.{RootIsNamed}
use Rattle.tree_store.specs.Vectors.{IsVector, slots_of, StandsFrom}
use Rattle.tree_store.proofs.Inserts.{of_naming, becomes_last}
use Rattle.tree_store.proofs.Roots.{root_read, rests_kept, stands_from_grown, root_stands_more}
use Rattle.tree_store.proofs.insert.put_tree_root.Goals as goal

pub look_or_put-requires : goal.look_or_put-requires
look_or_put-requires g c =
    let store = g.D.RootTable.store c.args.roots.now in
    let about = store.about in
    let r = c.requires in
    let range = r.rest.seat.is_about.range in
    let f = root_read about (view c.args.pass.now) c.args.pass.now.next_tree.items c.index.result.now c.index-2.result.now range.indexes_fit range.least_slots r.rest.seat.about_is r.rest.seat.sound.nodes r.rest.next_length r.vector r.stands c.index.ensures c.index-2.ensures in
    record { rest = r.rest; left = f.left_small; right = f.right_small; stands = (slots_of about c.args.pass.now.next_tree.items, f.stands, r.vector.slots) }

pub returns-in-Ok-clause-rest : goal.returns-in-Ok-clause-rest
returns-in-Ok-clause-rest g c =
    let part = g.D.Part.RootPart.part in
    let store = g.D.RootTable.store c.args.roots.now in
    let about = store.about in
    let r = c.requires in
    let range = r.rest.seat.is_about.range in
    let v = view c.args.pass.now in
    let tree = c.args.pass.now.next_tree.items in
    let u = c.look_or_put.new.pass in
    let e = c.in-Ok.ensures.put in
    let f = root_read about v tree c.index.result.now c.index-2.result.now range.indexes_fit range.least_slots r.rest.seat.about_is r.rest.seat.sound.nodes r.rest.next_length r.vector r.stands c.index.ensures c.index-2.ensures in
    let caught = e.entry (slots_of about tree) f.stands r.vector.slots in
    let same = ap (λ p. p.next_tree) e.buffers in
    let vector = subst (λ l. IsVector about (slots_of about l.items)) (sym same) r.vector in
    let from = subst (λ l. StandsFrom about (slots_of about l.items) 2 (view u).known l.items) (sym same) (stands_from_grown about (slots_of about tree) 2 v.known (view u).known tree caught.known r.stands) in
    subst (λ p. AtRest part store p) (sym c.keep_tree.ensures) (rests_kept part store u e.rest vector from)

pub returns-in-Ok-clause-answered : goal.returns-in-Ok-clause-answered
returns-in-Ok-clause-answered g c =
    let part = g.D.Part.RootPart.part in
    let store = g.D.RootTable.store c.args.roots.now in
    let about = store.about in
    let r = c.requires in
    let range = r.rest.seat.is_about.range in
    let p = c.args.pass.now in
    let v = view p in
    let tree = p.next_tree.items in
    let u = c.look_or_put.new.pass in
    let e = c.in-Ok.ensures.put in
    let f = root_read about v tree c.index.result.now c.index-2.result.now range.indexes_fit range.least_slots r.rest.seat.about_is r.rest.seat.sound.nodes r.rest.next_length r.vector r.stands c.index.ensures c.index-2.ensures in
    let caught = e.entry (slots_of about tree) f.stands r.vector.slots in
    let pair = pair_of about.width c.index.result.now c.index-2.result.now in
    let stands = root_stands_more about.width about.slots v.known (view u).known _ (slots_of about tree) caught.known f.stands in
    let named : RootIsNamed part store (slots_of about tree) c.in-Ok.fresh c.in-Ok.id p (record u { last_tree = u.next_tree; next_tree = u.last_tree; has_last = true }) = record {
      call_is = caught;
      root = record { pair = pair; there = e.root; stands = stands };
      looked = (pair, stands, c.in-Ok.ensures.looked);
      tree = becomes_last p u e.buffers;
    } in
    of_naming part store (slots_of about tree) c.in-Ok.fresh c.in-Ok.id c.reply.result p c.keep_tree.new.pass c.reply.ensures
    (subst (λ q. RootIsNamed part store (slots_of about tree) c.in-Ok.fresh c.in-Ok.id p q) (sym c.keep_tree.ensures) named)

pub returns-in-Err-clause-answered : goal.returns-in-Err-clause-answered
returns-in-Err-clause-answered g c =
    let store = g.D.RootTable.store c.args.roots.now in
    let about = store.about in
    let r = c.requires in
    let range = r.rest.seat.is_about.range in
    let v = view c.args.pass.now in
    let tree = c.args.pass.now.next_tree.items in
    let u = view c.look_or_put.new.pass in
    let e = c.in-Err.ensures.refused in
    let f = root_read about v tree c.index.result.now c.index-2.result.now range.indexes_fit range.least_slots r.rest.seat.about_is r.rest.seat.sound.nodes r.rest.next_length r.vector r.stands c.index.ensures c.index-2.ensures in
    let pair = pair_of about.width c.index.result.now c.index-2.result.now in
    let stands = root_stands_more about.width about.slots v.known u.known _ (slots_of about tree) e.no_call.known f.stands in
    record {
      no_call = e.no_call;
      blocked = (pair, stands, e.full);
      looked = (pair, stands, c.in-Err.ensures.looked);
      buffers = e.buffers;
    }
