use Rattle.std.proofs.Common.{arith, refl, ◌+◌, ◌*◌, ◌^◌, ◌≤◌, sym, subst, ap, set}
use Rattle.std.proofs.Math.Pow.{pow_mono}
use Rattle.tree_shape.proofs.Trees.{stands_more}
use Rattle.pair_rule.specs.Paths.{size}
use Rattle.pair_rule.specs.Rest.{view}
use Rattle.tree_store.specs.Vectors.{slots_of, StandsFrom}
use Rattle.tree_store.proofs.Positions.{stands_small, stands_from_more, put_stands, built_one, read_tree, nodes_of}
use Rattle.tree_store.proofs.tree.put_position.Goals as goal

pub find_or_put-requires : goal.find_or_put-requires
find_or_put-requires g c =
    let t = c.args.nodes.now in
    let about = t.about in
    let r = c.requires in
    let v = view c.args.pass.now in
    let tree = c.args.pass.now.next_tree.items in
    let are = nodes_of about v r.rest.seat.about_is r.rest.seat.sound.nodes in
    let fit : about.sizes.nodes ≤ about.width = c.requires.rest.seat.is_about.range.indexes_fit in
    let left = read_tree about (slots_of about tree) v.known tree (c.args.p + 1) (2 * c.args.p) c.index.result.now r.rest.next_length r.stands (omega arith) (omega arith) c.index.ensures in
    let right = read_tree about (slots_of about tree) v.known tree (c.args.p + 1) (2 * c.args.p + 1) c.index-2.result.now r.rest.next_length r.stands (omega arith) (omega arith) c.index-2.ensures in
    let small_left = (stands_small about v.known (slots_of about tree) (2 * c.args.p) c.index.result.now are fit r.vector (omega arith) left) in
    let small_right = (stands_small about v.known (slots_of about tree) (2 * c.args.p + 1) c.index-2.result.now are fit r.vector (omega arith) right) in
    (omega arith, (r.rest, (small_left, small_right)))

pub returns-in_default-clause-full : goal.returns-in_default-clause-full
returns-in_default-clause-full g c =
    let t = c.args.nodes.now in
    let about = t.about in
    let r = c.requires in
    let v = view c.args.pass.now in
    let tree = c.args.pass.now.next_tree.items in
    let e = c.in_default.ensures in
    let more = e.full_puts_none.grown.known in
    let w = view c.find_or_put.new.pass in
    let left = read_tree about (slots_of about tree) v.known tree (c.args.p + 1) (2 * c.args.p) c.index.result.now r.rest.next_length r.stands (omega arith) (omega arith) c.index.ensures in
    let right = read_tree about (slots_of about tree) v.known tree (c.args.p + 1) (2 * c.args.p + 1) c.index-2.result.now r.rest.next_length r.stands (omega arith) (omega arith) c.index-2.ensures in
    record {
      position = c.args.p;
      inner = r.inner;
      left = c.index.result.now;
      right = c.index-2.result.now;
      left_stands = stands_more about.width about.slots v.known w.known (slots_of about tree) (2 * c.args.p) c.index.result.now more left;
      right_stands = stands_more about.width about.slots v.known w.known (slots_of about tree) (2 * c.args.p + 1) c.index-2.result.now more right;
      blocked = e.full;
    }

pub overflow_cast-index : goal.overflow_cast-index
unfolding size
overflow_cast-index g c =
    let t = c.args.nodes.now in
    let e = c.in-Ok.ensures in
    let w = view c.find_or_put.new.pass in
    let are = nodes_of t.about w e.rest.seat.about_is e.rest.seat.sound.nodes in
    let below = (are.inside c.in-Ok.index _ e.known).0 in
    let room : 2 ^ t.about.sizes.nodes ≤ 2 ^ 25 = pow_mono c.requires.rest.seat.is_about.range.most_nodes in
    omega (arith, below, room)

pub returns-clause-stands : goal.returns-clause-stands
returns-clause-stands g c =
    let about = c.args.nodes.now.about in
    let r = c.requires in
    let v = view c.args.pass.now in
    let tree = c.args.pass.now.next_tree.items in
    let e = c.in-Ok.ensures in
    let w = view c.find_or_put.new.pass in
    let same = ap (λ p. p.next_tree.items) e.tree in
    let here = put_stands c.requires.rest.seat.is_about.range.indexes_fit refl v w tree c.args.p c.in-Ok.index c.index.result.now c.index-2.result.now r.inner.0 r.inner.1 r.rest.seat.about_is r.rest.seat.sound.nodes r.rest.next_length r.vector r.stands
    c.index.ensures c.index-2.ensures e.put.grown.known e.known in
    subst (λ l. StandsFrom about (slots_of about tree) c.args.p w.known (set l c.args.p c.in-Ok.index)) (sym same)
    (stands_from_more about (slots_of about tree) c.args.p c.in-Ok.index v.known w.known tree (omega (arith, r.rest.next_length)) e.put.grown.known r.stands here)

pub returns-clause-put : goal.returns-clause-put
returns-clause-put g c =
    let about = c.args.nodes.now.about in
    let r = c.requires in
    let v = view c.args.pass.now in
    let tree = c.args.pass.now.next_tree.items in
    let e = c.in-Ok.ensures in
    let w = view c.find_or_put.new.pass in
    let here = put_stands c.requires.rest.seat.is_about.range.indexes_fit refl v w tree c.args.p c.in-Ok.index c.index.result.now c.index-2.result.now r.inner.0 r.inner.1 r.rest.seat.about_is r.rest.seat.sound.nodes r.rest.next_length r.vector r.stands
    c.index.ensures c.index-2.ensures e.put.grown.known e.known in
    built_one about (slots_of about tree) c.args.p c.in-Ok.index v w r.inner.0 r.inner.1 e.put here
