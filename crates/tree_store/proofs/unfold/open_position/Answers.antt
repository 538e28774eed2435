use Rattle.std.proofs.Common.{arith, ◌+◌, ◌*◌, ◌∙◌, refl, sym, subst, ap, set}
use Rattle.tree_shape.proofs.Trees.{at_pair, stands_more}
use Rattle.pair_rule.specs.Rest.{view}
use Rattle.tree_store.specs.Vectors.{StandsTo}
use Rattle.tree_store.proofs.Opens.{opened_number, opened_parts, stands_to_more}
use Rattle.tree_store.proofs.unfold.open_position.Goals as goal

pub pair_at-left-requires : goal.pair_at-left-requires
pair_at-left-requires g c =
    let about = c.args.nodes.now.about in
    let r = c.requires in
    let nodes = (view c.args.pass.now).known in
    let tree = c.args.pass.now.next_tree.items in
    let v = r.stands.0 in
    let x = c.index.result.now in
    let number = opened_number about v nodes tree (2 * c.args.p) c.args.p x (omega (arith, r.rest.next_length, r.inner)) r.inner.0 (omega (arith, r.inner)) r.stands.1 c.index.ensures in
    let index = at_pair about.width about.slots nodes v c.args.p x r.inner.1 number in
    (omega arith, (r.rest, (index.0, index.1)))

pub returns-clause-stands : goal.returns-clause-stands
returns-clause-stands g c = λ v stands.
    let t = c.args.nodes.now in
    let about = t.about in
    let r = c.requires in
    let u = view c.args.pass.now in
    let w = view c.pair_at-left.new.pass in
    let tree = c.args.pass.now.next_tree.items in
    let x = c.index.result.now in
    let p = c.args.p in
    let e = c.pair_at-left.ensures in
    let left = c.pair_at-left.result.0 in
    let right = c.pair_at-left.result.1 in
    let number = opened_number about v u.known tree (2 * p) p x (omega (arith, r.rest.next_length, r.inner)) r.inner.0 (omega (arith, r.inner)) stands c.index.ensures in
    let both = opened_parts about about.width refl v u.known left right e.parts.1 p x r.rest.seat.sound.nodes.naming r.inner.1 number e.pair in
    let part = e.puts_none.grown.known in
    let more = stands_to_more about v p left right u.known w.known tree (omega (arith, r.rest.next_length, r.inner)) part
    (stands_more about.width about.slots u.known w.known v (2 * p) left part both.0, stands_more about.width about.slots u.known w.known v (2 * p + 1) right part both.1) stands in
    let same = ap (λ q. set (set q.next_tree.items (2 * p) left) (2 * p + 1) right) e.tree in
    let seen = ap (λ q. (view q).known) c.note_parts.ensures.rest in
    subst (λ l. StandsTo about v (2 * p + 2) (view c.note_parts.new.pass).known l) (sym (c.note_parts.ensures.tree ∙ same)) (subst (λ n. StandsTo about v (2 * p + 2) n (set (set tree (2 * p) left) (2 * p + 1) right)) (sym seen) more)
