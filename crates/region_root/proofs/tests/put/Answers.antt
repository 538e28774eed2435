use Rattle.std.proofs.Common.{rules}
use Rattle.pair_rule.specs.Rest.{view}
use Rattle.region_root.proofs.ThreeSlots.{wide, three_slots, put_named}
use Rattle.region_root.proofs.tests.put.Goals as goal

pub put_root-requires : goal.put_root-requires
put_root-requires g c =
    let about = c.args.store.now.about in
    let n = c.in_ok-node.ensures in
    let left = wide c.requires.width c.in_ok-node.node n.small in
    let right = wide c.requires.width c.args.slot c.requires.slot in
    (search rules, (search rules, (n.rest, (left, (right, three_slots about c.in_ok-node.node c.args.slot (view c.zeros.new.pass).known c.requires.slots right n.known)))))

pub returns-in-Ok-clause-named : goal.returns-in-Ok-clause-named
returns-in-Ok-clause-named g c =
    let right = wide c.requires.width c.args.slot c.requires.slot in
    put_named c.args.store.now _ _ _ _ _ c.in-Ok.ensures.put
    (three_slots c.args.store.now.about c.in_ok-node.node c.args.slot (view c.zeros.new.pass).known c.requires.slots right c.in_ok-node.ensures.known)
