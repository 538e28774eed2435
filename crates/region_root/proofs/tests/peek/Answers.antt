use Rattle.std.proofs.Common.{rules}
use Rattle.pair_rule.specs.Rest.{view}
use Rattle.region_root.proofs.ThreeSlots.{wide, three_slots}
use Rattle.region_root.proofs.tests.peek.Goals as goal

pub peek_root-requires : goal.peek_root-requires
peek_root-requires g c =
    let n = c.in_ok-node.ensures in
    let left = wide c.requires.width c.in_ok-node.node n.small in
    let right = wide c.requires.width c.args.slot c.requires.slot in
    (search rules, (search rules, (n.rest, (left, (right, three_slots c.args.store.now.about c.in_ok-node.node c.args.slot (view c.zeros.new.pass).known c.requires.slots right n.known)))))
