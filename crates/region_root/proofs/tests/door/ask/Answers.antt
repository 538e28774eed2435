use Rattle.std.proofs.Common.{sym, subst}
use Rattle.packed_word.specs.Word.{pair_of}
use Rattle.pair_rule.specs.Part.{Store}
use Rattle.pair_rule.specs.Calls.{IsSomeRoot}
use Rattle.pair_rule.specs.Rest.{view}
use Rattle.region_root.proofs.ThreeSlots.{wide, three_slots, put_named}
use Rattle.region_root.proofs.tests.door.ask.Goals as goal

pub look_or_put-requires-clause-stands : goal.look_or_put-requires-clause-stands
look_or_put-requires-clause-stands g c =
    let known = (view c.zeros.new.pass).known in
    let right = wide c.requires.width c.args.slot c.requires.slot in
    subst (λ (s : Store). IsSomeRoot s.about known (pair_of s.about.width c.in_ok-node.node c.args.slot)) (sym c.requires.same)
    (three_slots c.args.store.now.about c.in_ok-node.node c.args.slot known c.requires.slots right c.in_ok-node.ensures.known)

pub returns-in-Ok-clause-named : goal.returns-in-Ok-clause-named
returns-in-Ok-clause-named g c =
    let known = (view c.zeros.new.pass).known in
    let right = wide c.requires.width c.args.slot c.requires.slot in
    put_named c.args.roots.now.nodes.now _ _ _ _ _ c.in-Ok.ensures.put
    (subst (λ (s : Store). IsSomeRoot s.about known (pair_of s.about.width c.in_ok-node.node c.args.slot)) (sym c.requires.same)
    (three_slots c.args.store.now.about c.in_ok-node.node c.args.slot known c.requires.slots right c.in_ok-node.ensures.known))
