use Rattle.store_uses.specs.declared.together.Worker.{Worker}
use Rattle.store_uses.specs.Known.{IsReady}
use Rattle.store_uses.proofs.Known.{ready, both}
use Rattle.store_uses.proofs.together.search_together.Goals as goal

pub expand_at_once-requires-clause-ready : goal.expand_at_once-requires-clause-ready
expand_at_once-requires-clause-ready g c κs within =
    let store = c.in_ok-store.store in
    let split = c.in-Ok.ensures.split in
    let one = c.in_ok-begin_with in
    let two = c.in_ok-begin_with-2 in
    both (λ (w : Worker). IsReady store w.pass w.frontier.items) one.field-0 two.field-0
    (ready store c.split.new.pass one.field-0.pass one.field-0.frontier.items one.ensures.pass split.rest one.ensures.frontier)
    (ready store c.in-Ok.other two.field-0.pass two.field-0.frontier.items two.ensures.pass split.child_rest two.ensures.frontier)
