use Rattle.std.proofs.Common.{Some}
use Rattle.std.proofs.lemmas.List.Elements.{All-pop}
use Rattle.pair_rule.specs.Rest.{KnowsName}
use Rattle.store_uses.proofs.search.expand_all.Goals as goal

pub expand-requires-clause-known : goal.expand-requires-clause-known
expand-requires-clause-known c = (All-pop (KnowsName c.loop.pass) c.loop.frontier.items c.pop.new.self.items (Some c.in-Some.id) c.in-Some.ensures.items c.loop.invariant.frontier).1

pub expand-requires-clause-frontier : goal.expand-requires-clause-frontier
expand-requires-clause-frontier c = (All-pop (KnowsName c.loop.pass) c.loop.frontier.items c.pop.new.self.items (Some c.in-Some.id) c.in-Some.ensures.items c.loop.invariant.frontier).0
