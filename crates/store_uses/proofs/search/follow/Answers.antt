use Rattle.std.proofs.Common.{All, sym, subst}
use Rattle.std.proofs.lemmas.List.Elements.{All-push, All-weaker}
use Rattle.pair_rule.specs.Rest.{KnowsName}
use Rattle.store_uses.proofs.search.follow.Goals as goal

pub returns-clause-frontier : goal.returns-clause-frontier
returns-clause-frontier c =
    let P = KnowsName c.insert.new.pass in
    subst (λ l. All P l) (sym c.in_ok-push.ensures.items)
    (All-push P c.args.frontier.now.items _ (All-weaker (KnowsName c.args.pass.now) P c.insert.ensures.stay c.args.frontier.now.items c.requires.frontier) c.in_ok-id.ensures.known)
