use Rattle.std.proofs.Common.{All, sym, subst, rules}
use Rattle.std.proofs.lemmas.List.Elements.{All-push, All-weaker}
use Rattle.pair_rule.specs.Rest.{KnowsName}
use Rattle.store_uses.specs.declared.path.Reached.{Reached}
use Rattle.store_uses.proofs.path.follow.Goals as goal

pub returns-in_ok-push-clause-found : goal.returns-in_ok-push-clause-found
returns-in_ok-push-clause-found g c =
    let Before = λ (r : Reached). KnowsName c.args.pass.now r.id in
    let After = λ (r : Reached). KnowsName c.insert_new.new.pass r.id in
    subst (λ l. All After l) (sym c.in_ok-push.ensures.items)
    (All-push After c.args.found.now.items _ (All-weaker Before After (λ r. c.insert_new.ensures.stay r.id) c.args.found.now.items c.requires.found) (search rules))
