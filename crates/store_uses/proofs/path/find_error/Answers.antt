use Rattle.std.proofs.Common.{All, sym, subst, ◌∙◌, rules}
use Rattle.std.proofs.lemmas.List.Elements.{All-weaker}
use Rattle.pair_rule.specs.Rest.{KnowsName}
use Rattle.region_root.specs.Compact.{compact}
use Rattle.store_uses.proofs.Known.{copied_there, read_stays}
use Rattle.store_uses.specs.declared.path.Reached.{Reached}
use Rattle.store_uses.proofs.path.find_error.Goals as goal

pub read-requires : goal.read-requires
read-requires g c =
    let Knows = λ (r : Reached). KnowsName c.loop-at.pass r.id in
    let lookup = c.get.ensures.lookup in
    let all = subst (λ l. All Knows l) (sym c.deref.ensures.value) c.loop-at.invariant.found in
    let known = copied_there Knows c.deref.result.now c.loop-at.at _ c.get.result c.in-Some.reached lookup.1 lookup.3 c.in-Some.ensures all in
    (search rules, (search rules, (c.loop-at.invariant.rest, (known, c.loop-at.invariant.slots.1 ∙ sym c.loop-at.invariant.slots.0))))

pub returns-then-both_critical-clause-found : goal.returns-then-both_critical-clause-found
returns-then-both_critical-clause-found g c =
    let stays = read_stays (compact 28 7) c.args.store.now c.loop-at.pass c.read.new.pass c.read.ensures.rest c.read.ensures.read.no_call in
    All-weaker (λ (r : Reached). KnowsName c.loop-at.pass r.id) (λ (r : Reached). KnowsName c.read.new.pass r.id) (λ r. stays r.id) c.loop-at.found.items c.loop-at.invariant.found

pub follow-requires-clause-found : goal.follow-requires-clause-found
follow-requires-clause-found g c =
    let stays = read_stays (compact 28 7) c.args.store.now c.loop-at.pass c.read.new.pass c.read.ensures.rest c.read.ensures.read.no_call in
    All-weaker (λ (r : Reached). KnowsName c.loop-at.pass r.id) (λ (r : Reached). KnowsName c.read.new.pass r.id) (λ r. stays r.id) c.loop-at.found.items c.loop-at.invariant.found
