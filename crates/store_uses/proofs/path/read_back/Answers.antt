use Rattle.std.proofs.Common.{All, sym, subst, rules}
use Rattle.std.proofs.lemmas.List.Elements.{All-push, All-weaker}
use Rattle.pair_rule.specs.Rest.{KnowsName}
use Rattle.region_root.specs.Compact.{compact}
use Rattle.store_uses.specs.Known.{IsStored}
use Rattle.store_uses.proofs.Known.{copied_there, read_stays, stored_stays, all_stored_stay}
use Rattle.store_uses.specs.declared.path.Reached.{Reached}
use Rattle.store_uses.proofs.path.read_back.Goals as goal

pub read-requires : goal.read-requires
read-requires c =
    let Knows = λ (r : Reached). KnowsName c.loop.pass r.id in
    let lookup = c.get.ensures.lookup in
    let known = copied_there Knows c.args.found.now c.loop.at _ c.get.result c.in-Some.reached lookup.1 lookup.3 c.in-Some.ensures c.loop.invariant.found in
    (search rules, (search rules, (c.loop.invariant.rest, (known, sym c.loop.invariant.slots))))

pub returns-then-at-eq0-clause-stored : goal.returns-then-at-eq0-clause-stored
returns-then-at-eq0-clause-stored c =
    let P = IsStored c.read.new.pass in
    let stays = all_stored_stay (compact 28 7) c.args.store.now c.loop.pass c.read.new.pass c.read.ensures.rest c.read.ensures.read.no_call in
    let one = stored_stays (compact 28 7) c.args.store.now c.loop.pass c.read.new.pass c.read.ensures.rest c.read.ensures.read.no_call c.read.new.out (c.in-Some.reached.id, c.read.ensures.read.vector) in
    subst (λ l. All P l) (sym c.in_ok-push.ensures.items) (All-push P c.loop.path.items c.read.new.out (stays c.loop.path.items c.loop.invariant.stored) one)

pub loop-preserved : goal.loop-preserved
loop-preserved c =
    let P = IsStored c.read.new.pass in
    let knows = read_stays (compact 28 7) c.args.store.now c.loop.pass c.read.new.pass c.read.ensures.rest c.read.ensures.read.no_call in
    let stays = all_stored_stay (compact 28 7) c.args.store.now c.loop.pass c.read.new.pass c.read.ensures.rest c.read.ensures.read.no_call in
    let one = stored_stays (compact 28 7) c.args.store.now c.loop.pass c.read.new.pass c.read.ensures.rest c.read.ensures.read.no_call c.read.new.out (c.in-Some.reached.id, c.read.ensures.read.vector) in
    record {
      slots = c.loop.invariant.slots;
      rest = c.read.ensures.rest;
      found = All-weaker (λ (r : Reached). KnowsName c.loop.pass r.id) (λ (r : Reached). KnowsName c.read.new.pass r.id) (λ r. knows r.id) c.args.found.now c.loop.invariant.found;
      stored = subst (λ l. All P l) (sym c.in_ok-push.ensures.items) (All-push P c.loop.path.items c.read.new.out (stays c.loop.path.items c.loop.invariant.stored) one);
    }
