use Rattle.std.proofs.Common.{subst, sym, All}
use Rattle.std.proofs.lemmas.List.Elements.{All-push, All-weaker}
use Rattle.pair_rule.specs.Rest.{KnowsName}
use Rattle.measure.proofs.flags.fill.Goals as goal

pub returns-in_default-clause-named : goal.returns-in_default-clause-named
returns-in_default-clause-named c = All-weaker (KnowsName c.loop-number.pass) (KnowsName c.put_pair.new.pass) c.put_pair.ensures.stay c.loop-number.ids.items c.loop-number.invariant.named

pub loop-number-preserved : goal.loop-number-preserved
loop-number-preserved c =
    let P = KnowsName c.put_pair.new.pass in
    record {
      width = c.loop-number.invariant.width;
      slots = c.loop-number.invariant.slots;
      rest = c.put_pair.ensures.rest;
      named = subst (λ l. All P l) (sym c.in_ok-push.ensures.items)
          (All-push P c.loop-number.ids.items _ (All-weaker (KnowsName c.loop-number.pass) P c.put_pair.ensures.stay c.loop-number.ids.items c.loop-number.invariant.named) c.in-Some.ensures.named);
    }
