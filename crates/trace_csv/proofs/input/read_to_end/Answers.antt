use Rattle.std.proofs.Common.{arith, ◌≡◌, ◌≤◌, ◌<◌, ◌++◌, take, length, length-append, refl}
use Rattle.trace_csv.specs.Input.{limit}
use Rattle.trace_csv.proofs.InputLemmas.{consumes-more}
use Rattle.trace_csv.proofs.input.read_to_end.Goals as goal

pub returns-then-count-len-clause-gave : goal.returns-then-count-len-clause-gave
returns-then-count-len-clause-gave g c =
    let piece = take c.in-Ok.count c.read.new.buf in
    let read : length piece ≡ c.in-Ok.count = omega (arith, c.in-Ok.ensures.bound.1) in
    let more : limit < length (c.loop-turn.all.items ++ piece) = omega (arith, length-append c.loop-turn.all.items piece) in
    record {
      gave = c.loop-turn.all.items ++ piece;
      given = consumes-more _ _ _ _ _ c.loop-turn.invariant.given c.in-Ok.ensures.bytes.0;
      too_much = ((λ _. more), (λ _. refl));
    }

pub returns-then-is_err-clause-gave : goal.returns-then-is_err-clause-gave
returns-then-is_err-clause-gave g c =
    let piece = take c.in-Ok.count c.read.new.buf in
    let read : length piece ≡ c.in-Ok.count = omega (arith, c.in-Ok.ensures.bound.1) in
    let few : length (c.loop-turn.all.items ++ piece) ≤ limit = omega (arith, length-append c.loop-turn.all.items piece) in
    record {
      gave = c.loop-turn.all.items ++ piece;
      given = consumes-more _ _ _ _ _ c.loop-turn.invariant.given c.in-Ok.ensures.bytes.0;
      too_much = ((λ e. cc e), (λ h. absurd (omega arith)));
    }
