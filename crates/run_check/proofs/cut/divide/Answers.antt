use Rattle.std.proofs.Common.{arith}
use Rattle.std.proofs.lemmas.Option.{slice_get_within}
use Rattle.run_check.proofs.cut.divide.Goals as goal

pub returns-then-is_cut : goal.returns-then-is_cut
returns-then-is_cut c = record { holds = c.is_cut.ensures.0 c.if-is_cut.true; least = c.loop-i.invariant }

pub returns : goal.returns
returns c = λ i cut. (let within = slice_get_within c.args.bytes.now i 35 cut.mark in c.loop-i.invariant i (omega arith) cut)
