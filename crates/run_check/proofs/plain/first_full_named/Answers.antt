use Rattle.std.proofs.Common.{arith}
use Rattle.std.proofs.lemmas.Option.{slice_get_within}
use Rattle.run_check.proofs.plain.first_full_named.Goals as goal

pub returns-clause-first : goal.returns-clause-first
returns-clause-first c = λ n it. (let inside = slice_get_within c.args.trace.now n it.vector it.here.0 in c.loop-i.invariant n (omega (arith, inside)) it)
