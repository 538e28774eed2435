use Rattle.run_check.proofs.plain.partner.Goals as goal
use Rattle.std.proofs.Common.{arith}

pub returns-clause-first : goal.returns-clause-first
returns-clause-first c = λ n it. (let before = it.before in c.loop-first.invariant n (omega (arith, before)) it)
