use Rattle.std.proofs.Common.{arith, refl, sym}
use Rattle.work_run.proofs.Dealing.{mine-at, mine-longer, mine-past, mine-ends}
use Rattle.work_run.proofs.lines.line_of.Goals as goal

pub returns-then-line-lines-clause-line : goal.returns-then-line-lines-clause-line
returns-then-line-lines-clause-line c =
    sym (mine-at c.args.workers c.args.block c.args.worker (omega arith) (omega arith) c.args.lines c.args.n (omega arith))

pub returns-then-line-lines-clause-none : goal.returns-then-line-lines-clause-none
returns-then-line-lines-clause-none c =
    let longer = mine-longer c.args.workers c.args.block c.args.worker (omega arith) (omega arith) c.args.lines c.args.n (omega arith) in
    (λ e. cc e, λ few. absurd (omega arith))

pub returns-else-line-lines-clause-line : goal.returns-else-line-lines-clause-line
returns-else-line-lines-clause-line c =
    sym (mine-past c.args.workers c.args.block c.args.worker (omega arith) (omega arith) c.args.lines c.args.n (omega arith))

pub returns-else-line-lines-clause-none : goal.returns-else-line-lines-clause-none
returns-else-line-lines-clause-none c =
    (λ e. mine-ends c.args.workers c.args.block c.args.worker (omega arith) (omega arith) c.args.lines c.args.n (omega arith), λ few. refl)
