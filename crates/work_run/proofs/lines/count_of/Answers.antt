use Rattle.std.proofs.Common.{arith}
use Rattle.work_run.proofs.Dealing.{mine-length}
use Rattle.work_run.proofs.lines.count_of.Goals as goal

pub returns : goal.returns
returns c =
    let dealt = mine-length c.args.workers c.args.block c.args.worker (omega arith) (omega arith) c.args.lines in
    omega (arith, c.min.ensures, c.saturating_sub-rest.ensures)
