use Rattle.std.proofs.Common.{arith}
use Rattle.work_run.proofs.Stepping.{all_to_come}
use Rattle.work_run.proofs.turns.Turns.new.Goals as goal

pub returns : goal.returns
returns c = all_to_come c.args.workers c.args.block c.args.worker (omega arith) (omega arith) c.args.lines
