use Rattle.work_run.proofs.Few.{few_puts}
use Rattle.work_run.proofs.run.puts_are_few.Goals as goal

pub returns : goal.returns
returns c = few_puts
