use Rattle.work_run.proofs.MarkLaws.{marks-are-counted}
use Rattle.work_run.proofs.mark.marks_are_counted.Goals as goal

pub returns : goal.returns
returns c = marks-are-counted
