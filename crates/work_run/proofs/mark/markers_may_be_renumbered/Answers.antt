use Rattle.work_run.proofs.MarkLaws.{markers-renumbered}
use Rattle.work_run.proofs.mark.markers_may_be_renumbered.Goals as goal

pub returns : goal.returns
returns c = markers-renumbered
