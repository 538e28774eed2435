use Rattle.work_run.proofs.EnoughRoots.{plain_roots_suffice}
use Rattle.work_run.proofs.enough.plain_roots_suffice.Goals as goal

pub returns : goal.returns
returns c = plain_roots_suffice
