use Rattle.work_run.proofs.EnoughRoots.{compact_roots_suffice}
use Rattle.work_run.proofs.enough.compact_roots_suffice.Goals as goal

pub returns : goal.returns
returns g c = compact_roots_suffice g.row.W g.row.F
