use Rattle.std.proofs.Common.{arith}
use Rattle.probe_path.proofs.Buckets.{lines_of_8, few_lines}
use Rattle.probe_path.proofs.Path.len.Goals as goal

pub returns-clause-within : goal.returns-clause-within
returns-clause-within g c =
    let fits = c.self.invariant.course_fits in
    rw (← c.self.view_is) (omega (arith, lines_of_8 c.self.inside.d fits.smallest, few_lines c.self.inside.d fits.largest))
