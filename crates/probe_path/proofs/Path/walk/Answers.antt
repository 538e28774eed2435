use Rattle.std.proofs.Common.{arith}
use Rattle.probe_path.proofs.Buckets.{first_line_is_at}
use Rattle.probe_path.proofs.Path.walk.Goals as goal

pub invariant_of-result-2 : goal.invariant_of-result-2
invariant_of-result-2 g c =
    let kept = c.self.invariant in
    record {
      course_fits = kept.course_fits;
      line_is = first_line_is_at g.row.W _ _ _ _ _ kept;
      within = omega arith;
    }
