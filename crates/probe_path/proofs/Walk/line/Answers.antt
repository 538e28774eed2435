use Rattle.std.proofs.Common.{arith}
use Rattle.probe_path.proofs.Buckets.{lines_of_8, few_lines, line_at-below}
use Rattle.probe_path.proofs.Walk.line.Goals as goal

pub returns-clause-lowest : goal.returns-clause-lowest
returns-clause-lowest g c =
    let course = c.self.inside.path in
    let kept = c.self.invariant in
    rw (← c.self.view_is) (omega (arith, kept.line_is, line_at-below g.row.W course.d course.pair c.self.inside.passed, few_lines course.d kept.course_fits.largest))

pub returns-clause-below : goal.returns-clause-below
returns-clause-below g c =
    let course = c.self.inside.path in
    let kept = c.self.invariant in
    rw (← c.self.view_is) (omega (arith, kept.line_is, line_at-below g.row.W course.d course.pair c.self.inside.passed, lines_of_8 course.d kept.course_fits.smallest, few_lines course.d kept.course_fits.largest))
