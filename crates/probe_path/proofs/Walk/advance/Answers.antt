use Rattle.std.proofs.Common.{arith}
use Rattle.probe_path.proofs.Buckets.{few_lines, line_at-below, step_below, next_line_is}
use Rattle.probe_path.proofs.Walk.advance.Goals as goal

pub overflow_add-self : goal.overflow_add-self
overflow_add-self g c =
    let kept = rw c.path.view_is at c.path.invariant in
    let course = c.self.inside.path in
    omega (
      arith,
      c.self.invariant.line_is,
      line_at-below g.row.W course.d course.pair c.self.inside.passed,
      few_lines course.d kept.course_fits.largest,
      step_below g.row.W course _ _ _ _ kept,
    )

pub invariant_of-self : goal.invariant_of-self
invariant_of-self g c =
    let kept = rw c.path.view_is at c.path.invariant in
    let more = rw (← c.self.view_is) at c.requires in
    record {
      course_fits = kept.course_fits;
      line_is = next_line_is g.row.W c.self.inside.path _ _ _ _ kept c.self.inside.passed c.self.inside.line c.self.invariant.line_is;
      within = omega (arith, more);
    }
