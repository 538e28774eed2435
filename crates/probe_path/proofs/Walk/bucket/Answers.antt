use Rattle.std.proofs.Common.{◌≡◌, ◌<◌, ◌+◌, ◌*◌, ◌%◌, ◌^◌, ℕ, sym, ap, subst, ◌∙◌}
use Rattle.probe_path.specs.Path.{Progress, line_at}
use Rattle.probe_path.proofs.Buckets.{bucket_at-line, bucket_at-below}
use Rattle.probe_path.proofs.Walk.bucket.Goals as goal

pub returns-clause-bucket : goal.returns-clause-bucket
returns-clause-bucket g c =
    let here : c.self.inside.path ≡ c.args.self.now.course = ap (λ (p : Progress). p.course) c.self.view_is in
    let kept = rw here at (rw c.path.view_is at c.path.invariant) in
    let course = c.args.self.now.course in
    let j = c.args.self.now.passed in
    ap (λ n. n + c.place_in_line.result) c.line.ensures.lowest
    ∙ ap (λ n. 8 * line_at g.row.W course.d course.pair j + n) (c.place_in_line.ensures ∙ ap (λ n. (n + c.args.i) % 8) kept.offset_is)
    ∙ bucket_at-line g.row.W course.d course.pair kept.course_fits.smallest j c.args.i c.requires

pub returns-clause-below : goal.returns-clause-below
returns-clause-below g c =
    let course = c.args.self.now.course in
    let here : c.self.inside.path ≡ course = ap (λ (p : Progress). p.course) c.self.view_is in
    let kept = rw here at (rw c.path.view_is at c.path.invariant) in
    subst (λ (n : ℕ). n < 2 ^ course.d) (sym (returns-clause-bucket g c))
    (bucket_at-below g.row.W course.d course.pair kept.course_fits.smallest (8 * c.args.self.now.passed + c.args.i))
