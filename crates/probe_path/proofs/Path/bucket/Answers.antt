use Rattle.std.proofs.Common.{◌≡◌, ◌<◌, ◌+◌, ◌*◌, ◌/◌, ◌%◌, ◌^◌, ℕ, sym, ap, subst, ◌∙◌, arith, bit_and}
use Rattle.std.proofs.lemmas.Nat.{and_mask}
use Rattle.probe_path.specs.Path.{bucket_at}
use Rattle.probe_path.proofs.Buckets.{first_line_below, steps_below, line_is, bucket_is, bucket_at-below}
use Rattle.probe_path.proofs.Path.bucket.Goals as goal

pub overflow_mul-line : goal.overflow_mul-line
overflow_mul-line g c =
    let kept = rw c.self.view_is at c.self.invariant in
    omega (arith, steps_below g.row.W c.args.self.now _ _ _ _ kept (c.args.i / 8) (omega arith))

pub overflow_add-line : goal.overflow_add-line
overflow_add-line g c =
    let kept = rw c.self.view_is at c.self.invariant in
    omega (arith, steps_below g.row.W c.args.self.now _ _ _ _ kept (c.args.i / 8) (omega arith), first_line_below g.row.W c.args.self.now _ _ _ _ kept)

placed : (i offset place : ℕ) → place ≡ (offset + bit_and i 7) % 8 → place ≡ (offset + i % 8) % 8
placed i offset place e = e ∙ ap (λ n. (offset + n) % 8) (and_mask i 3)

pub returns-clause-bucket : goal.returns-clause-bucket
returns-clause-bucket g c =
    let kept = rw c.self.view_is at c.self.invariant in
    let i : ℕ = c.args.i in
    let whole : 8 * (i / 8) + i % 8 ≡ i = omega arith in
    bucket_is g.row.W c.args.self.now _ _ _ _ kept (i / 8) (i % 8) _ c.place_in_line.result (omega arith)
    (line_is g.row.W c.args.self.now _ _ _ _ kept (i / 8)) (placed i c.self.inside.offset c.place_in_line.result c.place_in_line.ensures)
    ∙ ap (λ n. bucket_at g.row.W c.args.self.now.d c.args.self.now.pair n) whole

pub returns-clause-below : goal.returns-clause-below
returns-clause-below g c =
    let kept = rw c.self.view_is at c.self.invariant in
    subst (λ (n : ℕ). n < 2 ^ c.args.self.now.d) (sym (returns-clause-bucket g c)) (bucket_at-below g.row.W c.args.self.now.d c.args.self.now.pair kept.course_fits.smallest c.args.i)
