use Rattle.std.proofs.Common.{arith, ◌≡◌, ◌+◌, ◌*◌, subst, ap, ℕ}
use Rattle.pair_rule.specs.Rest.{view}
use Rattle.pair_nodes.specs.Probe.{pair_of_word, Underway}
use Rattle.pair_nodes.proofs.Views.{underway_then, ended_then, probed_begun}
use Rattle.pair_nodes.proofs.Lines.{told_as, line_inside, line_bucket, line_near, begin_found}
use Rattle.pair_nodes.proofs.probe.look_first.Goals as goal

pub begin-found-requires : goal.begin-found-requires
begin-found-requires g c = (omega arith, (c.requires.rest, line_inside c.args.table.now.about c.args.word c.bucket-at.result c.args.walk.now.course c.requires.walk.0 c.bucket-at.ensures.below))

pub settle-requires : goal.settle-requires
settle-requires g c =
    let about = c.args.table.now.about in
    let r = c.requires in
    let e = c.begin-found.ensures in
    let v = view c.args.pass.now in
    let w = c.begin-found.new.pass.seat.me.0 in
    let zero : 8 * c.args.walk.now.passed + 0 ≡ 0 = omega (arith, r.walk.1) in
    let near = line_near about c.args.word c.args.walk.now.passed 0 c.args.walk.now.course r.walk.0 (omega (arith, r.walk.1, r.walk.2)) (omega arith) in
    let lies = line_bucket about g.row.W c.args.word _ c.bucket-at.result c.args.walk.now.course c.requires.width r.walk.0 c.bucket-at.ensures.bucket in (
      omega arith,
      (
        e.rest,
        (
          r.word,
          (
            line_inside about c.args.word c.bucket-at.result c.args.walk.now.course r.walk.0 c.bucket-at.ensures.below,
            (
              (8 * c.args.walk.now.passed + 0, near, lies, λ step lt. absurd (omega (arith, lt, zero))),
              ((e.word, (λ used. begin_found about v w c.bucket-at.result c.begin-found.result e.view e.word used)), ap (λ u. u.probing) e.view),
            ),
          ),
        ),
      ),
    )

pub returns-clause-ends : goal.returns-clause-ends
returns-clause-ends g c =
    let about = c.args.table.now.about in
    let pair = pair_of_word c.args.word in
    let r = c.requires in
    let e = c.begin-found.ensures in
    let v = view c.args.pass.now in
    let w = c.begin-found.new.pass.seat.me.0 in
    let z = c.settle.new.pass.seat.me.0 in
    let probed = probed_begun about c.bucket-at.result c.begin-found.result v w e.word e.view in
    let zero : 8 * c.args.walk.now.passed + 0 ≡ 0 = omega (arith, r.walk.1) in
    let lies = line_bucket about g.row.W c.args.word _ c.bucket-at.result c.args.walk.now.course c.requires.width r.walk.0 c.bucket-at.ensures.bucket in
    told_as c.settle.result _ _ _ _
    (λ told. let on = told _ lies (λ step lt. absurd (omega (arith, lt, zero))) in
    let one : (8 * c.args.walk.now.passed + 0) + 1 ≡ 1 = omega (arith, zero) in
    underway_then pair 1 1 0 v w z probed (subst (λ (n : ℕ). Underway pair n 0 w z) one on))
    (λ index told. ended_then pair index 1 0 v w z probed told)
    c.settle.ensures.ends
