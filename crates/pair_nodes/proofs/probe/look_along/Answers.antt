use Rattle.std.proofs.Common.{arith, ◌≡◌, ◌+◌, ◌*◌, subst, ap, ◌∙◌, ℕ}
use Rattle.pair_rule.specs.Rest.{view}
use Rattle.pair_nodes.specs.Probe.{pair_of_word, Underway}
use Rattle.pair_nodes.proofs.Views.{underway_then, ended_then, probed_learned, keeps_trans, keeps_seat}
use Rattle.pair_nodes.proofs.Lines.{line_inside, line_bucket, line_near, load_found, load_passed}
use Rattle.pair_nodes.proofs.probe.look_along.Goals as goal

pub look-found-requires : goal.look-found-requires
look-found-requires g c = (omega arith, (c.loop-i.invariant.rest, line_inside c.args.table.now.about c.args.word c.bucket-at.result c.args.walk.now.course c.requires.walk.0 c.bucket-at.ensures.below))

pub settle-requires : goal.settle-requires
settle-requires g c =
    let about = c.args.table.now.about in
    let r = c.requires in
    let i = c.loop-i.invariant in
    let e = c.look-found.ensures in
    let v = c.loop-i.pass.seat.me.0 in
    let w = c.look-found.new.pass.seat.me.0 in
    let step = 8 * c.args.walk.now.passed + c.loop-i.i in (
      omega arith,
      (
        e.rest,
        (
          r.word,
          (
            line_inside about c.args.word c.bucket-at.result c.args.walk.now.course r.walk.0 c.bucket-at.ensures.below,
            (
              (
                step,
                line_near about c.args.word c.args.walk.now.passed c.loop-i.i c.args.walk.now.course r.walk.0 r.walk.1 (omega arith),
                line_bucket about g.row.W c.args.word step c.bucket-at.result c.args.walk.now.course c.requires.width r.walk.0 c.bucket-at.ensures.bucket,
                load_passed about v w c.bucket-at.result c.look-found.result (pair_of_word c.args.word) step e.view e.word i.so_far.passed,
              ),
              (
                (e.word, (λ used. load_found about v w c.bucket-at.result c.look-found.result e.view e.word used)),
                ap (λ u. u.probing) e.view ∙ i.so_far.probing,
              ),
            ),
          ),
        ),
      ),
    )

pub returns-in-Some-clause-ends : goal.returns-in-Some-clause-ends
returns-in-Some-clause-ends g c =
    let about = c.args.table.now.about in
    let pair = pair_of_word c.args.word in
    let i = c.loop-i.invariant in
    let e = c.look-found.ensures in
    let u = view c.args.pass.now in
    let v = c.loop-i.pass.seat.me.0 in
    let w = c.look-found.new.pass.seat.me.0 in
    let z = c.settle.new.pass.seat.me.0 in
    ended_then pair c.in-Some.index 0 0 u v z i.so_far.probed (ended_then pair c.in-Some.index 0 0 v w z (probed_learned about c.bucket-at.result c.look-found.result v w e.word e.view) c.in-Some.ensures.ends)

pub loop-i-preserved : goal.loop-i-preserved
loop-i-preserved g c =
    let about = c.args.table.now.about in
    let pair = pair_of_word c.args.word in
    let r = c.requires in
    let i = c.loop-i.invariant in
    let e = c.look-found.ensures in
    let f = c.in_default.ensures in
    let u = view c.args.pass.now in
    let v = c.loop-i.pass.seat.me.0 in
    let w = c.look-found.new.pass.seat.me.0 in
    let z = c.settle.new.pass.seat.me.0 in
    let step = 8 * c.args.walk.now.passed + c.loop-i.i in
    let lies = line_bucket about g.row.W c.args.word step c.bucket-at.result c.args.walk.now.course c.requires.width r.walk.0 c.bucket-at.ensures.bucket in
    let passed = load_passed about v w c.bucket-at.result c.look-found.result pair step e.view e.word i.so_far.passed in
    let on : Underway pair (step + 1) 0 v z = underway_then pair (step + 1) 0 0 v w z (probed_learned about c.bucket-at.result c.look-found.result v w e.word e.view) (f.ends step lies passed) in
    let next : step + 1 ≡ 8 * c.args.walk.now.passed + (c.loop-i.i + 1) = omega arith in
    record {
      rest = f.rest;
      tree = keeps_trans c.args.pass.now c.loop-i.pass c.settle.new.pass i.tree (keeps_trans c.loop-i.pass c.look-found.new.pass c.settle.new.pass (keeps_seat c.loop-i.pass c.look-found.new.pass e.tree) f.tree);
      so_far = subst (λ (n : ℕ). Underway pair n 0 u z) next (underway_then pair (step + 1) 0 0 u v z i.so_far.probed on);
    }
