use Rattle.std.proofs.Common.{arith, refl, subst, ◌+◌, ◌*◌, ◌<◌, ℕ}
use Rattle.pair_nodes.specs.Probe.{pair_of_word}
use Rattle.pair_rule.specs.Paths.{root_buckets, reach}
use Rattle.pair_rule.specs.Rest.{view}
use Rattle.root_plain.specs.Probe.{Passes}
use Rattle.pair_rule.proofs.Calling.{called_then, some_more, buffers_then}
use Rattle.root_plain.specs.Plain.{plain}
use Rattle.root_plain.proofs.Probing.{passed_on, passes_from, bucket_is, bucket_within}
use Rattle.root_plain.proofs.put.walk_line.Goals as goal

pub loop-i-init : goal.loop-i-init
loop-i-init g c =
    let about = c.args.table.now.about in
    let pair = pair_of_word c.args.word in
    record {
      rest = c.requires.rest;
      passes = passes_from c.args.table.now c.args.pass.now pair (8 * c.args.walk.now.passed + c.args.from) c.requires.rest c.requires.passed;
      buffers = refl;
    }

pub visit-requires : goal.visit-requires
visit-requires g c =
    let about = c.args.table.now.about in
    let pair = pair_of_word c.args.word in
    let i = c.loop-i.invariant in
    let walk = c.args.walk.now in
    let along = c.requires.walk in
    let step : ℕ = 8 * walk.passed + c.loop-i.i in
    let near : step < reach (root_buckets about) = omega (arith, along.all, c.requires.line, c.loop-i-test.true) in (
      omega arith,
      (
        omega arith,
        (
          c.requires.store,
          (
            i.rest,
            (
              c.requires.word,
              (
                bucket_within about c.bucket.result walk.course pair along c.bucket.ensures.below,
                (
                  (step, near, bucket_is about g.row.W pair step c.bucket.result walk.course c.requires.store.width_is along c.bucket.ensures.bucket, i.passes.passed),
                  some_more plain about pair (view c.args.pass.now) (view c.loop-i.pass) i.passes.caught c.requires.stands,
                ),
              ),
            ),
          ),
        ),
      ),
    )

pub returns-in-Some-clause-outcome : goal.returns-in-Some-clause-outcome
returns-in-Some-clause-outcome g c =
    called_then plain c.in-Some.found.1 c.in-Some.found.0 (pair_of_word c.args.word) (view c.args.pass.now) (view c.loop-i.pass) (view c.visit.new.pass) c.loop-i.invariant.passes.caught c.in-Some.ensures.outcome

pub loop-i-preserved : goal.loop-i-preserved
loop-i-preserved g c =
    let t = c.args.table.now in
    let about = t.about in
    let pair = pair_of_word c.args.word in
    let i = c.loop-i.invariant in
    let e = c.in_default.ensures in
    let walk = c.args.walk.now in
    let step : ℕ = 8 * walk.passed + c.loop-i.i in
    let lies = bucket_is about g.row.W pair step c.bucket.result walk.course c.requires.store.width_is c.requires.walk c.bucket.ensures.bucket in
    let next = passed_on about pair step c.bucket.result (view c.args.pass.now) (view c.loop-i.pass) (view c.visit.new.pass) lies i.passes e.outcome.0 e.outcome.1 in
    record {
      rest = e.rest;
      passes = subst (λ (n : ℕ). Passes about pair n (view c.args.pass.now) (view c.visit.new.pass)) (omega arith) next;
      buffers = buffers_then c.args.pass.now c.loop-i.pass c.visit.new.pass i.buffers e.buffers;
    }
