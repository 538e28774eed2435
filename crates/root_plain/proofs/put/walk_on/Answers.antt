use Rattle.std.proofs.Common.{arith, refl, subst, sym, ap, ◌∙◌, ◌≡◌, ◌+◌, ◌*◌, ◌<◌, ℕ}
use Rattle.pair_nodes.specs.Probe.{pair_of_word}
use Rattle.probe_path.specs.Path.{Course, Progress}
use Rattle.pair_rule.specs.Paths.{root_buckets, Passed, Listed}
use Rattle.pair_rule.specs.Rest.{view}
use Rattle.root_plain.specs.Probe.{Along, Passes}
use Rattle.pair_rule.proofs.Calling.{called_then, some_more, buffers_then}
use Rattle.root_plain.specs.Plain.{plain}
use Rattle.root_plain.proofs.Probing.{passes_from, passes_then}
use Rattle.root_plain.proofs.put.walk_on.Goals as goal

pub loop-line-init : goal.loop-line-init
loop-line-init g c =
    let pair = pair_of_word c.args.word in
    let walk : c.walk-walk.result ≡ record { course = c.args.path.now; passed = 0 } = c.walk-walk.ensures in
    record {
      rest = c.requires.rest;
      along = subst (λ (p : Course). Along c.args.table.now.about pair p) (sym (ap (λ (w : Progress). w.course) walk)) c.requires.path;
      line = ap (λ (w : Progress). w.passed) walk;
      end = let len = c.len-line-end.ensures.steps in let same = ap (λ (w : Progress). w.course.lines) walk in omega (arith, len, same);
      from = (omega arith, λ used. absurd (used refl));
      passes = passes_from c.args.table.now c.args.pass.now pair 1 c.requires.rest c.requires.passed;
      buffers = refl;
    }

pub walk_line-requires : goal.walk_line-requires
walk_line-requires g c =
    let about = c.args.table.now.about in
    let pair = pair_of_word c.args.word in
    let i = c.loop-line.invariant in
    let lt : c.loop-line.walk.passed < c.loop-line.walk.course.lines = omega (arith, i.line, i.end, c.loop-line-test.true) in (
      omega arith,
      (
        omega arith,
        (
          omega arith,
          (
            c.requires.store,
            (
              i.rest,
              (
                c.requires.word,
                (
                  i.along,
                  (
                    lt,
                    (
                      i.from.0,
                      (
                        subst (λ (n : ℕ). Passed (root_buckets about) (Listed (view c.loop-line.pass).root.roots) pair (8 * n + c.loop-line.from)) (sym i.line) i.passes.passed,
                        some_more plain about pair (view c.args.pass.now) (view c.loop-line.pass) i.passes.caught c.requires.stands,
                      ),
                    ),
                  ),
                ),
              ),
            ),
          ),
        ),
      ),
    )

pub returns-in-Some-clause-outcome : goal.returns-in-Some-clause-outcome
returns-in-Some-clause-outcome g c =
    called_then plain c.in-Some.found.1 c.in-Some.found.0 (pair_of_word c.args.word) (view c.args.pass.now) (view c.loop-line.pass) (view c.walk_line.new.pass) c.loop-line.invariant.passes.caught c.in-Some.ensures.outcome

pub returns-clause-outcome : goal.returns-clause-outcome
returns-clause-outcome g c =
    let i = c.loop-line.invariant in
    let all = i.along.all in
    let lines = c.requires.lines in
    let end = i.end in
    let line = i.line in
    let none = i.from.1 (omega (arith, c.loop-line-test.false)) in
    subst (λ (n : ℕ). Passes c.args.table.now.about (pair_of_word c.args.word) n (view c.args.pass.now) (view c.loop-line.pass)) (omega (arith, all, end, line, none)) i.passes

pub loop-line-preserved : goal.loop-line-preserved
loop-line-preserved g c =
    let about = c.args.table.now.about in
    let pair = pair_of_word c.args.word in
    let i = c.loop-line.invariant in
    let e = c.in_default.ensures in
    let next = passes_then about pair (8 * c.loop-line.line + c.loop-line.from) (8 * c.loop-line.walk.passed + 8) (view c.args.pass.now) (view c.loop-line.pass) (view c.walk_line.new.pass) i.passes e.outcome in
    let walk : c.advance.new.self ≡ record c.loop-line.walk { passed = c.loop-line.walk.passed + 1 } = c.advance.ensures in
    record {
      rest = e.rest;
      along = subst (λ (p : Course). Along about pair p) (sym (ap (λ (w : Progress). w.course) walk)) i.along;
      line = ap (λ (w : Progress). w.passed) walk ∙ ap (λ (n : ℕ). n + 1) i.line;
      end = i.end ∙ sym (ap (λ (w : Progress). w.course.lines) walk);
      from = (omega arith, λ used. refl);
      passes = subst (λ (n : ℕ). Passes about pair n (view c.args.pass.now) (view c.walk_line.new.pass)) (omega (arith, i.line)) next;
      buffers = buffers_then c.args.pass.now c.loop-line.pass c.walk_line.new.pass i.buffers e.buffers;
    }
