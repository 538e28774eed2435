use Rattle.std.proofs.Common.{arith, refl, [], Bool, Option, Some, None, MatchOption, subst, sym, ◌≡◌, ◌-◌, ◌*◌, ◌^◌, ◌<◌, ◌≤◌, ℕ}
use Rattle.pair_rule.specs.declared.sizes.Sizes.{Sizes}
use Rattle.pair_rule.proofs.Widths.{layout_of}
use Rattle.pair_nodes.specs.Probe.{pair_of_word}
use Rattle.pair_rule.specs.declared.view.View.{View}
use Rattle.pair_rule.specs.declared.sizes.About.{About}
use Rattle.pair_rule.specs.Calls.{Called}
use Rattle.pair_rule.specs.Plays.{Caught}
use Rattle.pair_rule.specs.Paths.{root_buckets, reach}
use Rattle.pair_rule.specs.Rest.{view}
use Rattle.pair_rule.proofs.Calling.{called_then, some_more}
use Rattle.root_plain.specs.Plain.{plain}
use Rattle.root_plain.specs.declared.root.Roots.{Roots}
use Rattle.root_plain.specs.Probe.{Passes}
use Rattle.root_plain.proofs.Probing.{passes_none, passed_on, passes_caught, first_of, bucket_within}
use Rattle.root_plain.proofs.put.walk_path.Goals as goal

pub new-path-requires : goal.new-path-requires
new-path-requires g c =
    let is = c.requires.store in
    let layout = layout_of _ c.args.table.now refl is in
    let below = part_of_width c.args.word c.requires.word.is_pair is.width_is in
    let sizes = sym c.sizes-sizes.ensures.sizes in
    let roots = subst (λ (s : Sizes). (3 ≤ s.roots) × (s.roots ≤ 25)) sizes (is.is_about.range.roots.0, omega (arith, is.is_about.range.roots.1)) in
    let probe = subst (λ (s : Sizes). 1 ≤ s.probe) sizes is.is_about.range.least_probe in
    (omega arith, ((layout.0, layout.1), (below, (roots, probe))))
  where
    part_of_width : {a b : ℕ} (word : ℕ) → word - 9223372036854775808 < 2 ^ (2 * a) → a ≡ b → word - 9223372036854775808 < 2 ^ (2 * b)
    part_of_width word below same = subst (λ (w : ℕ). word - 9223372036854775808 < 2 ^ (2 * w)) same below

pub visit-requires : goal.visit-requires
visit-requires g c =
    let about = c.args.table.now.about in
    let pair = pair_of_word c.args.word in
    let f = first_of about g.row.W pair c.sizes-sizes.result.now c.new-path.result c.walk-walk.result c.bucket.result c.requires.store.width_is c.sizes-sizes.ensures.sizes c.requires.store.is_about.range.least_probe c.new-path.ensures.course
    c.walk-walk.ensures c.bucket.ensures.bucket in
    (omega arith, (omega arith, (c.requires.store, (c.requires.rest, (c.requires.word, (bucket_within about c.bucket.result c.walk-walk.result.course pair f.along c.bucket.ensures.below, ((0, f.near, f.lies, λ k lt. absurd (omega arith)), c.requires.stands)))))))

pub walk_on-requires : goal.walk_on-requires
walk_on-requires g c =
    let t = c.args.table.now in
    let about = t.about in
    let pair = pair_of_word c.args.word in
    let f = first_of about g.row.W pair c.sizes-sizes.result.now c.new-path.result c.walk-walk.result c.bucket.result c.requires.store.width_is c.sizes-sizes.ensures.sizes c.requires.store.is_about.range.least_probe c.new-path.ensures.course
    c.walk-walk.ensures c.bucket.ensures.bucket in
    let u = view c.args.pass.now in
    let v = view c.visit.new.pass in
    let e = c.in_default.ensures in
    let one = passed_on about pair 0 c.bucket.result u u v f.lies (passes_none t c.args.pass.now pair c.requires.rest) e.outcome.0 e.outcome.1 in
    (omega arith, (omega arith, (omega arith, (c.requires.store, (e.rest, (c.requires.word, (f.whole, (f.some_line, (one.passed, some_more plain about pair u v e.outcome.0 c.requires.stands)))))))))

pub returns-clause-outcome : goal.returns-clause-outcome
returns-clause-outcome g c =
    let about = c.args.table.now.about in
    let pair = pair_of_word c.args.word in
    by about pair (view c.args.pass.now) (view c.visit.new.pass) (view c.walk_on.new.pass) c.in_default.ensures.outcome.0 c.walk_on.result c.walk_on.ensures.outcome
  where
    by : (about : About) (pair : ℕ) (u v w : View Roots) → Caught plain [] u v → (o : Option (ℕ × Bool)) → MatchOption o (Passes about pair (reach (root_buckets about)) v w) (λ a. Called plain a.1 a.0 pair v w)
        → MatchOption o (Passes about pair (reach (root_buckets about)) u w) (λ a. Called plain a.1 a.0 pair u w)
    by about pair u v w k None e = passes_caught about pair (reach (root_buckets about)) u v w k e
    by about pair u v w k (Some a) e = called_then plain a.1 a.0 pair u v w k e
