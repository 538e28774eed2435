use Rattle.std.proofs.Common.{arith, ◌≡◌, ◌+◌, ◌*◌, subst, ℕ}
use Rattle.pair_rule.specs.Rest.{view}
use Rattle.pair_nodes.specs.Probe.{pair_of_word, Underway}
use Rattle.pair_nodes.proofs.Views.{underway_then, ended_then}
use Rattle.pair_nodes.proofs.Lines.{told_as}
use Rattle.pair_nodes.proofs.probe.look_along_first.Goals as goal

pub returns-clause-ends : goal.returns-clause-ends
returns-clause-ends g c =
    let pair = pair_of_word c.args.word in
    let v = view c.args.pass.now in
    let w = c.look_first.new.pass.seat.me.0 in
    let z = c.look_along.new.pass.seat.me.0 in
    let probed = c.in_default.ensures.ends.probed in
    let eight : 8 * c.args.walk.now.passed + 8 ≡ 8 = omega (arith, c.requires.walk.1) in
    told_as c.look_along.result _ _ _ _
    (λ told. underway_then pair 8 1 0 v w z probed (subst (λ (n : ℕ). Underway pair n 0 w z) eight told))
    (λ index told. ended_then pair index 1 0 v w z probed told)
    c.look_along.ensures.ends
