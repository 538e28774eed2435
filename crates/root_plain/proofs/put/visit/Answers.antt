use Rattle.std.proofs.Common.{subst, sym, refl, ◌∙◌, arith}
use Rattle.pair_rule.specs.Rest.{view}
use Rattle.pair_rule.specs.declared.sizes.About.{About}
use Rattle.pair_rule.proofs.Widths.{layout_of}
use Rattle.pair_nodes.specs.Probe.{pair_of_word}
use Rattle.root_plain.specs.Plain.{IsRoot}
use Rattle.root_plain.proofs.Probing.{flagless, shows_other, shows_pair}
use Rattle.root_plain.proofs.put.visit.Goals as goal

pub without_flags-requires : goal.without_flags-requires
without_flags-requires g c = layout_of _ c.args.table.now refl c.requires.store

pub returns-then-without_flags-word-clause-outcome : goal.returns-then-without_flags-word-clause-outcome
returns-then-without_flags-word-clause-outcome g c =
    let about = c.args.table.now.about in
    let n = c.in-Some.found in
    let e = c.in-Some.ensures in
    let is = c.requires.store in
    shows_pair (pair_of_word c.args.word) c.args.at n (view c.args.pass.now) (view c.settle.new.pass) e.found e.used
    (λ x h.
    let r = flagless about g.row.W n is.is_about is.width_is x c.without_flags.result (subst (λ (y : About). IsRoot y n x) c.requires.rest.seat.about_is h) c.without_flags.ensures in
    omega (arith, r, c.if-without_flags-word.true))

pub returns-else-without_flags-word-clause-outcome : goal.returns-else-without_flags-word-clause-outcome
returns-else-without_flags-word-clause-outcome g c =
    let about = c.args.table.now.about in
    let pair = pair_of_word c.args.word in
    let n = c.in-Some.found in
    let e = c.in-Some.ensures in
    let is = c.requires.store in
    shows_other pair c.args.at n (view c.args.pass.now) (view c.settle.new.pass) e.found e.used
    (λ h.
    let r = flagless about g.row.W n is.is_about is.width_is pair c.without_flags.result (subst (λ (y : About). IsRoot y n pair) c.requires.rest.seat.about_is h) c.without_flags.ensures in
    absurd (c.if-without_flags-word.false (r ∙ sym c.requires.word.whole)))
