use Rattle.std.proofs.Common.{arith, refl, sym, ap, ◌∙◌, subst, ◌≡◌, ◌+◌, ◌<◌, ℕ, get_or}
use Rattle.pair_rule.specs.Rest.{view}
use Rattle.region_root.specs.Plays.{place_in}
use Rattle.region_root.specs.declared.root.Holding.{Holding}
use Rattle.region_root.proofs.Catching.{head_of}
use Rattle.region_root.proofs.Tables.{place_inside, words_small}
use Rattle.region_root.proofs.Working.{load_allowed, place_here, same_seat}
use Rattle.region_root.proofs.steps.load_held.Goals as goal

pub overflow_add-from : goal.overflow_add-from
overflow_add-from g c =
    let w = c.requires.work in
    let low = place_inside g.row.W g.row.F c.args.table.now c.shared-shared.ensures.store w.0.region c.args.from c.args.place w.1.region w.2 c.requires.inside in
    let small = words_small g.row.W g.row.F c.args.table.now c.shared-shared.ensures.store in
    omega (arith, low, small)

pub load-requires : goal.load-requires
load-requires g c =
    let e = c.shared-shared.ensures in
    let w = c.requires.work in (
      w.1.rest.seat.table_is ∙ sym e.table,
      subst (λ t. c.args.from + c.args.place < t.words) (sym e.table) (place_inside g.row.W g.row.F c.args.table.now e.store w.0.region c.args.from c.args.place w.1.region w.2 c.requires.inside),
      load_allowed g.row.W g.row.F c.args.table.now w.0 c.args.pass.now w.1 c.shared-shared.result.now.key.about _ c.args.from c.args.place _ e.key w.2 refl c.requires.inside,
    )

pub returns-clause-word : goal.returns-clause-word
returns-clause-word g c =
    let w = c.requires.work in
    λ h held.
    let one = head_of w.0 h (view c.args.pass.now).root.held w.1.held held in
    let here = subst (λ (u : Holding). place_in (view c.args.pass.now).about (c.args.from + c.args.place) u.region ≡ c.args.place) one (place_here g.row.W g.row.F c.args.table.now w.0 c.args.pass.now w.1 c.args.from c.args.place _ w.2 refl) in
    c.load.ensures.2.1 h held ∙ ap (λ (k : ℕ). get_or h.copy k 0) here

pub returns-clause-same : goal.returns-clause-same
returns-clause-same g c = ap (λ s. record c.args.pass.now { seat = s }) (same_seat c.args.pass.now.seat c.load.new.seat c.load.ensures.0 c.load.ensures.1 c.load.ensures.2.0)
