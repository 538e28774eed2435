use Rattle.std.proofs.Common.{arith, refl, sym, ap, ◌∙◌, subst, ◌≡◌, ◌+◌, ◌<◌, ℕ, set, length-set}
use Rattle.pair_rule.specs.Rest.{view}
use Rattle.region_root.specs.Plays.{place_in, recopied}
use Rattle.region_root.specs.declared.root.Holding.{Holding}
use Rattle.region_root.proofs.Catching.{head_of}
use Rattle.region_root.proofs.Tables.{place_inside, words_small}
use Rattle.region_root.proofs.Working.{store_allowed, place_here, recopied_work}
use Rattle.region_root.proofs.steps.store_held.Goals as goal

pub overflow_add-from : goal.overflow_add-from
overflow_add-from g c =
    let w = c.requires.work in
    let low = place_inside g.row.W g.row.F c.args.table.now c.shared-shared.ensures.store w.0.region c.args.from c.args.place w.1.region w.2 c.requires.inside in
    let small = words_small g.row.W g.row.F c.args.table.now c.shared-shared.ensures.store in
    omega (arith, low, small)

pub store-requires : goal.store-requires
store-requires g c =
    let e = c.shared-shared.ensures in
    let w = c.requires.work in (
      w.1.rest.seat.table_is ∙ sym e.table,
      subst (λ t. c.args.from + c.args.place < t.words) (sym e.table) (place_inside g.row.W g.row.F c.args.table.now e.store w.0.region c.args.from c.args.place w.1.region w.2 c.requires.inside),
      store_allowed g.row.W g.row.F c.args.table.now w.0 c.args.pass.now w.1 c.shared-shared.result.now.key.about _ c.args.from c.args.place _ c.args.value e.key w.2 refl c.requires.inside,
    )

pub returns-clause-view : goal.returns-clause-view
returns-clause-view g c =
    let w = c.requires.work in
    λ h held.
    let one = head_of w.0 h (view c.args.pass.now).root.held w.1.held held in
    let here = subst (λ (u : Holding). place_in (view c.args.pass.now).about (c.args.from + c.args.place) u.region ≡ c.args.place) one (place_here g.row.W g.row.F c.args.table.now w.0 c.args.pass.now w.1 c.args.from c.args.place _ w.2 refl) in
    c.store.ensures.2.1 h held ∙ ap (λ (k : ℕ). recopied (set h.copy k c.args.value) h (view c.args.pass.now)) here

pub returns-clause-work : goal.returns-clause-work
returns-clause-work g c = λ h work.
    recopied_work g.row.W g.row.F c.args.table.now h c.args.pass.now work _ (set h.copy c.args.place c.args.value) (length-set h.copy c.args.place c.args.value) c.store.ensures.0 c.store.ensures.2.0 (returns-clause-view g c h work.held) refl
