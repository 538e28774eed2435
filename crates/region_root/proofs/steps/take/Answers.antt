use Rattle.std.proofs.Common.{arith, refl, sym, ap, ◌∙◌, subst, ◌+◌, ◌<◌, ℕ, suc}
use Rattle.std.proofs.lemmas.Bool.{eqb-true, eqb-false}
use Rattle.pair_rule.specs.Rest.{view}
use Rattle.region_root.specs.Plays.{TakenRegion}
use Rattle.region_root.proofs.Working.{take_allowed, locked, same_seat, lock_here}
use Rattle.region_root.proofs.steps.take.Goals as goal

pub compare_exchange-requires : goal.compare_exchange-requires
compare_exchange-requires g c =
    let e = c.shared-shared.ensures in (
      c.requires.rest.seat.table_is ∙ sym e.table,
      subst (λ t. c.lock_word-word.result < t.words) (sym e.table) c.lock_word-word.ensures.inside,
      take_allowed g.row.W g.row.F c.args.table.now c.shared-shared.result.now.key.about c.args.pass.now _ c.args.region c.lock_word-word.result c.args.even _ c.requires.rest e.key (sym c.lock_word-word.ensures.place) c.requires.region (omega arith) c.requires.even.0,
    )

pub returns-clause-won : goal.returns-clause-won
returns-clause-won g c =
    let e = c.compare_exchange.ensures in
    λ yes.
    let t = e.2.1 (eqb-true c.compare_exchange.result c.args.even yes) in
    let taken = subst (λ (k : ℕ). TakenRegion k (c.args.even + 1) (view c.args.pass.now) c.compare_exchange.new.seat.me.0) (lock_here g.row.W g.row.F c.args.table.now c.args.pass.now c.args.region c.lock_word-word.result c.requires.rest c.lock_word-word.ensures.place) t in
    locked g.row.W g.row.F c.args.table.now c.args.pass.now _ c.args.region (suc c.args.even) c.requires.rest e.0 e.2.0 refl c.requires.region (c.requires.even.0.0, ap suc c.requires.even.0.1)
    (subst (λ (k : ℕ). TakenRegion c.args.region k (view c.args.pass.now) c.compare_exchange.new.seat.me.0) (omega arith) taken)

pub returns-clause-lost : goal.returns-clause-lost
returns-clause-lost g c =
    let e = c.compare_exchange.ensures in
    λ no.
    let same = e.2.2 (eqb-false c.compare_exchange.result c.args.even no) in
    ap (λ s. record c.args.pass.now { seat = s }) (same_seat c.args.pass.now.seat c.compare_exchange.new.seat e.0 e.1 (λ i. (same i, e.2.0 i)))
