use Rattle.std.proofs.Common.{refl, sym, ap, ◌∙◌, ◌≡◌, ◌+◌, ◌<◌, subst, ℕ}
use Rattle.pair_rule.specs.Plays.{first_root}
use Rattle.region_root.proofs.Resting.{close_allowed, closed_rests}
use Rattle.region_root.proofs.steps.close_peek.Goals as goal

pub load-requires : goal.load-requires
load-requires g c =
    let e = c.shared-shared.ensures in
    let q = c.requires.reader in
    let here : first_root c.args.table.now.about + q.0.region ≡ c.lock_word-word.result = ap (λ (k : ℕ). first_root c.args.table.now.about + k) q.2 ∙ sym c.lock_word-word.ensures.place in (
      c.requires.rest.seat.table_is ∙ sym e.table,
      subst (λ t. c.lock_word-word.result < t.words) (sym e.table) c.lock_word-word.ensures.inside,
      close_allowed g.row.W g.row.F c.args.table.now c.args.pass.now c.requires.rest q.0 q.1 c.shared-shared.result.now.key.about _ c.lock_word-word.result e.key here,
    )

pub returns-clause-rest : goal.returns-clause-rest
returns-clause-rest g c =
    let q = c.requires.reader in
    closed_rests g.row.W g.row.F c.args.table.now c.args.pass.now c.requires.rest q.0 q.1 c.load.result _ c.shared-shared.ensures.store c.load.ensures.0 c.load.ensures.2.0 (c.load.ensures.2.1 q.0 q.1) refl
