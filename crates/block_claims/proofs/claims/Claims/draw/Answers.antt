use Rattle.std.proofs.Common.{ap, sym, ◌∙◌, arith, ltb-false}
use Rattle.block_claims.specs.Drawers.{Drawing}
use Rattle.block_claims.proofs.Moves.{draws, two_of}
use Rattle.block_claims.proofs.claims.Claims.draw.Goals as goal

pub fetch_add-found-requires : goal.fetch_add-found-requires
fetch_add-found-requires c =
    let pool = c.args.self.now in
    let shared = c.shared-shared.result.now in
    let known = c.shared-shared.ensures in
    let seat = c.drawer.inside.seat in
    let is = c.drawer.view_is in (
      ap (λ (d : Drawing). d.table) is ∙ (c.requires.of.table_is ∙ sym known.table),
      omega (arith, two_of pool shared.table_id known.table known.pool),
      rw known.key (draws pool.totals shared.table_id.slots seat.id seat.me known.pool.blocks.1 known.pool.drawers.1
          (ap (λ (d : Drawing). d.share.totals) is ∙ c.requires.of.totals_are)
          (omega (arith, ltb-false 0 _ c.requires.not_ended, ap (λ (d : Drawing). d.share.ended) is, c.drawer.invariant.0))),
    )
