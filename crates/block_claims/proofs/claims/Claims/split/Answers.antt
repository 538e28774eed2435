use Rattle.std.proofs.Common.{arith, ◌∙◌, sym}
use Rattle.block_claims.proofs.Moves.{splits, two_of}
use Rattle.block_claims.proofs.claims.Claims.split.Goals as goal

pub split_seat-requires : goal.split_seat-requires
split_seat-requires c =
    let shared = c.shared-shared.result.now in
    let known = c.shared-shared.ensures in
    let seat = c.args.seat.now in (
      c.requires.seat.table_is ∙ sym known.table,
      omega (arith, two_of c.args.self.now shared.table_id known.table known.pool),
      splits shared.key seat.id seat.me.0 c.requires.two c.requires.none_ended,
    )
