use Rattle.std.proofs.Common.{◌≡◌, ◌+◌, All, [], vec_len}
use Rattle.block_claims.specs.Drawers.{IsNew}
use Rattle.block_claims.specs.Seats.{IsSeatOf}
use Rattle.block_claims.proofs.claims.Claims.seat_all.Given as goal

abbrev pub invariant-loop-number : goal.invariant-loop-number
invariant-loop-number l = record {
  seat : IsSeatOf l.self l.seat;
  count : vec_len l.list + 1 ≡ l._number;
  new : All (IsNew l.self) l.list.items;
  left : l.seat.me.0.drawers + l._number ≡ l.drawers + 1;
  none_drawn : l.seat.me.0.drawn ≡ [];
  none_ended : l.seat.me.0.ended ≡ 0;
}
