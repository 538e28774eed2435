-- The seats behind the drawers.
use Rattle.std.specs.Prelude.{◌≡◌, []}
use Rattle.atomic_table.specs.declared.shared.Seat.{Seat}
use Rattle.block_claims.specs.declared.share.Share.{Share}
use Rattle.block_claims.specs.Drawers.{Pool}

-- the seat is one of these claims' table, and holds no slot
pub record IsSeatOf {S : Type 0} (pool : Pool) (seat : Seat S Share) : Type 0 where
  pub table_is : seat.table_id ≡ pool.table
  pub totals_are : seat.me.0.totals ≡ pool.totals
  pub no_slots : seat.me.1 ≡ []
