-- What callers see of the claims and of a drawer.
use Rattle.std.specs.Prelude.{◌≡◌, ◌≤◌, ◌^◌, ℕ, List, Bool, nat_lt}
use Rattle.atomic_table.specs.Seated.{TableId}
use Rattle.block_claims.specs.declared.share.Share.{Share}
use Rattle.block_claims.specs.declared.share.Totals.{Totals}
use Rattle.block_claims.specs.Shares.{new_share}

-- claims: their table, and how many blocks and drawers there are
pub record Pool : Type 0 where
  pub table : TableId
  pub totals : Totals

-- a drawer: the table of its claims, and its share
pub record Drawing : Type 0 where
  pub table : TableId
  pub share : Share

-- the blocks that it drew, in order
abbrev pub drawn : Drawing → List ℕ
drawn d = d.share.drawn

-- whether it was told that no block is left
abbrev pub has_ended : Drawing → Bool
has_ended d = nat_lt 0 d.share.ended

-- the drawer is one of these claims'
pub record BelongsTo (pool : Pool) (d : Drawing) : Type 0 where
  pub table_is : d.table ≡ pool.table
  pub totals_are : d.share.totals ≡ pool.totals

-- it is one of these, and has drawn nothing
pub record IsNew (pool : Pool) (d : Drawing) : Type 0 where
  pub belongs : BelongsTo pool d
  pub share_is : d.share ≡ new_share pool.totals

-- the claims' numbers are in their ranges
pub record IsPool (pool : Pool) : Type 0 where
  pub two_words : pool.table.words ≡ 2
  pub blocks : (1 ≤ pool.totals.blocks) × (pool.totals.blocks ≤ 2 ^ 32)
  pub drawers : (1 ≤ pool.totals.drawers) × (pool.totals.drawers ≤ 64)
