-- Room for what is told when all lines are answered.
use Rattle.std.specs.Prelude.{◌≡◌, ◌≤◌, ℕ, List, [], All, length, vec_capacity}
use Rattle.block_claims.specs.Drawers.{Pool, Drawing, IsNew}
use Rattle.work_run.specs.BlockLines.{block_count}
use Rattle.work_run.specs.declared.room.Room.{Room}

-- there is room for so many workers and lines, and a mark for each block
pub record IsRoomFor {T A : Type 0} (workers lines blocks : ℕ) (room : Room T A) : Type 0 where
  pub no_worker : room.rest.items ≡ []
  pub rest_room : workers ≤ vec_capacity room.rest
  pub no_drawer : room.drawers.items ≡ []
  pub drawers_room : workers ≤ vec_capacity room.drawers
  pub a_mark_each : length room.marks.items ≡ blocks
  pub none_told : room.drawn.items ≡ []
  pub drawn_room : lines ≤ vec_capacity room.drawn

-- all is ready for so many workers to draw the blocks of a trace: the claims, a drawer for each, and room
pub record IsPrepared {T A : Type 0} (workers lines block : ℕ) (pool : Pool) (drawers : List Drawing)
    (room : Room T A) : Type 0 where
  pub totals_are : pool.totals ≡ record { blocks = block_count lines block; drawers = workers }
  pub one_each : length drawers ≡ workers
  pub new : All (IsNew pool) drawers
  pub rooms : IsRoomFor workers lines (block_count lines block) room
