-- The lines of the blocks that a worker draws.
use Rattle.std.specs.Prelude.{◌≡◌, ◌+◌, ◌-◌, ◌*◌, ◌/◌, ◌<◌, ◌≤◌, ◌^◌, ℕ, List, [], ◌++◌, All, min, true, flat_map}
use Rattle.std.specs.List.{range_with_len}
use Rattle.std.proofs.Common.{append_assoc, append-nil, refl, sym, ap, ◌∙◌}
use Rattle.block_claims.specs.Drawers.{Pool, Drawing, BelongsTo, drawn, has_ended}
use Rattle.block_claims.specs.Numbers.{IsRising}
use Rattle.work_run.specs.Giving.{Giving, AddsUp}

-- the lines of one block of a trace: `block` of them, or as many as are left
abbrev pub lines_of_block : ℕ → ℕ → ℕ → List ℕ
lines_of_block lines block b = range_with_len (b * block) (min block (lines - b * block))

-- those of some blocks, one block after the other
abbrev pub lines_of_blocks : ℕ → ℕ → List ℕ → List ℕ
lines_of_blocks lines block blocks = flat_map (lines_of_block lines block) blocks

-- how many blocks a trace has
abbrev pub block_count : ℕ → ℕ → ℕ
block_count lines block = (lines - 1) / block + 1

-- What a worker has its lines from that draws its blocks: its drawer, and which lines of the block that it
-- drew last are still to come. The trace has so many lines, and a block `block` of them.
pub record LinesDrawn : Type 0 where
  pub pool : Pool
  pub drawer : Drawing
  pub lines : ℕ
  pub block : ℕ
  pub next : ℕ
  pub block_end : ℕ

-- the blocks that it drew
abbrev pub blocks_of : LinesDrawn → List ℕ
blocks_of s = drawn s.drawer

-- their lines
abbrev pub lines_drawn : LinesDrawn → List ℕ
lines_drawn s = lines_of_blocks s.lines s.block (blocks_of s)

-- those that are still to come
abbrev pub open_lines : LinesDrawn → List ℕ
open_lines s = range_with_len s.next (s.block_end - s.next)

-- claims of so many blocks are those of a trace of so many lines: each block has a line, and each line a block
pub record AreBlocksOf (blocks lines block : ℕ) : Type 0 where
  pub few_lines : lines ≤ 2 ^ 32
  pub some_block : 1 ≤ block
  pub small_block : block ≤ 65536
  pub no_more : (b : ℕ) → b < blocks → b * block < lines
  pub no_fewer : lines ≤ blocks * block

-- what is so of it between two calls
pub record IsDrawingLines (s : LinesDrawn) : Type 0 where
  pub blocks : AreBlocksOf s.pool.totals.blocks s.lines s.block
  pub belongs : BelongsTo s.pool s.drawer
  pub rising : IsRising (blocks_of s)
  pub below : All (λ b. b < s.pool.totals.blocks) (blocks_of s)
  pub begun : s.next ≤ s.block_end
  pub within : s.block_end ≤ s.lines
  -- a later block begins where the last one ends, or behind it
  pub behind : (b : ℕ) → All (λ a. a < b) (blocks_of s) → s.block_end ≤ b * s.block

-- the blocks that it drew are these, and there is room for all blocks
pub record KeepsBlocks (s : LinesDrawn) (blocks : List ℕ) (room : ℕ) : Type 0 where
  pub drawing : IsDrawingLines s
  pub kept : blocks ≡ blocks_of s
  pub room_for_all : s.pool.totals.blocks ≤ room

-- it has drawn nothing
pub record IsFreshLines (pool : Pool) (lines block : ℕ) (s : LinesDrawn) : Type 0 where
  pub pool_is : s.pool ≡ pool
  pub lines_are : s.lines ≡ lines
  pub block_is : s.block ≡ block
  pub none_drawn : blocks_of s ≡ []
  pub none_open : open_lines s ≡ []

-- It gave these lines. What it gave before and what is still to come are together the lines of the blocks that
-- it drew: if that was so before, then it is so with these.
pub record GaveLines (old : LinesDrawn) (given : List ℕ) (new : LinesDrawn) : Type 0 where
  pub pool_is : new.pool ≡ old.pool
  pub lines_are : new.lines ≡ old.lines
  pub block_is : new.block ≡ old.block
  pub adds : (before : List ℕ) → before ++ open_lines old ≡ lines_drawn old
      → (before ++ given) ++ open_lines new ≡ lines_drawn new

-- it was told that no block is left, and gave all lines of its own
pub record HasDrawnAll (s : LinesDrawn) : Type 0 where
  pub drawing : IsDrawingLines s
  pub ended : has_ended s.drawer ≡ true
  pub none_open : open_lines s ≡ []

-- lines are given block by block; those that are still to come are no more than the trace has from the next
-- one on, since the blocks rise
abbrev pub drawn_blocks : Giving LinesDrawn
drawn_blocks = record {
  gives = GaveLines;
  is_over = HasDrawnAll;
  left = λ s. s.lines - s.next;
  within = λ lines s. s.lines ≤ lines;
}

pub drawn_blocks_add_up : AddsUp drawn_blocks
drawn_blocks_add_up = record {
  none = λ s. record {
    pool_is = refl;
    lines_are = refl;
    block_is = refl;
    adds = λ before e. ap (λ (xs : List ℕ). xs ++ open_lines s) (append-nil before) ∙ e;
  };
  more = λ s t u first next one two. record {
    pool_is = two.pool_is ∙ one.pool_is;
    lines_are = two.lines_are ∙ one.lines_are;
    block_is = two.block_is ∙ one.block_is;
    adds = λ before e. ap (λ (xs : List ℕ). xs ++ open_lines u) (sym (append_assoc before first next))
        ∙ two.adds (before ++ first) (one.adds before e);
  };
}
