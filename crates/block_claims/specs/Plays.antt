-- What each step on the table tells.
use Rattle.std.specs.Prelude.{◌≡◌, ℕ, ◌<◌, ◌≤◌, [], ◌∷◌, All}
use Rattle.atomic_table.specs.Table.{Me, Step}
use Rattle.block_claims.specs.declared.share.Share.{Share}
use Rattle.block_claims.specs.Numbers.{EachOnceBelow}
use Rattle.block_claims.specs.Shares.{with_block, with_end}
use Rattle.block_claims.specs.Rule.{NoneLeft}

module _ {S : Type 0} where
  -- the count was found and raised by one: below the number of blocks it is the block that was drawn, and
  -- else a drawer has ended
  pub record DrawTold (m : Me S Share) (found : ℕ) (m' : Me S Share) : Type 0 where
    pub slots_stay : m'.1 ≡ m.1
    pub block : found < m.0.totals.blocks → (m'.0 ≡ with_block found m.0) × All (λ a. a < found) m.0.drawn
    pub none : m.0.totals.blocks ≤ found → (m'.0 ≡ with_end m.0) × NoneLeft m.0.totals m.0

  abbrev pub draw_tells : Step S → Me S Share → ℕ → Me S Share → Type 0
  draw_tells st m found m' = DrawTold m found m'

  -- after all joins a word is loaded: the share of all drawers, of which some have ended, has each block
  pub record JoinsTold (m m' : Me S Share) : Type 0 where
    pub same : m' ≡ m
    pub once : m.0.drawers ≡ m.0.totals.drawers → 1 ≤ m.0.ended
        → EachOnceBelow m.0.totals.blocks (m.0.drawn ∷ [])

  abbrev pub after_joins_tells : Step S → Me S Share → ℕ → Me S Share → Type 0
  after_joins_tells st m found m' = JoinsTold m m'
