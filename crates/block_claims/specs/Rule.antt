-- The rule: what holds of the count and of all shares between any two steps.
use Rattle.std.specs.Prelude.{◌≡◌, ℕ, ◌+◌, ◌<◌, ◌≤◌, List, [], length, min, slice_index, sum_by}
use mathlib.Core.Option.{some}
use lib.ListN.{get_elem?}
use Rattle.block_claims.specs.declared.share.Share.{Share}
use Rattle.block_claims.specs.declared.share.Totals.{Totals}
use Rattle.block_claims.specs.Numbers.{IsRising, EachOnceBelow}
use Rattle.block_claims.specs.Shares.{lists_of}

-- the count stands behind word 0
abbrev pub count : List ℕ → ℕ
count words = slice_index words 1

-- what the rule says of one share
pub record IsShare (totals : Totals) (count : ℕ) (s : Share) : Type 0 where
  -- a share that is not spent knows how many blocks and drawers there are
  pub totals_are : 1 ≤ s.drawers → s.totals ≡ totals
  -- its list rises
  pub rising : IsRising s.drawn
  -- at most as many of its drawers have ended as it stands for
  pub few_ended : s.ended ≤ s.drawers
  -- a share that stands for no drawer is spent: nothing was drawn
  pub spent : s.drawers ≡ 0 → s.drawn ≡ []
  -- it has ended drawers only where the count is greater than the number of blocks
  pub past : 1 ≤ s.ended → totals.blocks < count

-- the rule
pub record AreClaims (totals : Totals) (words : List ℕ) (shares : List Share) : Type 0 where
  pub two_words : length words ≡ 2
  -- each number below both the count and the number of blocks is in exactly one list, and no other in any
  pub once : EachOnceBelow (min (count words) totals.blocks) (lists_of shares)
  pub each : (j : ℕ) (s : Share) → get_elem? shares j ≡ some s → IsShare totals (count words) s
  -- the shares together stand for all drawers
  pub all : sum_by (λ s. s.drawers) shares ≡ totals.drawers
  -- the count is at most the number of blocks and of all drawers that have ended
  pub most : count words ≤ totals.blocks + sum_by (λ s. s.ended) shares

-- at some moment, under the rule, the count was at least the number of blocks: the shares of that moment,
-- with this one among them, have together each block
pub record NoneLeft (totals : Totals) (s : Share) : Type 0 where
  pub words : List ℕ
  pub shares : List Share
  pub are_claims : AreClaims totals words shares
  pub place : ℕ
  pub there : get_elem? shares place ≡ some s
  pub past : totals.blocks ≤ count words
  pub all_drawn : EachOnceBelow totals.blocks (lists_of shares)
