-- The laws of drawn blocks.
use Rattle.std.specs.Prelude.{◌≡◌, ◌≢◌, ℕ, ◌+◌, ◌<◌, ◌≤◌, List, [], All, false, length, slice_index_or}
use mathlib.Core.Option.{some}
use lib.ListN.{get_elem?}
use Rattle.block_claims.specs.declared.share.Share.{Share}
use Rattle.block_claims.specs.declared.share.Totals.{Totals}
use Rattle.block_claims.specs.Shares.{with_block, lists_of}
use Rattle.block_claims.specs.Rule.{AreClaims, count}
use Rattle.block_claims.specs.Drawers.{Pool, Drawing, BelongsTo, IsNew, drawn, has_ended}
use Rattle.block_claims.specs.Numbers.{times, EachOnceBelow, IsRising}

-- a share of a seat that was joined into another
pub record IsSpent (s : Share) : Type 0 where
  pub drawn_none : s.drawn ≡ []
  pub no_drawers : s.drawers ≡ 0
  pub none_ended : s.ended ≡ 0

-- the number stands once in the list at this place, and in no other list
pub record IsOnlyAt (b : ℕ) (lists : List (List ℕ)) (place : ℕ) : Type 0 where
  pub inside : place < length lists
  pub here : times b (slice_index_or lists place []) ≡ 1
  pub nowhere_else : (j : ℕ) → j ≢ place → times b (slice_index_or lists j []) ≡ 0

-- a place at which it is so
pub record HasOneDrawer (b : ℕ) (lists : List (List ℕ)) : Type 0 where
  pub place : ℕ
  pub only : IsOnlyAt b lists place

-- where the lists together have each block exactly once, each is one drawer's
abbrev pub EachHasOneDrawer : Type 0
EachHasOneDrawer =
    (blocks : ℕ) (lists : List (List ℕ)) → EachOnceBelow blocks lists → (b : ℕ) → b < blocks
    → HasOneDrawer b lists

-- and what stands in any of the lists is a block
abbrev pub NoneButBlocks : Type 0
NoneButBlocks =
    (blocks : ℕ) (lists : List (List ℕ)) → EachOnceBelow blocks lists
    → (b j : ℕ) → 1 ≤ times b (slice_index_or lists j []) → b < blocks

-- a drawer that has not ended drew so many blocks, in rising order
pub record HasDrawn (pool : Pool) (n : ℕ) (d : Drawing) : Type 0 where
  pub belongs : BelongsTo pool d
  pub not_ended : has_ended d ≡ false
  pub so_many : length (drawn d) ≡ n
  pub rising : IsRising (drawn d)
  pub blocks : All (λ b. b < pool.totals.blocks) (drawn d)

-- a new one drew none
abbrev pub NewHasNone : Type 0
NewHasNone = (pool : Pool) (d : Drawing) → IsNew pool d → HasDrawn pool 0 d

-- with each block that it is given it drew one more, by the clauses of the call
abbrev pub DrawsOneMore : Type 0
DrawsOneMore =
    (pool : Pool) (n b : ℕ) (old new : Drawing) → HasDrawn pool n old → BelongsTo pool new
    → b < pool.totals.blocks → All (λ a. a < b) (drawn old) → new.share ≡ with_block b old.share
    → HasDrawn pool (n + 1) new

-- it drew at most as many as there are
abbrev pub DrawsAtMost : Type 0
DrawsAtMost = (pool : Pool) (n : ℕ) (d : Drawing) → HasDrawn pool n d → n ≤ pool.totals.blocks

-- the count is at most the number of blocks and drawers together, and so does not wrap
abbrev pub CountIsSmall : Type 0
CountIsSmall =
    (totals : Totals) (words : List ℕ) (shares : List Share) → AreClaims totals words shares
    → count words ≤ totals.blocks + totals.drawers

-- a share that stands for all drawers is the only one that is not spent
abbrev pub AllIsAlone : Type 0
AllIsAlone =
    (totals : Totals) (words : List ℕ) (shares : List Share) → AreClaims totals words shares
    → (i j : ℕ) (s t : Share) → get_elem? shares i ≡ some s → s.drawers ≡ totals.drawers
    → get_elem? shares j ≡ some t → j ≢ i → IsSpent t

-- once a share has an ended drawer, the shares together have each block
abbrev pub EndedHasAll : Type 0
EndedHasAll =
    (totals : Totals) (words : List ℕ) (shares : List Share) → AreClaims totals words shares
    → (i : ℕ) (s : Share) → get_elem? shares i ≡ some s → 1 ≤ s.ended
    → EachOnceBelow totals.blocks (lists_of shares)
