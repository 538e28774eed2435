-- What a seat's share is at first, and what becomes of it with each step.
use Rattle.std.specs.Prelude.{ℕ, suc, ◌+◌, ◌-◌, List, [], ◌∷◌, ◌++◌, map}
use Rattle.block_claims.specs.declared.share.Share.{Share}
use Rattle.block_claims.specs.declared.share.Totals.{Totals}
use Rattle.block_claims.specs.Numbers.{merged}

-- the share of the first seat, which stands for all drawers
abbrev pub first_share : Totals → Share
first_share totals = record { totals = totals; drawn = []; drawers = totals.drawers; ended = 0 }

-- a block was drawn
abbrev pub with_block : ℕ → Share → Share
with_block b s = record s { drawn = s.drawn ++ b ∷ [] }

-- one of its drawers found no block left
abbrev pub with_end : Share → Share
with_end s = record s { ended = suc s.ended }

-- what is left of a share when one of its drawers gets a seat of its own
abbrev pub parent_share : Share → Share
parent_share s = record s { drawers = s.drawers - 1 }

-- the share of one drawer that has drawn nothing
abbrev pub new_share : Totals → Share
new_share totals = record { totals = totals; drawn = []; drawers = 1; ended = 0 }

-- that of the new seat
abbrev pub child_share : Share → Share
child_share s = new_share s.totals

-- two shares as one
abbrev pub joined_share : Share → Share → Share
joined_share s t = record s {
  drawn = merged s.drawn t.drawn;
  drawers = s.drawers + t.drawers;
  ended = s.ended + t.ended;
}

-- that of a seat that was joined into another
abbrev pub spent_share : Share
spent_share = record { totals = record { blocks = 0; drawers = 0 }; drawn = []; drawers = 0; ended = 0 }

-- the lists of all blocks drawn
abbrev pub lists_of : List Share → List (List ℕ)
lists_of shares = map (λ s. s.drawn) shares
