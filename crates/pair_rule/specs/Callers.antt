-- Passes that are split from one pass in turn, and joined into it again.
use Rattle.std.specs.Prelude.{◌≡◌, ◌<◌, ℕ, zero, suc, List, [], ◌∷◌, false, length, map, slice_index_or}
use Rattle.tree_shape.specs.Tree.{Has, IsPart}
use Rattle.pair_rule.specs.declared.view.View.{View}
use Rattle.pair_rule.specs.declared.pass.PassOf.{PassOf}
use Rattle.pair_rule.specs.declared.callers.Caller.{Caller}
use Rattle.pair_rule.specs.Rest.{AtRest, IsUnknown, Whole, view}
use Rattle.pair_rule.specs.Part.{Store, Part}
use Rattle.pair_rule.specs.Splits.{HasTaken}
use Rattle.pair_rule.specs.View.{parent_view, child_view, joined_view}

module _ {T : Type 0} where
  -- a view from which so many passes were split
  abbrev pub after_splits : ℕ → View T → View T
  after_splits zero v = v
  after_splits (suc n) v = parent_view (after_splits n v)

  -- a view into which others were joined, the last in the list first
  abbrev pub after_joins : (T → T → T) → View T → List (View T) → View T
  after_joins join v [] = v
  after_joins join v (w ∷ ws) = joined_view join (after_joins join v ws) w

  module _ (part : Part T) (store : Store) where
    -- a pass that was split from one with this view, and with which nothing was done since
    pub record IsSplitPass (before : View T) (pass : PassOf T) : Type 0 where
      pub rest : AtRest part store pass
      pub view_is : view pass ≡ child_view part.split before
      pub unknown : IsUnknown (view pass).number before
      pub no_tree : pass.has_last ≡ false

    -- callers with their numbers, to each of whom a pass was split from one pass in turn, and this is at hand
    pub record AreSplitCallers {A : Type 0} (kept : A) (base now : PassOf T) (callers : List (Caller T A)) : Type 0 where
      pub rest : AtRest part store now
      pub pass_is : now ≡ record base { seat = now.seat }
      pub view_is : view now ≡ after_splits (length callers) (view base)
      pub split : (j : ℕ) (d : Caller T A) → j < length callers
          → IsSplitPass (after_splits j (view base)) (slice_index_or callers j d).pass
      pub numbers : (j : ℕ) (d : Caller T A) → j < length callers → (slice_index_or callers j d).number ≡ j
      pub kept_by : (j : ℕ) (d : Caller T A) → j < length callers → (slice_index_or callers j d).kept ≡ kept

    -- other passes were joined into one
    pub record AreJoined (base now : PassOf T) (others : List (PassOf T)) : Type 0 where
      pub rest : AtRest part store now
      pub pass_is : now ≡ record base {
        seat = now.seat;
        nodes_count = now.nodes_count;
        names_count =
            now.names_count;
      }
      pub view_is : view now ≡ after_joins part.join (view base) (map view others)
      pub base_taken : HasTaken part (view base) (view now)
      pub taken : (p : PassOf T) → Has p others → HasTaken part (view p) (view now)

  -- a pass from which passes were split and into which they were joined again, while none of them did
  -- anything
  pub record Unused (old new : PassOf T) : Type 0 where
    pub pass_is : new ≡ record old {
      seat = new.seat;
      nodes_count = new.nodes_count;
      names_count =
          new.names_count;
    }
    pub number : (view new).number ≡ (view old).number
    pub seen : (view new).seen ≡ (view old).seen
    pub numbers : (c : ℕ) → Has c (view old).numbers → Has c (view new).numbers
    pub known : IsPart (view old).known (view new).known × IsPart (view new).known (view old).known
    pub made : (view new).made ≡ (view old).made
    pub probes : (view new).probes ≡ (view old).probes
    pub whole : Whole (view old) → Whole (view new)
