-- What becomes of passes that are split, joined, and told of one another.
use Rattle.std.specs.Prelude.{◌≡◌, ◌+◌, false}
use Rattle.tree_shape.specs.Tree.{IsPart}
use Rattle.tdb_base.specs.Legal.{Extends}
use Rattle.pair_rule.specs.declared.view.View.{View}
use Rattle.pair_rule.specs.declared.pass.PassOf.{PassOf}
use Rattle.pair_rule.specs.Part.{Store, Part, root_pairs}
use Rattle.pair_rule.specs.Rest.{AtRest, IsUnknown, KeepsCalls, view}
use Rattle.pair_rule.specs.View.{parent_view, child_view, joined_view}

module _ {T : Type 0} (part : Part T) where
  -- the view has all that another had: it has seen its history, and has its calls, its nodes and its root
  -- pairs
  pub record HasTaken (other now : View T) : Type 0 where
    pub seen : Extends other.seen now.seen
    pub calls : KeepsCalls other now
    pub known : IsPart other.known now.known
    pub roots : IsPart (root_pairs part other) (root_pairs part now)

  -- a pass was split from another: it has seen what that one had, has no call of its own, no node, no probe
  -- and no tree, and a number that was nobody's
  pub record IsSplit (store : Store) (old now child : PassOf T) : Type 0 where
    pub rest : AtRest part store now
    pub child_rest : AtRest part store child
    pub view_is : view now ≡ parent_view (view old)
    pub child_view_is : view child ≡ child_view part.split (view old)
    pub number : IsUnknown (view child).number (view old)
    pub no_tree : child.has_last ≡ false
    pub others : now ≡ record old { seat = now.seat }

  -- a pass took in another, whose calls stay its own; its last tree stays
  pub record IsJoined (store : Store) (old other now : PassOf T) : Type 0 where
    pub rest : AtRest part store now
    pub view_is : view now ≡ joined_view part.join (view old) (view other)
    pub taken : HasTaken (view old) (view now) × HasTaken (view other) (view now)
    pub others : now ≡ record old {
      seat = now.seat;
      nodes_count =
          old.nodes_count + other.nodes_count;
      names_count = old.names_count + other.names_count;
    }

  -- one pass, the hearer, has taken what another had, the teller, which stays as it was but for one more
  -- split
  pub record IsTold (store : Store) (teller hearer teller_now now : PassOf T) : Type 0 where
    pub teller_rest : AtRest part store teller_now
    pub rest : AtRest part store now
    pub teller_view : view teller_now ≡ parent_view (view teller)
    pub view_is : view now ≡ joined_view part.join (view hearer) (child_view part.split (view teller))
    pub taken : HasTaken (view hearer) (view now)
    pub seen : Extends (view teller).seen (view now).seen
    pub known : IsPart (view teller).known (view now).known
    pub roots : IsPart (root_pairs part (view teller)) (root_pairs part (view now))
    pub calls : KeepsCalls (child_view part.split (view teller)) (view now)
    pub teller_others : teller_now ≡ record teller { seat = teller_now.seat }
    pub others : now ≡ record hearer { seat = now.seat }
