use Rattle.std.proofs.Common.{arith, refl, ap, ◌∙◌, subst, ◌+◌}
use Rattle.pair_rule.specs.View.{joined_view}
use Rattle.pair_rule.specs.Rest.{view}
use Rattle.pair_rule.specs.Splits.{HasTaken}
use Rattle.pair_rule.proofs.Rests.{pass_joined, few_nodes, few_names_given}
use Rattle.pair_rule.proofs.table.PairTable.join.Goals as goal

pub overflow_add-pass : goal.overflow_add-pass
overflow_add-pass g c =
    let part = g.R.RootPart.part in
    let a = few_nodes part c.args.self.now c.args.pass.now c.requires.pass in
    let b = few_nodes part c.args.self.now c.args.other c.requires.other in
    omega arith

pub overflow_add-pass-2 : goal.overflow_add-pass-2
overflow_add-pass-2 g c =
    let part = g.R.RootPart.part in
    let a = few_names_given part c.args.self.now g.met.R.RootPart.ids_small c.args.pass.now c.requires.pass in
    let b = few_names_given part c.args.self.now g.met.R.RootPart.ids_small c.args.other c.requires.other in
    omega arith

pub returns : goal.returns
returns g c =
    let part = g.R.RootPart.part in
    let o = c.into_seat-seat.ensures in
    let w = view c.args.other in
    let e = c.join_seat.ensures in
    let is = e.view ∙ ap (λ s. joined_view part.join (view c.args.pass.now) s.me.0) o in
    let other = subst (λ s. HasTaken part s.me.0 c.join_seat.new.seat.me.0) o e.other_taken in
    record {
      rest = pass_joined part c.args.self.now c.args.pass.now _ w c.requires.pass e.rest is e.taken.calls other.calls refl refl refl refl
          (ap (λ n. c.args.pass.now.nodes_count + n) c.requires.other.nodes_count) (ap (λ n. c.args.pass.now.names_count + n) c.requires.other.names_count);
      view_is = is;
      taken = (e.taken, other);
      others = refl;
    }
