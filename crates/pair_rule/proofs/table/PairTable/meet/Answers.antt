use Rattle.std.proofs.Common.{arith, refl, ap, ◌∙◌, subst}
use Rattle.tree_shape.specs.Tree.{IsPart}
use Rattle.pair_rule.specs.Part.{root_pairs}
use Rattle.pair_rule.specs.View.{child_view, joined_view}
use Rattle.pair_rule.specs.Rest.{view}
use Rattle.pair_rule.specs.Splits.{HasTaken}
use Rattle.pair_rule.proofs.Rests.{pass_joined, no_names_given, pass_split}
use Rattle.pair_rule.proofs.table.PairTable.meet.Goals as goal

pub returns : goal.returns
returns g c =
    let part = g.R.RootPart.part in
    let store = c.args.self.now in
    let s = c.split_seat-seat.ensures in
    let e = c.join_seat.ensures in
    let v = view c.args.teller.now in
    let w = child_view part.split v in
    let u = c.join_seat.new.seat.me.0 in
    let is = e.view ∙ ap (λ x. joined_view part.join (view c.args.hearer.now) x) s.new_view in
    let none = no_names_given part store v c.requires.teller.seat.sound in
    let heard = subst (λ x. HasTaken part x u) s.new_view e.other_taken in
    record {
      teller_rest = pass_split part store c.args.teller.now _ c.requires.teller s.rest s.view refl refl refl refl refl refl;
      rest = pass_joined part store c.args.hearer.now _ w c.requires.hearer e.rest is e.taken.calls heard.calls refl refl refl refl (omega arith) (omega (arith, none));
      teller_view = s.view;
      view_is = is;
      taken = e.taken;
      seen = heard.seen;
      known = heard.known;
      roots = subst (λ l. IsPart l (root_pairs part u)) (g.met.R.RootPart.roots_split v.about v.seen v.root) heard.roots;
      calls = heard.calls;
      teller_others = refl;
      others = refl;
    }
