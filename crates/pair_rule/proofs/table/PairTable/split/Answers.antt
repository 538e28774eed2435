use Rattle.std.proofs.Common.{◌*◌, refl, ap, ◌∙◌, sym, length, le_refl}
use Rattle.pair_rule.specs.Numbers.{child, itself}
use Rattle.pair_rule.specs.Rest.{names_of_callers, view}
use Rattle.pair_rule.proofs.Rests.{pass_rests, no_names_given, pass_split}
use Rattle.pair_rule.proofs.table.PairTable.split.Goals as goal

pub returns-clause-split : goal.returns-clause-split
returns-clause-split g c =
    let part = g.R.RootPart.part in
    let store = c.args.self.now in
    let v = view c.args.pass.now in
    let e = c.split_seat-seat.ensures in
    let b = c.in_ok-buffers.ensures in
    let slots = c.slots.ensures.slots in
    let is = e.new_view in
    let none = no_names_given part store v c.requires.seat.sound in
    let u = c.requires.seat.sound.unborn v.splits (child v.number v.splits) (le_refl v.splits) (itself refl) in
    rw c.with_seat.ensures record {
      rest = pass_split part store c.args.pass.now _ c.requires e.rest e.view refl refl refl refl refl refl;
      child_rest = pass_rests part store _ e.new_rest (b.last ∙ ap (λ n. 2 * n) slots) (b.next ∙ ap (λ n. 2 * n) slots) (b.marks ∙ slots) refl
          (ap (λ u. length u.made) (sym is)) (sym (ap (λ u. names_of_callers u.numbers u.seen) is ∙ none));
      view_is = e.view;
      child_view_is = is;
      number = rw is record { not_its = u.0; not_born = u.1; no_calls = u.2 };
      no_tree = refl;
      others = refl;
    }
