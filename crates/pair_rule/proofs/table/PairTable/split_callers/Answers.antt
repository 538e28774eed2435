use Rattle.std.proofs.Common.{◌≡◌, ◌∷◌, ◌∙◌, List, [], length, sym, ap, subst, arith, length-append}
use Rattle.pair_rule.specs.declared.callers.Caller.{Caller}
use Rattle.pair_rule.specs.Rest.{view}
use Rattle.pair_rule.specs.Callers.{IsSplitPass, AreSplitCallers}
use Rattle.pair_rule.proofs.InTurn.{split_more, split_rest, unused}
use Rattle.pair_rule.proofs.table.PairTable.split_callers.Goals as goal

pub returns-in_default-clause-refused : goal.returns-in_default-clause-refused
returns-in_default-clause-refused g c =
    let h = c.loop-number.invariant.split in
    let now = subst (λ p. p ≡ record c.args.pass.now { seat = p.seat }) (sym c.in_default.ensures.refused) h.pass_is in
    let is = ap (λ p. view p) c.in_default.ensures.refused ∙ h.view_is in
    unused g.R.RootPart.part c.args.self.now (λ (x : Caller g.row.R-View.Denot g.row.A.Denot). x.pass) c.args.pass.now c.split.new.pass c.join_callers.new.pass c.loop-number.callers.items now is h.split c.join_callers.ensures

pub loop-number-preserved : goal.loop-number-preserved
loop-number-preserved g c =
    let part = g.R.RootPart.part in
    let store = c.args.self.now in
    let inv = c.loop-number.invariant in
    let old = c.loop-number.pass in
    let callers = c.loop-number.callers.items in
    let e = c.in-Ok.ensures.split in
    let n = c.new.ensures in
    let one : IsSplitPass part store (view old) c.in-Ok.split = record { rest = e.child_rest; view_is = e.child_view_is; unknown = e.number; no_tree = e.no_tree } in
    let pushed = c.in-Ok-push.ensures.items in
    record {
      split = subst (λ (x : List (Caller g.row.R-View.Denot g.row.A.Denot)). AreSplitCallers part store c.args.kept c.args.pass.now c.split.new.pass x) (sym pushed)
          (split_more part store c.args.kept c.args.pass.now old c.split.new.pass callers c.new.result inv.split e.rest e.view_is e.others
          (subst (λ p. IsSplitPass part store (view old) p) (sym n.pass) one) (n.number ∙ sym inv.so_many) (n.kept ∙ inv.same));
      so_many = ap (λ (x : List (Caller g.row.R-View.Denot g.row.A.Denot)). length x) pushed ∙ omega (arith, length-append callers (c.new.result ∷ []), inv.so_many);
      room = omega (arith, c.in-Ok-push.ensures.capacity, inv.room);
      same = inv.same;
    }

pub returns-clause-callers : goal.returns-clause-callers
returns-clause-callers g c = split_rest g.R.RootPart.part c.args.self.now c.args.kept c.args.pass.now c.loop-number.pass c.loop-number.callers.items c.loop-number.invariant.split
