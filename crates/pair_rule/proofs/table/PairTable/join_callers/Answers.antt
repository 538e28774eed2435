use Rattle.std.proofs.Common.{arith, ◌≡◌, [], sym, ap, ◌∙◌, subst}
use Rattle.std.specs.Prelude.{Some}
use Rattle.std.proofs.lemmas.List.{nil_from_length}
use Rattle.std.proofs.lemmas.List.Elements.{All-pop}
use Rattle.pair_rule.specs.declared.pass.PassOf.{PassOf}
use Rattle.pair_rule.specs.declared.callers.Caller.{Caller}
use Rattle.pair_rule.specs.Splits.{HasTaken}
use Rattle.pair_rule.specs.View.{joined_view}
use Rattle.pair_rule.specs.Rest.{AtRest, view}
use Rattle.pair_rule.proofs.InTurn.{joining_none, joining_more, joining_all}
use Rattle.pair_rule.proofs.table.PairTable.join_callers.Goals as goal

pub loop-caller-init : goal.loop-caller-init
loop-caller-init g c = joining_none g.R.RootPart.part c.args.self.now (λ (x : Caller g.row.R-View.Denot g.row.A.Denot). x.pass) _ _ c.requires.pass c.requires.callers

pub join-requires : goal.join-requires
join-requires g c =
    let P = λ (p : PassOf g.row.R-View.Denot). AtRest g.R.RootPart.part c.args.self.now p in
    let inv = c.loop-caller.invariant in
    let left = All-pop (λ (x : Caller g.row.R-View.Denot g.row.A.Denot). P x.pass) c.loop-caller.left.items c.pop.new.self.items (Some c.in-Some.caller) c.in-Some.ensures.items inv.stay in
    (omega arith, (inv.joined.rest, subst P (sym c.into_parts-other.ensures.pass) left.1))

pub loop-caller-preserved : goal.loop-caller-preserved
loop-caller-preserved g c =
    let part = g.R.RootPart.part in
    let e = c.join.ensures in
    let same = c.into_parts-other.ensures.pass in
    let old = c.loop-caller.pass in
    let nodes = ap (λ (p : PassOf g.row.R-View.Denot). p.nodes_count) e.others in
    let names = ap (λ (p : PassOf g.row.R-View.Denot). p.names_count) e.others in
    let new = c.join.new.pass in
    joining_more part c.args.self.now (λ (x : Caller g.row.R-View.Denot g.row.A.Denot). x.pass) c.args.pass.now old new c.args.callers.items c.loop-caller.left.items c.pop.new.self.items c.in-Some.caller c.loop-caller.invariant c.in-Some.ensures.items
    e.rest
    (e.view_is ∙ ap (λ (p : PassOf g.row.R-View.Denot). joined_view part.join (view old) (view p)) same)
    e.taken.0
    (subst (λ (p : PassOf g.row.R-View.Denot). HasTaken part (view p) (view new)) same e.taken.1)
    (e.others ∙ (λ i. record old { seat = new.seat; nodes_count = sym nodes i; names_count = sym names i }))

pub returns : goal.returns
returns g c =
    let inv = c.loop-caller.invariant in
    let none : c.loop-caller.left.items ≡ [] = nil_from_length c.loop-caller.left.items (omega (arith, c.loop-caller.left.ok, c.in_default.ensures.cases.0)) in
    joining_all g.R.RootPart.part c.args.self.now (λ (x : Caller g.row.R-View.Denot g.row.A.Denot). x.pass) c.args.pass.now c.loop-caller.pass c.args.callers.items c.loop-caller.left.items inv none
