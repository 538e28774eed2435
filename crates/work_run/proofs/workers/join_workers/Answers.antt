use Rattle.std.proofs.Common.{arith, ◌≡◌, [], sym, ap, ◌∙◌, subst}
use Rattle.std.specs.Prelude.{Some}
use Rattle.std.proofs.lemmas.List.{nil_from_length}
use Rattle.std.proofs.lemmas.List.Elements.{All-pop}
use Rattle.pair_rule.specs.declared.pass.PassOf.{PassOf}
use Rattle.pair_rule.specs.Splits.{HasTaken}
use Rattle.pair_rule.specs.View.{joined_view}
use Rattle.pair_rule.specs.Rest.{AtRest, view}
use Rattle.work_run.specs.declared.worker.Worker.{Worker}
use Rattle.pair_rule.proofs.InTurn.{joining_none, joining_more, joining_all}
use Rattle.work_run.proofs.workers.join_workers.Goals as goal

pub loop-worker-init : goal.loop-worker-init
loop-worker-init g c = joining_none g.S.Shared.part _ (λ (w : Worker g.row.S-View.Denot g.row.P.Denot g.row.A.Denot). w.pass) _ _ c.requires.rest c.requires.all_workers

pub join-requires : goal.join-requires
join-requires g c =
    let t = (g.S.Shared.store c.args.store.now) in
    let inv = c.loop-worker.invariant in
    let P = λ (p : PassOf g.row.S-View.Denot). AtRest g.S.Shared.part t p in
    let left = All-pop (λ (w : Worker g.row.S-View.Denot g.row.P.Denot g.row.A.Denot). P w.pass) c.loop-worker.left.items c.pop.new.self.items (Some c.in-Some.worker) c.in-Some.ensures.items inv.stay in
    record { pass = inv.joined.rest; other = subst P (sym c.into_pass.ensures) left.1 }

pub loop-worker-preserved : goal.loop-worker-preserved
loop-worker-preserved g c =
    let part = g.S.Shared.part in
    let t = (g.S.Shared.store c.args.store.now) in
    let e = c.join.ensures in
    let old = c.loop-worker.pass in
    let new = c.join.new.pass in
    let nodes = ap (λ (p : PassOf g.row.S-View.Denot). p.nodes_count) e.others in
    let names = ap (λ (p : PassOf g.row.S-View.Denot). p.names_count) e.others in
    joining_more part t (λ (w : Worker g.row.S-View.Denot g.row.P.Denot g.row.A.Denot). w.pass) c.args.pass.now old new c.args.all_workers.items c.loop-worker.left.items c.pop.new.self.items c.in-Some.worker c.loop-worker.invariant c.in-Some.ensures.items
    e.rest
    (e.view_is ∙ ap (λ (p : PassOf g.row.S-View.Denot). joined_view part.join (view old) (view p)) c.into_pass.ensures)
    e.taken.0
    (subst (λ (p : PassOf g.row.S-View.Denot). HasTaken part (view p) (view new)) c.into_pass.ensures e.taken.1)
    (e.others ∙ (λ i. record old { seat = new.seat; nodes_count = sym nodes i; names_count = sym names i }))

pub returns : goal.returns
returns g c =
    let t = (g.S.Shared.store c.args.store.now) in
    let inv = c.loop-worker.invariant in
    let none : c.loop-worker.left.items ≡ [] = nil_from_length c.loop-worker.left.items (omega (arith, c.loop-worker.left.ok, c.in_default.ensures.cases.0)) in
    joining_all g.S.Shared.part t (λ (w : Worker g.row.S-View.Denot g.row.P.Denot g.row.A.Denot). w.pass) c.args.pass.now c.loop-worker.pass c.args.all_workers.items c.loop-worker.left.items inv none
