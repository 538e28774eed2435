use Rattle.std.proofs.Common.{◌<◌, ◌∙◌, List, length, map, ap, arith}
use Rattle.std.proofs.lemmas.List.{length-map}
use Rattle.pair_rule.specs.declared.pass.PassOf.{PassOf}
use Rattle.pair_rule.specs.Rest.{AtRest}
use Rattle.pair_rule.proofs.Elements.{placed}
use Rattle.work_run.proofs.Settling.{all_alike, own_answered}
use Rattle.work_run.proofs.WhoDrew.{alike_at}
use Rattle.work_run.proofs.drew.finish_drawn.Goals as goal

pub place-requires-clause-answered : goal.place-requires-clause-answered
place-requires-clause-answered g c =
    let told = c.tell_workers-rest.ensures in
    own_answered c.args.lines c.args.block c.args.all_workers.items c.tell_workers-rest.result.1.workers.items c.deref.result.now (λ w. w.answers.items)
    (ap (map (λ w. w.answers.items)) c.deref.ensures.value ∙ told.answers) c.requires.answered told.own

pub join_workers-requires-clause-all_workers : goal.join_workers-requires-clause-all_workers
join_workers-requires-clause-all_workers g c κs within =
    all_alike (λ (p : PassOf g.row.S-View.Denot). AtRest g.S.Shared.part (g.S.Shared.store c.args.store.now) p) (λ w. w.pass) (λ w. w.pass) c.tell_workers-rest.result.0.items c.args.all_workers.items c.tell_workers-rest.ensures.passes c.requires.rests

pub returns-clause-placed : goal.returns-clause-placed
returns-clause-placed g c =
    let told = c.tell_workers-rest.ensures in
    let all = c.args.all_workers.items in
    let rest = c.deref.result.now in
    let same = ap (map (λ w. w.answers.items)) c.deref.ensures.value ∙ told.answers in
    let long = ap (λ (l : List (List g.row.A.Denot)). length l) same in
    record {
      one_each = c.place.ensures.all;
      drew = told.drew;
      own = told.own;
      placed = λ j d lt.
          (let there : j < length rest = omega (arith, lt, long, length-map rest (λ w. w.answers.items), length-map all (λ w. w.answers.items)) in
          let e = (placed rest j there).one in
          c.place.ensures.placed j e there ∙ alike_at (λ w. w.answers.items) (λ w. w.answers.items) rest all same j e d there);
    }
