use Rattle.std.proofs.Common.{◌++◌, ◌∷◌, List, [], length, refl, ap, ◌∙◌, arith, length-append}
use Rattle.tree_store.specs.Vectors.{IsVector}
use Rattle.work_run.proofs.Mine.{all_at}
use Rattle.work_run.proofs.Working.{taken_none, taken_more, taken_all}
use Rattle.work_run.proofs.work.work_through.Goals as goal

pub loop-i-init : goal.loop-i-init
loop-i-init g c =
    let ready = c.requires.ready in
    record {
      lines = [];
      taken = taken_none g.S.Shared.part (g.met.S.Shared g.world.𝓛 g.world.𝓜 g.world.𝓡 ((λ s x. x), (λ x. x), (λ x. x), λ x. x)).refusals (g.S.Shared.store c.args.store.now) g.P.Supply.giving g.met.P.Supply.adds_up (g.T.Task.telling c.args.task.now) c.args.trace.now c.args.worker.now ready.rest ready.none_yet;
      room = (let none = ap (λ (xs : List _). length xs) ready.none_yet in omega (arith, ready.room, none));
      inside = ready.inside;
    }

pub answer-answer-requires-clause-vector : goal.answer-answer-requires-clause-vector
answer-answer-requires-clause-vector g c = all_at (IsVector (g.S.Shared.store c.args.store.now).about) c.args.trace.now c.in-Some.i c.line.result.now c.requires.fit c.line.ensures

pub loop-i-preserved : goal.loop-i-preserved
loop-i-preserved g c =
    let inv = c.loop-i.invariant in
    let asked = c.in-Some.ensures in
    let pushed = c.in-Ok.ensures in
    record {
      lines = inv.lines ++ c.in-Some.i ∷ [];
      taken = taken_more g.S.Shared.part (g.met.S.Shared g.world.𝓛 g.world.𝓜 g.world.𝓡 ((λ s x. x), (λ x. x), (λ x. x), λ x. x)).refusals (g.S.Shared.store c.args.store.now) g.P.Supply.giving g.met.P.Supply.adds_up (g.T.Task.telling c.args.task.now) c.args.trace.now
          c.args.worker.now c.loop-i.worker _ inv.lines c.in-Some.i c.line.result.now c.answer-answer.result inv.taken c.line.ensures asked.given c.answer-answer.ensures.inserted c.answer-answer.ensures.proper pushed.items refl;
      room = (let long = ap (λ (xs : List _). length xs) pushed.items ∙ length-append c.loop-i.worker.answers.items (c.answer-answer.result ∷ []) in omega (arith, inv.room, asked.fewer, long, pushed.capacity));
      inside = (asked.inside (length c.args.trace.now) inv.inside).0;
    }

pub returns : goal.returns
returns g c =
    let inv = c.loop-i.invariant in
    let asked = c.in_default.ensures in
    record {
      lines = inv.lines;
      taken = taken_all g.S.Shared.part (g.met.S.Shared g.world.𝓛 g.world.𝓜 g.world.𝓡 ((λ s x. x), (λ x. x), (λ x. x), λ x. x)).refusals (g.S.Shared.store c.args.store.now) g.P.Supply.giving g.met.P.Supply.adds_up (g.T.Task.telling c.args.task.now) c.args.trace.now c.args.worker.now c.loop-i.worker _ inv.lines inv.taken asked.given refl refl refl;
      over = asked.over refl;
    }
