use Rattle.std.proofs.Common.{◌∷◌, ◌∙◌, ℕ, List, [], length, map, sym, ap, subst, arith, length-append}
use Rattle.pair_rule.specs.declared.pass.PassOf.{PassOf}
use Rattle.pair_rule.specs.Rest.{view}
use Rattle.work_run.specs.declared.worker.Worker.{Worker}
use Rattle.pair_rule.specs.Callers.{AreJoined}
use Rattle.work_run.specs.Workers.{IsSplitWorker, AreSplitWorkers}
use Rattle.pair_rule.proofs.InTurn.{unused}
use Rattle.work_run.proofs.SplitInTurn.{split_more}
use Rattle.work_run.proofs.workers.split_workers.Goals as goal

pub loop-number-preserved : goal.loop-number-preserved
loop-number-preserved g c =
    let part = g.S.Shared.part in
    let t = (g.S.Shared.store c.args.store.now) in
    let left = g.P.Lines.Supply.giving.left in
    let begins = g.P.Dealing.begins c.args.dealing.now in
    let inv = c.loop-number.invariant in
    let e = c.in-Ok.ensures in
    let old = c.loop-number.pass in
    let all_workers = c.loop-number.all_workers.items in
    let worker = c.in-Ok.worker in
    let number = c.loop-number.number in
    let one : IsSplitWorker part t left begins (view old) number worker = record {
      number_is = e.split.number_is;
      split = e.split.split;
      begins_so = inv.begins number worker.lines e.split.begins_so;
      none_yet = e.split.none_yet;
      room = e.split.room;
    } in
    let here = subst (λ (n : ℕ). IsSplitWorker part t left begins (view old) n worker) (sym inv.so_many) one in
    let more = split_more part t left begins c.args.pass.now old c.split_worker.new.pass all_workers worker inv.split e.rest e.view e.pass here in
    record {
      split = subst (λ (x : List (Worker g.row.S-View.Denot g.row.P-Lines.Denot g.row.A.Denot)). AreSplitWorkers part t left begins c.args.pass.now c.split_worker.new.pass x) (sym c.in-Ok-push.ensures.items) more;
      so_many = ap (λ (x : List (Worker g.row.S-View.Denot g.row.P-Lines.Denot g.row.A.Denot)). length x) c.in-Ok-push.ensures.items ∙ omega (arith, length-append all_workers (worker ∷ []), inv.so_many);
      room = omega (arith, c.in-Ok-push.ensures.capacity, inv.room);
      next = e.next;
      count = e.count ∙ inv.count;
      begins = λ n s h. inv.begins n s (e.others n s h);
    }

pub returns-in_default-clause-refused : goal.returns-in_default-clause-refused
returns-in_default-clause-refused g c =
    let part = g.S.Shared.part in
    let t = (g.S.Shared.store c.args.store.now) in
    let all_workers = c.loop-number.all_workers.items in
    let new = c.join_workers.new.pass in
    let from = λ (p : PassOf g.row.S-View.Denot). AreJoined part t p new (map (λ (w : Worker g.row.S-View.Denot g.row.P-Lines.Denot g.row.A.Denot). w.pass) all_workers) in
    let inv = c.loop-number.invariant.split in
    unused part t (λ (w : Worker g.row.S-View.Denot g.row.P-Lines.Denot g.row.A.Denot). w.pass) c.args.pass.now c.loop-number.pass new all_workers inv.pass_is inv.view_is (λ j d lt. (inv.each j d lt).split)
    (subst from c.in_default.ensures.refused c.join_workers.ensures)
