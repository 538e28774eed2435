use Rattle.std.proofs.Common.{◌≡◌, ℕ, ap, sym, subst, ◌∙◌, arith}
use Rattle.std.specs.Prelude.{vec_len}
use Rattle.block_claims.specs.declared.share.Totals.{Totals}
use Rattle.work_run.specs.Drew.{AreDrawnBy, ArePlaced}
use Rattle.work_run.specs.Rooms.{IsRoomFor}
use Rattle.work_run.specs.BlockLines.{block_count}
use Rattle.work_run.proofs.DrawnRun.{drawn_can_work, drawn_rest, drawn_from, drawn_answered, drawn_run}
use Rattle.work_run.proofs.drawn_run.run_drawn_task.Goals as goal

pub work_at_once-requires-clause-ready : goal.work_at_once-requires-clause-ready
work_at_once-requires-clause-ready g c κs within =
    drawn_can_work g.S.Shared.part (g.S.Shared.store c.args.store.now) (g.T.Task.telling c.args.task.now) c.args.trace.now c.len-lines.result c.args.workers c.args.block c.requires.block.0 c.len-lines.ensures.count c.in_ok-claims.claims c.args.pass.now c.split_workers.new.pass c.in_ok-all_workers.all_workers.items c.in_ok-all_workers.all_workers.items c.in_ok-all_workers.ensures.split

pub finish_drawn-drawn-requires-clause-rests : goal.finish_drawn-drawn-requires-clause-rests
finish_drawn-drawn-requires-clause-rests g c κs within =
    drawn_rest g.S.Shared.part (g.S.Shared.store c.args.store.now) (g.T.Task.telling c.args.task.now) c.args.trace.now c.len-lines.result c.args.workers c.args.block c.requires.block.0 c.len-lines.ensures.count c.in_ok-claims.claims c.args.pass.now c.split_workers.new.pass c.in_ok-all_workers.all_workers.items c.work_at_once.new.all_workers.items c.in_ok-all_workers.ensures.split c.work_at_once.ensures.worked c.work_at_once.ensures.all

pub finish_drawn-drawn-requires-clause-drawn : goal.finish_drawn-drawn-requires-clause-drawn
finish_drawn-drawn-requires-clause-drawn g c κs within =
    drawn_from g.S.Shared.part (g.S.Shared.store c.args.store.now) (g.T.Task.telling c.args.task.now) c.args.trace.now c.len-lines.result c.args.workers c.args.block c.requires.block.0 c.len-lines.ensures.count c.in_ok-claims.claims c.args.pass.now c.split_workers.new.pass c.in_ok-all_workers.all_workers.items c.work_at_once.new.all_workers.items c.in_ok-all_workers.ensures.split c.work_at_once.ensures.worked c.work_at_once.ensures.all

pub finish_drawn-drawn-requires-clause-answered : goal.finish_drawn-drawn-requires-clause-answered
finish_drawn-drawn-requires-clause-answered g c κs within =
    drawn_answered g.S.Shared.part (g.S.Shared.store c.args.store.now) (g.T.Task.telling c.args.task.now) c.args.trace.now c.len-lines.result c.args.workers c.args.block c.requires.block.0 c.len-lines.ensures.count c.in_ok-claims.claims c.args.pass.now c.split_workers.new.pass c.in_ok-all_workers.all_workers.items c.work_at_once.new.all_workers.items c.in_ok-all_workers.ensures.split c.work_at_once.ensures.worked c.work_at_once.ensures.all

pub finish_drawn-drawn-requires-clause-all : goal.finish_drawn-drawn-requires-clause-all
finish_drawn-drawn-requires-clause-all g c κs within =
    let after = c.work_at_once.new.all_workers in
    let crew : c.args.workers ≡ vec_len after = omega (arith, after.ok, c.work_at_once.ensures.all, c.in_ok-all_workers.ensures.all) in
    let drawers = ap (λ (t : Totals). t.drawers) c.in_ok-claims.ensures.totals_are in
    sym crew ∙ sym drawers

pub finish_drawn-drawn-requires-clause-some : goal.finish_drawn-drawn-requires-clause-some
finish_drawn-drawn-requires-clause-some g c κs within =
    let after = c.work_at_once.new.all_workers in
    let crew : c.args.workers ≡ vec_len after = omega (arith, after.ok, c.work_at_once.ensures.all, c.in_ok-all_workers.ensures.all) in
    (omega (arith, crew, c.requires.workers.0), omega (arith, crew, c.requires.workers.1))

pub finish_drawn-drawn-requires-clause-blocks : goal.finish_drawn-drawn-requires-clause-blocks
finish_drawn-drawn-requires-clause-blocks g c κs within = ap (λ (t : Totals). t.blocks) c.in_ok-claims.ensures.totals_are

pub finish_drawn-drawn-requires-clause-numbers : goal.finish_drawn-drawn-requires-clause-numbers
finish_drawn-drawn-requires-clause-numbers g c κs within = record {
  some_line = c.len-lines.ensures.some;
  few_lines = omega (arith, c.len-lines.ensures.count, c.requires.lines);
  some_block = c.requires.block.0;
  small_block = c.requires.block.1;
}

pub finish_drawn-drawn-requires-clause-room : goal.finish_drawn-drawn-requires-clause-room
finish_drawn-drawn-requires-clause-room g c κs within =
    let after = c.work_at_once.new.all_workers in
    let crew : c.args.workers ≡ vec_len after = omega (arith, after.ok, c.work_at_once.ensures.all, c.in_ok-all_workers.ensures.all) in
    subst (λ (m : ℕ). IsRoomFor m c.len-lines.result (block_count c.len-lines.result c.args.block) c.in_ok-claims.room) crew c.in_ok-claims.ensures.rooms

pub returns-clause-ran : goal.returns-clause-ran
returns-clause-ran g c =
    let e = c.in_ok-all_workers.ensures in
    let worked = c.work_at_once.ensures in
    let after = c.work_at_once.new.all_workers in
    let told = c.finish_drawn-drawn in
    let drawn = told.result.items in
    let answers = told.new.answers.items in
    let crew : vec_len after ≡ c.args.workers = omega (arith, after.ok, worked.all, e.all) in
    let same = c.len-lines.ensures.count in
    let are = subst (λ (m : ℕ). ArePlaced c.len-lines.result m c.args.block after.items answers drawn) crew told.ensures.placed in
    record {
      drew = subst (λ (n : ℕ). AreDrawnBy n c.args.workers c.args.block drawn) same are.drew;
      ran = drawn_run g.S.Shared.part (g.S.Shared.store c.args.store.now) (g.T.Task.telling c.args.task.now) c.args.trace.now c.len-lines.result c.args.workers c.args.block c.requires.block.0 c.len-lines.ensures.count c.in_ok-claims.claims c.args.pass.now c.split_workers.new.pass c.in_ok-all_workers.all_workers.items after.items e.split worked.worked worked.all
          (g.met.S.Shared g.world.𝓛 g.world.𝓜 g.world.𝓡 ((λ s x. x), (λ x. x), (λ x. x), λ x. x)).refusals told.new.pass answers drawn e.all are told.ensures.joined;
    }
