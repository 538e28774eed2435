use Rattle.std.proofs.Common.{◌++◌, ◌∷◌, List, [], length, ap, ◌∙◌, arith, rules, sym}
use Rattle.std.proofs.lemmas.List.{length-map}
use Rattle.work_run.specs.BlockLines.{blocks_of}
use Rattle.work_run.proofs.WhoDrew.{alike_more, images_more}
use Rattle.work_run.proofs.drew.part_from_drawers.Goals as goal

pub loop-worker-preserved : goal.loop-worker-preserved
loop-worker-preserved g c =
    let inv = c.loop-worker.invariant in
    let xs = c.loop-worker.yielded in
    let worker = c.in-Some.worker in
    let rest = c.loop-worker.rest.items in
    let pushed = c.in-Ok.ensures in
    let drawer = c.in-Ok-push.ensures in
    let passes = alike_more (λ w. w.pass) (λ w. w.pass) rest _ xs _ worker pushed.items inv.passes (search rules) in
    let drawers = images_more (λ w. w.lines.drawer) c.loop-worker.drawers.items _ xs _ worker drawer.items inv.drawers (search rules) in
    record {
      passes = passes;
      answers = alike_more (λ w. w.answers.items) (λ w. w.answers.items) rest _ xs _ worker pushed.items inv.answers (search rules);
      blocks = alike_more (λ w. w.lines.items) (λ w. blocks_of w.lines) rest _ xs _ worker pushed.items inv.blocks (search rules);
      drawers = drawers;
      count = (
        sym (length-map c.push.new.self.items (λ w. w.pass)) ∙ (ap (λ (l : List _). length l) passes ∙ length-map (xs ++ worker ∷ []) (λ w. w.pass)),
        ap (λ (l : List _). length l) drawers ∙ length-map (xs ++ worker ∷ []) (λ w. w.lines.drawer),
      );
      room = omega arith;
      drawers_room = omega arith;
    }
