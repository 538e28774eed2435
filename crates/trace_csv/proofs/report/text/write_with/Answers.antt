use Rattle.std.proofs.Common.{◌≡◌, ◌∙◌, arith, ◌++◌, [], List, ℕ, take, drop, ap, refl, sym, append_assoc}
use Rattle.std.proofs.lemmas.List.{append-nil, take_all}
use Rattle.std.proofs.lemmas.List.Elements.{All-more, All-nil}
use Rattle.trace_csv.specs.OneReport.{HasWordId}
use Rattle.trace_csv.specs.Report.{lines_with, report_with, summary_with}
use Rattle.trace_csv.proofs.OutputLemmas.{on_err}
use Rattle.trace_csv.proofs.PageLemmas.{carries-add, carries-none, carries-room, carries-stop}
use Rattle.trace_csv.proofs.ReportLemmas.{lines-next, lines-none, lines-split}
use Rattle.trace_csv.proofs.report.text.write_with.Goals as goal

pub loop-i-init : goal.loop-i-init
loop-i-init g c = record { carried = rw (lines-none (g.E.AddExtras.extras c.args.extras.now) 0) (carries-none _ _ c.new-page.ensures); fit = All-nil HasWordId; later = omega arith }

pub returns-in_err-make_room-clause-front : goal.returns-in_err-make_room-clause-front
returns-in_err-make_room-clause-front g c =
    let extras = g.E.AddExtras.extras c.args.extras.now in
    let replies = c.args.replies.now in
    let i = c.loop-i.i in
    let end = summary_with extras.counts c.args.summary.now in
    let whole : report_with extras replies c.args.summary.now ≡ lines_with extras 0 (take i replies) ++ (lines_with extras i (drop i replies) ++ end) =
    ap (λ (t : List ℕ). t ++ end) (lines-split extras replies i (omega arith)) ∙ append_assoc (lines_with extras 0 (take i replies)) (lines_with extras i (drop i replies)) end in
    on_err _ _ (carries-stop _ _ _ [] _ _ _ _ c.loop-i.invariant.carried c.in_err-make_room.ensures.front whole)

pub loop-i-preserved : goal.loop-i-preserved
loop-i-preserved g c = record {
  carried = lines-next (g.E.AddExtras.extras c.args.extras.now) _ _ _ c.make_room.new.page c.add_reply.new.page c.args.replies.now c.loop-i.i _ (omega arith)
      (carries-room _ _ _ _ _ _ _ c.loop-i.invariant.carried c.in_ok-make_room.ensures.ok) c.add_reply.ensures.text;
  fit = All-more HasWordId c.args.replies.now c.loop-i.i _ (omega arith) c.loop-i.invariant.fit c.add_reply.ensures.fits;
  later = omega (arith, c.in_ok-make_room.ensures.cause.later);
}

pub returns-in_err-make_room-2-clause-front : goal.returns-in_err-make_room-2-clause-front
returns-in_err-make_room-2-clause-front g c =
    let extras = g.E.AddExtras.extras c.args.extras.now in
    let replies = c.args.replies.now in
    let all : take c.loop-i.i replies ≡ replies = take_all c.loop-i.i replies (omega arith) in
    let carried = rw all at c.loop-i.invariant.carried in
    on_err _ _ (carries-stop _ _ _ [] _ (lines_with extras 0 replies) (summary_with extras.counts c.args.summary.now) (report_with extras replies c.args.summary.now) carried c.in_err-make_room-2.ensures.front refl)

pub returns-in_err-close-clause-front : goal.returns-in_err-close-clause-front
returns-in_err-close-clause-front g c =
    let extras = g.E.AddExtras.extras c.args.extras.now in
    let replies = c.args.replies.now in
    let text = report_with extras replies c.args.summary.now in
    let all : take c.loop-i.i replies ≡ replies = take_all c.loop-i.i replies (omega arith) in
    let carried = rw all at c.loop-i.invariant.carried in
    on_err _ _ (carries-stop _ _ _ [] _ text [] text
    (carries-add _ _ _ c.make_room-2.new.page c.add_summary.new.page _ _ (carries-room _ _ _ _ _ _ _ carried c.in_ok-make_room-2.ensures.ok) c.add_summary.ensures)
    c.in_err-close.ensures.front (sym (append-nil text)))
