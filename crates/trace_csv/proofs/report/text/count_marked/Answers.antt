use Rattle.std.proofs.Common.{◌+◌, sym, ◌∙◌, arith}
use Rattle.trace_csv.proofs.MarkLemmas.{marked-more, one-at-most}
use Rattle.trace_csv.proofs.report.text.count_marked.Goals as goal

pub loop-i-preserved : goal.loop-i-preserved
loop-i-preserved c =
    let inv = c.loop-i.invariant in
    let more = marked-more c.args.replies.now c.args.firsts.now c.loop-i.i _ _ c.loop-i-test.true c.requires in
    let one = c.count_mark-marked.ensures in
    let few = one-at-most _ _ one in
    record {
      counted = (λ k. inv.counted k + one k) ∙ sym more;
      few = (let before = inv.few in omega (arith, before, few));
    }
