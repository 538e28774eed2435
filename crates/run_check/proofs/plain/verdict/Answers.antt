use Rattle.run_check.specs.Sentences.{IsVerdict, IsYesWhereHistory}
use Rattle.run_check.proofs.Verdicts.{if-ok, yes-verdict}
use Rattle.run_check.proofs.plain.verdict.Goals as goal

pub returns-clause-yes : goal.returns-clause-yes
returns-clause-yes c =
    if-ok (IsVerdict c.args.trace.now c.args.replies.now c.args.workers c.args.block)
    (IsYesWhereHistory c.args.trace.now c.args.replies.now c.args.workers c.args.block) c.judged.result c.judged.ensures
    (λ v is count. yes-verdict c.args.trace.now c.args.replies.now c.args.workers c.args.block count c.requires.one_each c.requires.some v is)
