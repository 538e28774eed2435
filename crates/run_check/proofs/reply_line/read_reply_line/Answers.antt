use Rattle.std.proofs.Common.{◌++◌, codes, decimal}
use Rattle.std.proofs.lemmas.Result.{err_from_is_err_and}
use Rattle.tdb_base.specs.declared.reply.Reply.TheVariants as r
use Rattle.trace_csv.specs.OneReport.{HasWordId}
use Rattle.trace_csv.specs.Report.{answer}
use Rattle.run_check.proofs.AnswerLemmas.{misses-front, reads-rest}
use Rattle.run_check.proofs.reply_line.read_reply_line.Goals as goal

pub returns-in_err-text : goal.returns-in_err-text
returns-in_err-text c =
    let p = err_from_is_err_and c.from_residual.result c.from_residual.ensures.1 in
    rw (p.1, p.2) (misses-front answer HasWordId c.args.text.now (decimal c.args.number ++ codes ",") c.in_err-text.field-0.0 c.in_err-text.ensures r.FullNodes tt)

pub returns : goal.returns
returns c =
    reads-rest answer HasWordId c.args.text.now (decimal c.args.number ++ codes ",") c.in_ok-text.text.now c.read_answer.result c.in_ok-text.ensures c.read_answer.ensures
