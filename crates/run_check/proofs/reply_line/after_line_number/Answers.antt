use Rattle.std.proofs.Common.{codes, decimal}
use Rattle.std.proofs.lemmas.Result.{err_from_is_err_and}
use Rattle.run_check.proofs.AnswerLemmas.{word-front, word-rest}
use Rattle.run_check.proofs.reply_line.after_line_number.Goals as goal

pub returns-in_err-text : goal.returns-in_err-text
returns-in_err-text c =
    let p = err_from_is_err_and c.from_residual.result c.from_residual.ensures.1 in
    rw (p.1, p.2) (word-front c.args.text.now (decimal c.args.number) (codes ",") c.in_err-text.field-0.0 c.in_err-text.ensures)

pub returns : goal.returns
returns c = word-rest c.args.text.now (decimal c.args.number) (codes ",") c.in_ok-text.text.now c.after.result c.in_ok-text.ensures c.after.ensures
