use Rattle.std.proofs.Common.{◌++◌, Ok, Err, codes, decimal}
use Rattle.std.proofs.lemmas.Result.{err_from_is_err_and}
use Rattle.run_check.proofs.AnswerLemmas.{word-front, word-rest}
use Rattle.run_check.proofs.summary.after_count.Goals as goal

pub returns-in_err-named : goal.returns-in_err-named
returns-in_err-named c =
    let p = err_from_is_err_and c.from_residual.result c.from_residual.ensures.1 in
    rw (p.1, p.2) (word-front c.args.text.now (c.args.name.now ++ decimal c.args.count) (codes "\n") c.in_err-named.field-0.0
    (word-front c.args.text.now c.args.name.now (decimal c.args.count) c.in_err-named.field-0.0 c.in_err-named.ensures))

pub returns-in_err-end : goal.returns-in_err-end
returns-in_err-end c =
    let p = err_from_is_err_and c.from_residual-in_err-end.result c.from_residual-in_err-end.ensures.1 in
    rw (p.1, p.2) (word-front c.args.text.now (c.args.name.now ++ decimal c.args.count) (codes "\n") c.in_err-end.field-0.0
    (word-rest c.args.text.now c.args.name.now (decimal c.args.count) c.in_ok-named.named.now (Err c.in_err-end.field-0.0) c.in_ok-named.ensures c.in_err-end.ensures))

pub returns : goal.returns
returns c =
    word-rest c.args.text.now (c.args.name.now ++ decimal c.args.count) (codes "\n") c.in_ok-end.end.now c.after-2.result
    (word-rest c.args.text.now c.args.name.now (decimal c.args.count) c.in_ok-named.named.now (Ok c.in_ok-end.end) c.in_ok-named.ensures c.in_ok-end.ensures) c.after-2.ensures
