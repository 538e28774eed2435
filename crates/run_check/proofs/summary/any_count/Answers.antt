use Rattle.std.proofs.Common.{◌++◌, ◌∷◌, [], arith, decimal, append_assoc}
use Rattle.std.proofs.lemmas.Result.{err_from_is_err_and}
use Rattle.trace_csv.specs.Report.{named_line}
use Rattle.run_check.specs.Reading.{IsReplyWord, number_to}
use Rattle.run_check.proofs.AnswerLemmas.{misses-front, misses-same, reads-rest, reads-same}
use Rattle.run_check.proofs.summary.any_count.Goals as goal

pub returns-in_err-named : goal.returns-in_err-named
returns-in_err-named c =
    let p = err_from_is_err_and c.from_residual.result c.from_residual.ensures.1 in
    rw (p.1, p.2) (misses-same (λ n. c.args.name.now ++ number_to 10 n) (named_line c.args.name.now) IsReplyWord c.args.text.now c.in_err-named.field-0.0
    (λ n. append_assoc c.args.name.now (decimal n) (10 ∷ []))
    (misses-front (number_to 10) IsReplyWord c.args.text.now c.args.name.now c.in_err-named.field-0.0 c.in_err-named.ensures 0 (omega arith)))

pub returns : goal.returns
returns c =
    reads-same (λ n. c.args.name.now ++ number_to 10 n) (named_line c.args.name.now) IsReplyWord c.args.text.now c.number.result
    (λ n. append_assoc c.args.name.now (decimal n) (10 ∷ []))
    (reads-rest (number_to 10) IsReplyWord c.args.text.now c.args.name.now c.in_ok-named.named.now c.number.result c.in_ok-named.ensures c.number.ensures)
