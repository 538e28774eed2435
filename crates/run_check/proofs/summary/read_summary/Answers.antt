use Rattle.std.proofs.Common.{arith, rules}
use Rattle.std.proofs.lemmas.Result.{err_from_is_err_and}
use Rattle.run_check.proofs.ChainLemmas.{distinct-refused, end-refused, lines-refused, nodes-refused, raw-refused, stored-refused, summary-long}
use Rattle.run_check.proofs.summary.read_summary.Goals as goal

pub returns-in_err-counts-clause-wrong : goal.returns-in_err-counts-clause-wrong
returns-in_err-counts-clause-wrong c =
    let p = err_from_is_err_and c.from_residual.result c.from_residual.ensures.1 in
    rw (p.1, p.2) (λ bytes replies count new fit whole.
    lines-refused c.args.lines c.args.distinct (omega arith) (omega arith) bytes c.args.text.now replies count new fit whole
    c.in_err-counts.field-0.0 c.in_err-counts.ensures.0 c.in_err-counts.ensures.1 c.in_err-counts.ensures.2)

pub returns-in_err-stats-clause-wrong : goal.returns-in_err-stats-clause-wrong
returns-in_err-stats-clause-wrong c =
    let p = err_from_is_err_and c.from_residual-in_err-stats.result c.from_residual-in_err-stats.ensures.1 in
    rw (p.1, p.2) (λ bytes replies count new fit whole.
    distinct-refused c.args.lines c.args.distinct (omega arith) (omega arith) bytes c.args.text.now replies count new fit whole
    c.in_ok-counts.counts.now c.in_ok-counts.ensures
    c.in_err-stats.field-0.0 c.in_err-stats.ensures.0 c.in_err-stats.ensures.1 c.in_err-stats.ensures.2)

pub returns-in_err-stored-clause-wrong : goal.returns-in_err-stored-clause-wrong
returns-in_err-stored-clause-wrong c =
    let p = err_from_is_err_and c.from_residual-in_err-stored.result c.from_residual-in_err-stored.ensures.1 in
    rw (p.1, p.2) (λ bytes replies count new fit whole.
    nodes-refused c.args.lines c.args.distinct (omega arith) (omega arith) bytes c.args.text.now replies count new fit whole
    c.in_ok-counts.counts.now c.in_ok-counts.ensures c.in_ok-stats.stats.now c.in_ok-stats.ensures
    (search rules) c.in_err-stored.field-0.0 c.in_err-stored.ensures.0 c.in_err-stored.ensures.1 c.in_err-stored.ensures.2)

pub returns-in_err-raw-clause-wrong : goal.returns-in_err-raw-clause-wrong
returns-in_err-raw-clause-wrong c =
    let p = err_from_is_err_and c.from_residual-in_err-raw.result c.from_residual-in_err-raw.ensures.1 in
    rw (p.1, p.2) (λ bytes replies count new fit whole.
    stored-refused c.args.lines c.args.distinct (omega arith) (omega arith) bytes c.args.text.now replies count new fit whole
    c.in_ok-counts.counts.now c.in_ok-counts.ensures c.in_ok-stats.stats.now c.in_ok-stats.ensures c.in_ok-stored.field-0-0 c.in_ok-stored.stored.now c.in_ok-stored.ensures.0 c.in_ok-stored.ensures.1
    c.in_err-raw.field-0.0 c.in_err-raw.ensures.0 c.in_err-raw.ensures.1 c.in_err-raw.ensures.2)

pub returns-in_err-end-clause-wrong : goal.returns-in_err-end-clause-wrong
returns-in_err-end-clause-wrong c =
    let p = err_from_is_err_and c.from_residual-in_err-end.result c.from_residual-in_err-end.ensures.1 in
    rw (p.1, p.2) (λ bytes replies count new fit whole.
    raw-refused c.args.lines c.args.distinct (omega arith) (omega arith) bytes c.args.text.now replies count new fit whole
    c.in_ok-counts.counts.now c.in_ok-counts.ensures c.in_ok-stats.stats.now c.in_ok-stats.ensures c.in_ok-stored.field-0-0 c.in_ok-stored.stored.now c.in_ok-stored.ensures.0 c.in_ok-stored.ensures.1 c.in_ok-raw.field-0-0 c.in_ok-raw.raw.now c.in_ok-raw.ensures.0 c.in_ok-raw.ensures.1
    c.in_err-end.field-0.0 c.in_err-end.ensures.0 c.in_err-end.ensures.1 c.in_err-end.ensures.2)

pub returns-then-is_empty-2-clause-read : goal.returns-then-is_empty-2-clause-read
returns-then-is_empty-2-clause-read c =
    summary-long c.args.lines c.args.distinct c.in_ok-stored.field-0-0 c.in_ok-raw.field-0-0 c.in_ok-end.field-0-0 c.args.text.now c.in_ok-counts.counts.now c.in_ok-stats.stats.now
    c.in_ok-stored.stored.now c.in_ok-raw.raw.now c.in_ok-end.end.now c.in_ok-stored.ensures.0 c.in_ok-raw.ensures.0 c.in_ok-end.ensures.0
    c.in_ok-counts.ensures c.in_ok-stats.ensures c.in_ok-stored.ensures.1 c.in_ok-raw.ensures.1 c.in_ok-end.ensures.1 (search rules)

pub returns-clause-wrong : goal.returns-clause-wrong
returns-clause-wrong c = λ bytes replies count new fit whole.
    end-refused c.args.lines c.args.distinct (omega arith) (omega arith) bytes c.args.text.now replies count new fit whole
    c.in_ok-counts.counts.now c.in_ok-counts.ensures c.in_ok-stats.stats.now c.in_ok-stats.ensures c.in_ok-stored.field-0-0 c.in_ok-stored.stored.now c.in_ok-stored.ensures.0 c.in_ok-stored.ensures.1
    c.in_ok-raw.field-0-0 c.in_ok-raw.raw.now c.in_ok-raw.ensures.0 c.in_ok-raw.ensures.1 c.in_ok-end.field-0-0 c.in_ok-end.end.now c.in_ok-end.ensures.0 c.in_ok-end.ensures.1 (search rules)
