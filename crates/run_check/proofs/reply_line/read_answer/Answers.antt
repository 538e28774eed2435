use Rattle.std.proofs.Common.{◌∷◌, [], drop}
use Rattle.std.proofs.lemmas.Bool.{both_ways}
use Rattle.std.proofs.lemmas.Bool.Decides.{Decides-eqb}
use Rattle.std.proofs.lemmas.Result.{err_from_is_err_and}
use Rattle.std.proofs.lemmas.Slice.Eq.{starts_is}
use Rattle.run_check.proofs.AnswerLemmas.{full-misses, named-misses, number-misses}
use Rattle.run_check.proofs.reply_line.read_answer.Goals as goal

pub returns-in_err-nodes : goal.returns-in_err-nodes
returns-in_err-nodes c =
    let begins = (starts_is Decides-eqb c.args.text.now (44 ∷ []) c.starts_with.result c.starts_with.ensures.value).0 c.if-starts_with.true in
    let p = err_from_is_err_and c.from_residual.result c.from_residual.ensures.1 in
    rw (p.1, p.2) (full-misses c.args.text.now (drop 1 c.args.text.now) c.in_err-nodes.field-0.0 begins c.in_err-nodes.ensures)

pub returns-in_err-id : goal.returns-in_err-id
returns-in_err-id c =
    let p = err_from_is_err_and c.from_residual-in_err-id.result c.from_residual-in_err-id.ensures.1 in
    rw (p.1, p.2) (number-misses c.args.text.now c.in_err-id.field-0.0
    (λ rest e. both_ways c.starts_with.result c.if-starts_with.false
    ((starts_is Decides-eqb c.args.text.now (44 ∷ []) c.starts_with.result c.starts_with.ensures.value).1 rest e))
    c.in_err-id.ensures)

pub returns-in_err-new : goal.returns-in_err-new
returns-in_err-new c =
    let p = err_from_is_err_and c.from_residual-in_err-new.result c.from_residual-in_err-new.ensures.1 in
    rw (p.1, p.2) (named-misses c.args.text.now c.in_ok-id.text.now c.in_ok-id.id c.in_err-new.field-0.0 c.in_ok-id.ensures.0 c.in_ok-id.ensures.1 c.in_err-new.ensures)
