use Rattle.std.proofs.Common.{◌≡◌, ◌∙◌, Some, ap, arith, drop, sym}
use Rattle.trace_csv.specs.Fields.{after_spaces}
use Rattle.trace_csv.proofs.MinusLemmas.{no-number, number-then-spaces, number-torn-off}
use Rattle.trace_csv.proofs.field.number_among_spaces.Goals as goal

pub returns-in_default : goal.returns-in_default
returns-in_default c =
    let text : c.split_at.result.1.now ≡ after_spaces c.args.field.now = c.split_at.ensures.back ∙ ap (λ n. drop n c.args.field.now) c.leading_spaces.ensures.count in
    sym (no-number c.args.form c.args.field.now c.split_at.result.1.now text c.in_default.ensures.none)

pub returns-then-leading_spaces-rest : goal.returns-then-leading_spaces-rest
returns-then-leading_spaces-rest c =
    let text : c.split_at.result.1.now ≡ after_spaces c.args.field.now = c.split_at.ensures.back ∙ ap (λ n. drop n c.args.field.now) c.leading_spaces.ensures.count in
    sym (number-torn-off c.args.form c.args.field.now c.split_at.result.1.now c.in-Some.rest.now c.in-Some.number c.leading_spaces-2.result text
    c.in-Some.ensures.some c.leading_spaces-2.ensures.count c.if-leading_spaces-rest.true)

pub returns : goal.returns
returns c =
    let text : c.split_at.result.1.now ≡ after_spaces c.args.field.now = c.split_at.ensures.back ∙ ap (λ n. drop n c.args.field.now) c.leading_spaces.ensures.count in
    number-then-spaces c.args.form c.args.field.now c.split_at.result.1.now c.in-Some.rest.now c.in-Some.number c.leading_spaces-2.result text
    c.in-Some.ensures.some c.leading_spaces-2.ensures.count c.if-leading_spaces-rest.false
