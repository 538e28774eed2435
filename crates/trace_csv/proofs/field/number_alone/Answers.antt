use Rattle.std.proofs.Common.{◌≡◌, length, rules}
use Rattle.trace_csv.proofs.MinusLemmas.{number-alone}
use Rattle.trace_csv.proofs.field.number_alone.Goals as goal

pub returns-then-is_empty : goal.returns-then-is_empty
returns-then-is_empty c =
    let none : length c.in_ok-number.rest.now ≡ 0 = search rules in
    number-alone c.args.form c.args.field.now c.in_ok-number.rest.now c.in_ok-number.number c.in_ok-number.ensures.some none
