use Rattle.std.proofs.Common.{arith, ◌≡◌, ◌≤◌, sym}
use Rattle.std.specs.Str.Parse.{digits_value, without_leading_plus}
use Rattle.command_line.proofs.ReadLemmas.{number-in, number-out}
use Rattle.command_line.proofs.reading.number_in.Goals as goal
use Rattle.command_line.proofs.reading.number_in.Goals.{else-low-number-via-then-low-number+else-number-high, else-low-number-via-else-low-number}

pub returns-in_default-clause-value : goal.returns-in_default-clause-value
returns-in_default-clause-value c =
    sym (number-out c.args.low c.args.high c.args.text.now (λ h. c.in_default.ensures.value.0 (h.0, h.1)))

pub returns-then-number-high-clause-value : goal.returns-then-number-high-clause-value
returns-then-number-high-clause-value c =
    let read = c.in-Ok.ensures.value.0 in
    let value : c.in-Ok.number ≡ digits_value 10 (without_leading_plus c.args.text.now) = cc read.1 in
    let low : c.args.low ≤ digits_value 10 (without_leading_plus c.args.text.now) = omega arith in
    let high : digits_value 10 (without_leading_plus c.args.text.now) ≤ c.args.high = omega arith in
    sym (number-in c.args.low c.args.high c.in-Ok.number c.args.text.now (read.0.0, read.0.1, low, high) (sym value))

pub returns-clause-value : goal.returns-clause-value
returns-clause-value c =
    let read = c.in-Ok.ensures.value.0 in
    let value : c.in-Ok.number ≡ digits_value 10 (without_leading_plus c.args.text.now) = cc read.1 in
    sym (number-out c.args.low c.args.high c.args.text.now (λ h.
    let low : c.args.low ≤ digits_value 10 (without_leading_plus c.args.text.now) = h.2 in
    let high : digits_value 10 (without_leading_plus c.args.text.now) ≤ c.args.high = h.3 in
    elim c.else-low-number.branch [
      | else-low-number-via-then-low-number+else-number-high w ↦ omega arith
      | else-low-number-via-else-low-number w ↦ omega arith
    ]))
