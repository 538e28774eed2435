use Rattle.std.proofs.Common.{◌≡◌, ◌≤◌, true, false, arith, rules, sym, length, get_or, below_more}
use Rattle.std.proofs.lemmas.List.Sums.{prefix_len_is}
use Rattle.std.proofs.lemmas.Str.{digit_value_digit}
use Rattle.std.specs.Char.{digit_value, is_ascii_digit}
use Rattle.trace_csv.proofs.FieldLemmas.{digits-step, prefix-past, small-step}
use Rattle.trace_csv.proofs.field.leading_digits.Goals as goal

pub returns-then-not-is_ascii_digit-clause-count : goal.returns-then-not-is_ascii_digit-clause-count
returns-then-not-is_ascii_digit-clause-count c =
    let here : is_ascii_digit (get_or c.args.text.now c.loop-i.i 0) ≡ false = search rules in
    sym (prefix_len_is is_ascii_digit c.args.text.now c.loop-i.i 0 (omega arith) c.loop-i.invariant.digits (λ h. here))

pub returns-then-i-eq10-clause-many : goal.returns-then-i-eq10-clause-many
returns-then-i-eq10-clause-many c =
    let here : is_ascii_digit (get_or c.args.text.now c.loop-i.i 0) ≡ true = search rules in
    let more = prefix-past is_ascii_digit c.args.text.now c.loop-i.i (omega arith) (below_more _ _ c.loop-i.invariant.digits here) in
    omega arith

pub loop-i-preserved : goal.loop-i-preserved
loop-i-preserved c =
    let inv = c.loop-i.invariant in
    let here : is_ascii_digit (get_or c.args.text.now c.loop-i.i 0) ≡ true = search rules in
    let range = c.if-not-is_ascii_digit.ensures.cases in
    let value = digit_value_digit (get_or c.args.text.now c.loop-i.i 0) range in
    let same : c.from.result ≡ digit_value (get_or c.args.text.now c.loop-i.i 0) = omega (arith, c.from.ensures) in
    let few : c.from.result ≤ 9 = omega (arith, c.from.ensures, range.1) in
    record {
      digits = below_more _ _ inv.digits here;
      few = omega arith;
      sum = digits-step c.args.text.now c.loop-i.i c.loop-i.value c.from.result (omega arith) inv.sum same;
      small = small-step c.loop-i.i c.loop-i.value c.from.result inv.small few;
    }

pub returns-clause-count : goal.returns-clause-count
returns-clause-count c =
    sym (prefix_len_is is_ascii_digit c.args.text.now (length c.args.text.now) 0 (omega arith) (λ k h. c.loop-i.invariant.digits k (omega arith)) (λ h. absurd (omega arith)))
