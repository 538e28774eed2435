use Rattle.std.proofs.Common.{◌≡◌, ◌-◌, ◌∙◌, Ok, ap, arith, rules, sym, length, vec_len}
use Rattle.std.proofs.lemmas.List.{nil_from_length}
use Rattle.trace_csv.proofs.DirectLemmas.{all-lines, more-lines, one-line}
use Rattle.trace_csv.proofs.direct.read_directly.Goals as goal

pub loop-lines-init : goal.loop-lines-init
loop-lines-init c =
    let size : length c.add_first_line.new.numbers.items ≡ vec_len c.add_first_line.new.numbers = search rules in
    one-line c.args.form c.len-slots.result c.args.bytes.now c.in_ok-rest.rest.now c.new-numbers.result.items c.add_first_line.new.numbers.items
    c.new-numbers.ensures.items c.in_ok-rest.ensures (size ∙ sym c.len-slots.ensures)

pub returns-then-is_empty : goal.returns-then-is_empty
returns-then-is_empty c =
    let none : length c.loop-lines.rest.now ≡ 0 = search rules in
    all-lines c.args.form c.len-slots.result c.loop-lines.lines c.args.bytes.now c.loop-lines.rest.now c.loop-lines.numbers.items
    c.loop-lines.invariant (nil_from_length c.loop-lines.rest.now none) (omega arith) (omega arith)
    ∙ ap (λ t. Ok t) (sym c.of_numbers.ensures)

pub loop-lines-preserved : goal.loop-lines-preserved
loop-lines-preserved c =
    let old : length c.loop-lines.numbers.items ≡ vec_len c.loop-lines.numbers = search rules in
    let new : length c.add_first_line-in-loop-lines.new.numbers.items ≡ vec_len c.add_first_line-in-loop-lines.new.numbers = search rules in
    let grown : length c.add_first_line-in-loop-lines.new.numbers.items - length c.loop-lines.numbers.items ≡ c.len-slots.result =
    omega (arith, c.len.ensures, c.len-before.ensures, c.if-len-before.false) in
    more-lines c.args.form c.len-slots.result c.loop-lines.lines c.args.bytes.now c.loop-lines.rest.now c.in_ok-rest-2.rest.now
    c.loop-lines.numbers.items c.add_first_line-in-loop-lines.new.numbers.items c.loop-lines.invariant c.in_ok-rest-2.ensures grown
