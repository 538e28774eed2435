use Rattle.std.proofs.Common.{◌≡◌, ◌∙◌, ◌++◌, ℕ, Option, None, arith, rules, ap, sym, subst, take}
use Rattle.std.proofs.lemmas.Bool.{both_ways}
use Rattle.std.proofs.lemmas.List.{take_rest}
use Rattle.std.specs.Str.Parse.{digits_value}
use Rattle.run_check.specs.Reading.{IsCapped, number_to}
use Rattle.run_check.proofs.WordLemmas.{big-differs, number-ends, number-whole, padded-differs, stop-differs}
use Rattle.run_check.proofs.word.number.Goals as goal

pub returns-in_default : goal.returns-in_default
returns-in_default c =
    let none : c.leading_number-value.result.0 ≡ None = search rules in
    let big = subst (λ (o : Option ℕ). IsCapped o (digits_value 10 (take c.leading_number-value.result.1 c.args.text.now))) none c.leading_number-value.ensures.value in
    big-differs c.args.text.now c.leading_number-value.result.1 c.args.stop c.leading_number-value.ensures.count c.requires big

pub returns-then-is_padded : goal.returns-then-is_padded
returns-then-is_padded c =
    padded-differs c.args.text.now c.leading_number-value.result.1 c.args.stop c.leading_number-value.ensures.count c.requires (c.is_padded.ensures.0 c.if-is_padded.true)

pub returns-then-is_empty : goal.returns-then-is_empty
returns-then-is_empty c =
    let value = subst (λ (o : Option ℕ). IsCapped o (digits_value 10 (take c.leading_number-value.result.1 c.args.text.now))) c.in-Some.is c.leading_number-value.ensures.value in
    let is = value.0 in
    let fits = value.1 in
    number-ends c.args.text.now c.split_at.result.1.now c.leading_number-value.result.1 c.in-Some.value c.args.stop c.leading_number-value.ensures.count
    (λ padded. both_ways c.is_padded.result c.if-is_padded.false (c.is_padded.ensures.1 padded)) value.0 (omega arith) c.split_at.ensures.back (search rules)

pub returns-then-count-eq0 : goal.returns-then-count-eq0
returns-then-count-eq0 c =
    let none = c.if-count-eq0.true in
    stop-differs c.args.text.now c.leading_number-value.result.1 c.args.stop c.leading_number-value.ensures.count c.requires c.split_at.result.1.now c.split_at.ensures.back
    (search rules) (λ both. let some = both.0 in omega arith)

pub returns-then-rest-stop : goal.returns-then-rest-stop
returns-then-rest-stop c =
    stop-differs c.args.text.now c.leading_number-value.result.1 c.args.stop c.leading_number-value.ensures.count c.requires c.split_at.result.1.now c.split_at.ensures.back
    (search rules) (λ both. c.if-rest-stop.true both.1)

pub returns : goal.returns
returns c =
    let value = subst (λ (o : Option ℕ). IsCapped o (digits_value 10 (take c.leading_number-value.result.1 c.args.text.now))) c.in-Some.is c.leading_number-value.ensures.value in
    let is = value.0 in
    let fits = value.1 in (
      omega arith,
      number-whole c.args.text.now c.split_at.result.1.now c.leading_number-value.result.1 c.in-Some.value c.args.stop c.leading_number-value.ensures.count
          (omega arith) (λ padded. both_ways c.is_padded.result c.if-is_padded.false (c.is_padded.ensures.1 padded)) value.0 (omega arith) c.split_at.ensures.back (search rules) c.if-rest-stop.false
          ∙ sym (ap (λ t. number_to c.args.stop c.in-Some.value ++ t) (take_rest c.split_at.result.1.now 1)),
    )
