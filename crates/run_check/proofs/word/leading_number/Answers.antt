use Rattle.std.proofs.Common.{◌≡◌, ◌-◌, refl, true, false, arith, rules, sym, length, get_or, below_more}
use Rattle.std.proofs.lemmas.List.Sums.{prefix_len_is}
use Rattle.std.specs.Char.{is_ascii_digit}
use Rattle.run_check.proofs.WordLemmas.{capped-more}
use Rattle.run_check.proofs.word.leading_number.Goals as goal

pub returns-then-not-is_ascii_digit-clause-count : goal.returns-then-not-is_ascii_digit-clause-count
returns-then-not-is_ascii_digit-clause-count c =
    let here : is_ascii_digit (get_or c.args.text.now c.loop-i.i 0) ≡ false = search rules in
    sym (prefix_len_is is_ascii_digit c.args.text.now c.loop-i.i 0 (omega arith) c.loop-i.invariant.digits (λ h. here))

pub loop-i-preserved : goal.loop-i-preserved
loop-i-preserved c =
    let here : is_ascii_digit (get_or c.args.text.now c.loop-i.i 0) ≡ true = search rules in
    record {
      digits = below_more _ _ c.loop-i.invariant.digits here;
      value = capped-more c.args.text.now c.loop-i.i (get_or c.args.text.now c.loop-i.i 0 - 48) c.loop-i.value c.with_digit-value.result (omega arith) here refl
          c.loop-i.invariant.value c.with_digit-value.ensures;
    }

pub returns-clause-count : goal.returns-clause-count
returns-clause-count c =
    sym (prefix_len_is is_ascii_digit c.args.text.now (length c.args.text.now) 0 (omega arith) (λ k h. c.loop-i.invariant.digits k (omega arith)) (λ h. absurd (omega arith)))
