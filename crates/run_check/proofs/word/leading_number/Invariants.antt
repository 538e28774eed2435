use Rattle.std.proofs.Common.{◌≡◌, ◌<◌, ℕ, true, get_or, take}
use Rattle.std.specs.Char.{is_ascii_digit}
use Rattle.std.specs.Str.Parse.{digits_value}
use Rattle.run_check.specs.Reading.{IsCapped}
use Rattle.run_check.proofs.word.leading_number.Given as goal

abbrev pub invariant-loop-i : goal.invariant-loop-i
invariant-loop-i l = record {
  digits : (k : ℕ) → k < l.i → is_ascii_digit (get_or l.text k 0) ≡ true;
  value : IsCapped l.value (digits_value 10 (take l.i l.text));
}
