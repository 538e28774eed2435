use Rattle.std.proofs.Common.{◌≡◌, List, length}
use Rattle.cleary_core.specs.Cells.{word_count}
use Rattle.cleary_core.specs.Map.{Key, KeepsMap}
use Rattle.cleary_core.proofs.tests.fills_up.Given as goal

abbrev pub invariant-loop-quotient : goal.invariant-loop-quotient
invariant-loop-quotient g l = record {
  words : length l.words ≡ word_count l.region;
  kept : (keys : List Key) × KeepsMap l.region l.words keys;
}

abbrev pub invariant-loop-quotient-2 : goal.invariant-loop-quotient-2
invariant-loop-quotient-2 g l = record {
  words : length l.words ≡ word_count l.region;
  kept : (keys : List Key) × KeepsMap l.region l.words keys;
}
