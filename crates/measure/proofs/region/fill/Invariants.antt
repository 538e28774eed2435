use Rattle.std.proofs.Common.{◌≡◌, List, length}
use Rattle.cleary_core.specs.Cells.{word_count}
use Rattle.cleary_core.specs.Map.{Key, KeepsMap}
use Rattle.measure.proofs.region.fill.Given as goal

abbrev pub invariant-loop : goal.invariant-loop
invariant-loop l = record {
  words : length l.words ≡ word_count l.region;
  kept : (keys : List Key) × KeepsMap l.region l.words keys;
}
