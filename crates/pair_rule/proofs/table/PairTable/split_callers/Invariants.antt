use Rattle.std.specs.Prelude.{◌≡◌, ◌≤◌, length, vec_capacity}
use Rattle.pair_rule.specs.Callers.{AreSplitCallers}
use Rattle.pair_rule.proofs.table.PairTable.split_callers.Given as goal

abbrev pub invariant-loop-number : goal.invariant-loop-number
invariant-loop-number g l = record {
  split : AreSplitCallers g.R.RootPart.part l.self l.fn.kept l.fn.pass l.pass l.callers.items;
  so_many : length l.callers.items ≡ l.number;
  room : l.count ≤ vec_capacity l.callers;
  same : l.kept ≡ l.fn.kept;
}
