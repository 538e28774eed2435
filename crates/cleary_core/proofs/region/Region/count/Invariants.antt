use Rattle.std.proofs.Common.{◌≡◌, ◌≤◌}
use Rattle.cleary_core.specs.Cells.{cell_at}
use Rattle.cleary_core.specs.Map.{occupied_count}
use Rattle.cleary_core.proofs.region.Region.count.Given as goal

abbrev pub invariant-loop-i : goal.invariant-loop-i
invariant-loop-i g l = record {
  reader : l.access ≡ l.initial.access;
  so_far : l.keys ≡ occupied_count (cell_at l.self l.words) l.i;
  small : l.keys ≤ l.i;
}
