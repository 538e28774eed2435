use Rattle.std.proofs.Common.{◌≤◌, ◌-◌, ℕ, List}
use Rattle.cleary_core.specs.Access.{HasReached, Reaches}
use Rattle.cleary_core.specs.Cells.{cell_at, word_count}
use Rattle.cleary_core.specs.Map.{Slots}
use Rattle.cleary_core.specs.Search.{InRun, OnTheWay}
use Rattle.cleary_core.proofs.reading.group_place.Given as goal

abbrev pub invariant-loop : goal.invariant-loop
invariant-loop g l = record {
  low : l.from ≤ l.at;
  high : l.at ≤ l.sizes.cells;
  reads : g.A.ReadWords.reads l.initial.access l.access;
  count : g.A.ReadWords.spans l.access (word_count l.sizes);
  passed : (words : List ℕ) (slots : Slots) (start home : ℕ) → HasReached (g.A.ReadWords.reached l.access) words → InRun l.sizes.cells (cell_at l.sizes words) slots start home
      → OnTheWay l.sizes.cells (cell_at l.sizes words) slots start l.from home l.groups → OnTheWay l.sizes.cells (cell_at l.sizes words) slots start l.at home (l.groups - l.counter);
  near : Reaches (g.A.ReadWords.reached l.initial.access) (g.A.ReadWords.reached l.access) l.sizes l.from l.at;
}
