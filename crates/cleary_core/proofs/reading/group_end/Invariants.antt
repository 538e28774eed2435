use Rattle.std.proofs.Common.{◌≤◌, ◌-◌, ℕ, List}
use Rattle.cleary_core.specs.Access.{HasReached, Reaches}
use Rattle.cleary_core.specs.Cells.{cell_at, word_count}
use Rattle.cleary_core.specs.Search.{Unbroken}
use Rattle.cleary_core.proofs.reading.group_end.Given as goal

abbrev pub invariant-loop-at : goal.invariant-loop-at
invariant-loop-at g l = record {
  low : l.from ≤ l.at;
  high : l.at ≤ l.sizes.cells;
  reads : g.A.ReadWords.reads l.initial.access l.access;
  count : g.A.ReadWords.spans l.access (word_count l.sizes);
  row : (words : List ℕ) → HasReached (g.A.ReadWords.reached l.access) words → Unbroken (cell_at l.sizes words) l.from l.at;
  near : Reaches (g.A.ReadWords.reached l.initial.access) (g.A.ReadWords.reached l.access) l.sizes l.from l.at;
}

abbrev pub decreases-loop-at : goal.decreases-loop-at
decreases-loop-at g l = l.sizes.cells - l.at
