use Rattle.std.proofs.Common.{◌≤◌, ◌-◌, ℕ, List}
use Rattle.cleary_core.specs.Access.{HasReached, Reaches}
use Rattle.cleary_core.specs.Cells.{cell_at, word_count}
use Rattle.cleary_core.specs.Search.{Row}
use Rattle.cleary_core.proofs.reading.run_end.Given as goal

abbrev pub invariant-loop-end : goal.invariant-loop-end
invariant-loop-end g l = record {
  low : l.from ≤ l.end;
  high : l.end ≤ l.sizes.cells;
  reads : g.A.ReadWords.reads l.initial.access l.access;
  count : g.A.ReadWords.spans l.access (word_count l.sizes);
  row : (words : List ℕ) → HasReached (g.A.ReadWords.reached l.access) words → Row (cell_at l.sizes words) l.from l.end;
  near : Reaches (g.A.ReadWords.reached l.initial.access) (g.A.ReadWords.reached l.access) l.sizes l.from l.end;
}

abbrev pub decreases-loop-end : goal.decreases-loop-end
decreases-loop-end g l = l.sizes.cells - l.end
