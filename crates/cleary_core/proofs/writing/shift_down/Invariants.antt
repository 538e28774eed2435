use Rattle.std.proofs.Common.{◌≡◌, ◌<◌, ◌≤◌, ◌-◌, ℕ, suc}
use Rattle.cleary_core.specs.Access.{Reaches}
use Rattle.cleary_core.specs.Cells.{cell_at, carried, word_count}
use Rattle.cleary_core.proofs.writing.shift_down.Given as goal

abbrev pub invariant-loop-at : goal.invariant-loop-at
invariant-loop-at g l = record {
  low : l.free ≤ l.at;
  high : l.at ≤ l.place;
  words : g.A.ReadWords.spans l.access (word_count l.sizes);
  writes : g.A.WriteWords.writes l.fn.access l.access;
  virgin : l.virgin ≡ (cell_at l.sizes (g.A.WriteWords.words l.access) l.at).virgin;
  below : (j : ℕ) → j < l.free → cell_at l.sizes (g.A.WriteWords.words l.access) j ≡ cell_at l.sizes (g.A.WriteWords.words l.fn.access) j;
  moved : (j : ℕ) → l.free ≤ j → j < l.at → cell_at l.sizes (g.A.WriteWords.words l.access) j ≡ carried (cell_at l.sizes (g.A.WriteWords.words l.fn.access) j).virgin (cell_at l.sizes (g.A.WriteWords.words l.fn.access) (suc j));
  above : (j : ℕ) → l.at ≤ j → cell_at l.sizes (g.A.WriteWords.words l.access) j ≡ cell_at l.sizes (g.A.WriteWords.words l.fn.access) j;
  near : Reaches (g.A.ReadWords.reached l.fn.access) (g.A.ReadWords.reached l.access) l.sizes l.free (suc l.place);
}

abbrev pub decreases-loop-at : goal.decreases-loop-at
decreases-loop-at g l = l.place - l.at
