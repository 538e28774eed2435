use Rattle.std.proofs.Common.{◌≤◌, ◌+◌, ℕ, List}
use Rattle.cleary_core.specs.Access.{HasReached, Reaches}
use Rattle.cleary_core.specs.Cells.{cell_at, word_count}
use Rattle.cleary_core.proofs.Fronting.{Counted}
use Rattle.cleary_core.proofs.reading.run_front.Given as goal

abbrev pub invariant-loop-start : goal.invariant-loop-start
invariant-loop-start g l = record {
  low : l.start ≤ l.home;
  few : (l.groups + l.start ≤ l.home) × (l.ends + l.start ≤ l.home);
  edge : (l.start ≤ l.edge) × (l.edge ≤ l.home);
  reads : g.A.ReadWords.reads l.initial.access l.access;
  count : g.A.ReadWords.spans l.access (word_count l.sizes);
  counted : (words : List ℕ) → HasReached (g.A.ReadWords.reached l.access) words → Counted (cell_at l.sizes words) l.start l.edge l.groups l.ends l.home;
  near : Reaches (g.A.ReadWords.reached l.initial.access) (g.A.ReadWords.reached l.access) l.sizes l.start l.home;
}

abbrev pub decreases-loop-start : goal.decreases-loop-start
decreases-loop-start g l = l.start
