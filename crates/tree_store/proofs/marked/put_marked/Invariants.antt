use Rattle.std.specs.Prelude.{◌≡◌, ◌≤◌, ◌<◌, ℕ, slice_index}
use Rattle.tree_shape.specs.Tree.{Stands}
use Rattle.tree_shape.specs.Changed.{IsMarked}
use Rattle.pair_rule.specs.Rest.{AtRest, view}
use Rattle.tree_store.specs.Vectors.{slots_of, StandsFrom, Building, raised, marks_from, KeepsLast}
use Rattle.tree_store.proofs.marked.put_marked.Given as goal

abbrev pub invariant-loop-p : goal.invariant-loop-p
invariant-loop-p g l = record {
  rest : AtRest g.R.RootPart.part l.nodes l.pass;
  low : 2 ≤ l.end;
  high : l.end ≤ l.slots;
  keeps : KeepsLast l.fn.pass l.pass;
  marks : l.pass.marks ≡ l.fn.pass.marks;
  vector : slots_of l.nodes.about l.pass.next_tree.items ≡ slots_of l.nodes.about l.fn.pass.next_tree.items;
  stands : StandsFrom l.nodes.about (slots_of l.nodes.about l.fn.pass.next_tree.items) l.end (view l.pass).known l.pass.next_tree.items;
  kept : (q : ℕ) → 2 ≤ q → q < l.end → (IsMarked l.fn.pass.marks.items q → ⊥)
      → Stands l.nodes.about.width l.nodes.about.slots (view l.pass).known (slots_of l.nodes.about l.fn.pass.next_tree.items) q (slice_index l.pass.next_tree.items q);
  put : Building l.nodes.about (slots_of l.nodes.about l.fn.pass.next_tree.items) (marks_from l.end l.fn.pass.marks.items) (view l.fn.pass) (view l.pass);
  ticks : g.L.Ledger.count l.steps ≡ raised (marks_from l.end l.fn.pass.marks.items) (g.L.Ledger.count l.fn.steps);
}

abbrev pub decreases-loop-p : goal.decreases-loop-p
decreases-loop-p g l = l.end
