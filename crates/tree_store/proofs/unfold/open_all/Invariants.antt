use Rattle.std.specs.Prelude.{◌*◌}
use Rattle.tdb_base.specs.History.{Vector}
use Rattle.pair_rule.specs.Rest.{AtRest, view}
use Rattle.pair_nodes.specs.Probe.{Probed}
use Rattle.tree_store.specs.Vectors.{StandsTo, KeepsLast}
use Rattle.tree_store.proofs.unfold.open_all.Given as goal

abbrev pub invariant-loop-p : goal.invariant-loop-p
invariant-loop-p g l = record {
  rest : AtRest g.R.RootPart.part l.nodes l.pass;
  keeps : KeepsLast l.initial.pass l.pass;
  puts_none : Probed 0 (view l.initial.pass) (view l.pass);
  stands : (v : Vector) → StandsTo l.nodes.about v 4 (view l.initial.pass).known l.initial.pass.next_tree.items → StandsTo l.nodes.about v (2 * l.p) (view l.pass).known l.pass.next_tree.items;
}
