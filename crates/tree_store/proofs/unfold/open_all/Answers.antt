use Rattle.std.proofs.Common.{arith, ◌≡◌, ◌+◌, ◌*◌, subst, ℕ}
use Rattle.pair_rule.specs.Rest.{view}
use Rattle.tree_store.specs.Vectors.{StandsTo}
use Rattle.tree_store.proofs.Builds.{keeps_last_then}
use Rattle.tree_store.proofs.Opens.{probed_then}
use Rattle.tree_store.proofs.unfold.open_all.Goals as goal

pub loop-p-preserved : goal.loop-p-preserved
loop-p-preserved g c =
    let about = c.args.nodes.now.about in
    let i = c.loop-p.invariant in
    let e = c.open_position.ensures in
    let q = c.open_position.new.pass in
    let next : 2 * c.loop-p.p + 2 ≡ 2 * (c.loop-p.p + 1) = omega arith in
    record {
      rest = e.rest;
      keeps = keeps_last_then c.args.pass.now c.loop-p.pass q i.keeps e.keeps;
      puts_none = probed_then (view c.args.pass.now) (view c.loop-p.pass) (view q) i.puts_none e.puts_none;
      stands = λ v first. subst (λ (n : ℕ). StandsTo about v n (view q).known q.next_tree.items) next (e.stands v (i.stands v first));
    }
