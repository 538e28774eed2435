use Rattle.std.proofs.Common.{arith, ◌≡◌, ◌+◌, ◌-◌, sym, subst, ap, refl, ◌∙◌, ℕ}
use Rattle.tdb_base.specs.History.{Vector}
use Rattle.pair_rule.specs.Rest.{view}
use Rattle.tree_store.specs.Vectors.{slots_of, StandsFrom, Building, raised, IsBlockedInside}
use Rattle.tree_store.proofs.Builds.{ticked_more, built_none, built_then, refused_then, keeps_last_then}
use Rattle.tree_store.proofs.tree.put_all.Goals as goal

pub loop-i-init : goal.loop-i-init
loop-i-init g c =
    let about = c.args.nodes.now.about in
    let vec = slots_of about c.args.pass.now.next_tree.items in
    let start : (c.args.slots + 2) - 2 ≡ c.args.slots = omega arith in
    record {
      rest = c.requires.rest;
      keeps = refl;
      vector = refl;
      stands = subst (λ (n : ℕ). StandsFrom about vec n (view c.args.pass.now).known c.args.pass.now.next_tree.items) (sym start) c.requires.leaves;
      put = built_none about vec (view c.args.pass.now);
      ticks = refl;
    }

pub returns-in_default-clause-full : goal.returns-in_default-clause-full
returns-in_default-clause-full g c =
    let about = c.args.nodes.now.about in
    let vec = slots_of about c.args.pass.now.next_tree.items in
    let i = c.loop-i.invariant in
    let e = c.in_default.ensures in
    let blocked = subst (λ (v : Vector). IsBlockedInside about (view c.put_position.new.pass).known v) i.vector e.full in
    refused_then about vec (c.loop-i.i - 2) (c.args.slots - 2) (view c.args.pass.now) (view c.loop-i.pass) (view c.put_position.new.pass) (omega arith) i.put e.full_puts_none blocked

pub returns-in_default-clause-full_ticks : goal.returns-in_default-clause-full_ticks
returns-in_default-clause-full_ticks g c =
    let i = c.loop-i.invariant in
    ((c.loop-i.i - 2) + 1, omega arith, ticked_more (c.loop-i.i - 2) _ _ _ i.ticks c.in_default.ensures.tick)

pub loop-i-preserved : goal.loop-i-preserved
loop-i-preserved g c =
    let about = c.args.nodes.now.about in
    let vec = slots_of about c.args.pass.now.next_tree.items in
    let i = c.loop-i.invariant in
    let e = c.in-Ok.ensures in
    let w = view c.put_position.new.pass in
    let next : (c.args.slots + 1) - c.loop-i.i ≡ (c.args.slots + 2) - (c.loop-i.i + 1) = omega arith in
    let one : (c.loop-i.i - 2) + 1 ≡ (c.loop-i.i + 1) - 2 = omega arith in
    let stands = subst (λ (v : Vector). StandsFrom about v ((c.args.slots + 1) - c.loop-i.i) w.known c.put_position.new.pass.next_tree.items) i.vector e.stands in
    let put = subst (λ (v : Vector). Building about v 1 (view c.loop-i.pass) w) i.vector e.put in
    record {
      rest = e.rest;
      keeps = keeps_last_then c.args.pass.now c.loop-i.pass c.put_position.new.pass i.keeps e.keeps;
      vector = e.vector ∙ i.vector;
      stands = subst (λ (n : ℕ). StandsFrom about vec n w.known c.put_position.new.pass.next_tree.items) next stands;
      put = subst (λ (n : ℕ). Building about vec n (view c.args.pass.now) w) one (built_then about vec (c.loop-i.i - 2) 1 (view c.args.pass.now) (view c.loop-i.pass) w i.put put);
      ticks = ticked_more (c.loop-i.i - 2) _ _ _ i.ticks e.tick ∙ ap (λ (n : ℕ). raised n (g.L.Ledger.count c.args.steps.now)) one;
    }
