use Rattle.std.proofs.Common.{arith, refl, ◌≡◌, ◌≢◌, ◌+◌, ◌-◌, ◌≤◌, List, drop, length, get_or, subst, sym, ap, ◌∙◌, ℕ}
use Rattle.tree_shape.specs.Tree.{Stands}
use Rattle.tree_shape.proofs.Trees.{stands_more}
use Rattle.tdb_base.specs.History.{Vector}
use Rattle.pair_rule.specs.Rest.{view}
use Rattle.tree_store.specs.Vectors.{slots_of, StandsFrom, Building, raised, marks_from, NoneMarked, IsBlockedInside, KeepsLast}
use Rattle.tree_store.proofs.Builds.{keep_stands, ticked_more, built_none, built_then, refused_then, keeps_last_then}
use Rattle.tree_store.proofs.Inserts.{rests_filled}
use Rattle.tree_store.proofs.Marks.{marks_later}
use Rattle.tree_shape.specs.Changed.{IsMarked}
use Rattle.tree_store.proofs.TakenOver.{same_after, marks_end, mark_counts, none_counted, one_counted}
use Rattle.tree_store.proofs.marked.put_marked.Goals as goal

pub loop-p-init : goal.loop-p-init
loop-p-init g c =
    let store = c.args.nodes.now in
    let about = store.about in
    let p = c.args.pass.now in
    let q = c.take_inner.new.pass in
    let r = c.requires in
    let e = c.take_inner.ensures in
    let k = r.slots in
    let tree = e.tree in
    let known = ap (λ x. (view x).known) tree in
    let marks = p.marks.items in
    let vector : slots_of about q.next_tree.items ≡ slots_of about p.next_tree.items = subst (λ (n : ℕ). drop n q.next_tree.items ≡ drop n p.next_tree.items) k e.taken.slots_stay in
    let none : marks_from c.args.slots marks ≡ 0 = marks_end marks c.args.slots (omega (arith, k, r.rest.marks_length)) in
    record {
      rest = rests_filled g.R.RootPart.part store p q r.rest tree (omega (arith, e.taken.long, k));
      low = omega (arith, r.rest.seat.is_about.range.least_slots, k);
      high = omega arith;
      keeps = subst (λ x. KeepsLast p x) (sym tree) refl;
      marks = ap (λ x. x.marks) tree;
      vector = vector;
      stands = λ position low high. subst (λ (x : List (ℕ × ℕ) × ℕ). Stands about.width about.slots x.0 (slots_of about p.next_tree.items) position x.1)
          (λ i. (sym known i, sym (same_after c.args.slots q.next_tree.items p.next_tree.items e.taken.slots_stay position low) i)) (r.leaves position low high);
      kept = λ position low high unmarked.
          let inner = e.taken.inner position low high in
          let old = r.rest.last r.last position low (omega (arith, high, k)) in
          let here = keep_stands about (view p).known p.last_tree.items p.next_tree.items position (get_or p.last_tree.items position 0) low (omega (arith, high, k)) r.rest.last_length r.rest.next_length (r.marks position low (omega (arith, high, k)) unmarked) old in
          subst (λ (x : List (ℕ × ℕ) × ℕ). Stands about.width about.slots x.0 (slots_of about p.next_tree.items) position x.1) (λ i. (sym known i, sym inner i)) here;
      put = subst (λ (n : ℕ). Building about (slots_of about p.next_tree.items) n (view p) (view q)) (sym none)
          (subst (λ w. Building about (slots_of about p.next_tree.items) 0 (view p) w) (sym (ap view tree)) (built_none about (slots_of about p.next_tree.items) (view p)));
      ticks = ap (λ (n : ℕ). raised n (g.L.Ledger.count c.args.steps.now)) (sym none);
    }

pub returns-in_default-put_position-clause-full : goal.returns-in_default-put_position-clause-full
returns-in_default-put_position-clause-full g c =
    let about = c.args.nodes.now.about in
    let p = c.args.pass.now in
    let vec = slots_of about p.next_tree.items in
    let marks = p.marks.items in
    let i = c.loop-p.invariant in
    let m = c.in-Some.ensures in
    let e = c.in_default-put_position.ensures in
    let end = c.loop-p.end in
    let position = c.in-Some.p in
    let long : end ≤ length marks = omega (arith, i.high, c.requires.slots, c.requires.rest.marks_length) in
    let count = one_counted marks position end m.before long (mark_counts marks position (subst (λ l. IsMarked l.items position) i.marks m.marked)) (subst (λ l. NoneMarked l.items (position + 1) end) i.marks m.none_later) in
    let later = marks_later marks (position - 2) 2 position (omega (arith, m.inner)) (omega (arith, m.before, i.high, c.requires.slots, c.requires.rest.marks_length)) in
    let blocked = subst (λ (v : Vector). IsBlockedInside about (view c.put_position.new.pass).known v) i.vector e.full in
    refused_then about vec (marks_from end marks) (marks_from 2 marks) (view p) (view c.loop-p.pass) (view c.put_position.new.pass) (omega (arith, count, later)) i.put e.full_puts_none blocked

pub returns-in_default-put_position-clause-full_ticks : goal.returns-in_default-put_position-clause-full_ticks
returns-in_default-put_position-clause-full_ticks g c =
    let marks = c.args.pass.now.marks.items in
    let i = c.loop-p.invariant in
    let m = c.in-Some.ensures in
    let e = c.in_default-put_position.ensures in
    let end = c.loop-p.end in
    let position = c.in-Some.p in
    let long : end ≤ length marks = omega (arith, i.high, c.requires.slots, c.requires.rest.marks_length) in
    let count = one_counted marks position end m.before long (mark_counts marks position (subst (λ l. IsMarked l.items position) i.marks m.marked)) (subst (λ l. NoneMarked l.items (position + 1) end) i.marks m.none_later) in
    let later = marks_later marks (position - 2) 2 position (omega (arith, m.inner)) (omega (arith, m.before, i.high, c.requires.slots, c.requires.rest.marks_length)) in
    (marks_from end marks + 1, omega (arith, count, later), ticked_more (marks_from end marks) _ _ _ i.ticks e.tick)

pub loop-p-preserved : goal.loop-p-preserved
loop-p-preserved g c =
    let about = c.args.nodes.now.about in
    let p = c.args.pass.now in
    let q = c.loop-p.pass in
    let w = c.put_position.new.pass in
    let vec = slots_of about p.next_tree.items in
    let marks = p.marks.items in
    let i = c.loop-p.invariant in
    let m = c.in-Some.ensures in
    let e = c.in-Ok.ensures in
    let end = c.loop-p.end in
    let position = c.in-Some.p in
    let long : end ≤ length marks = omega (arith, i.high, c.requires.slots, c.requires.rest.marks_length) in
    let count = one_counted marks position end m.before long (mark_counts marks position (subst (λ l. IsMarked l.items position) i.marks m.marked)) (subst (λ l. NoneMarked l.items (position + 1) end) i.marks m.none_later) in
    let put = subst (λ (v : Vector). Building about v 1 (view q) (view w)) i.vector e.put in
    record {
      rest = e.rest;
      low = m.inner;
      high = omega (arith, m.before, i.high);
      keeps = keeps_last_then p q w i.keeps e.keeps;
      marks = e.marks ∙ i.marks;
      vector = e.vector ∙ i.vector;
      stands = subst (λ (v : Vector). StandsFrom about v position (view w).known w.next_tree.items) i.vector e.stands;
      kept = λ k low high unmarked.
          let apart : k ≢ position = λ same. absurd (omega (arith, same, high)) in
          subst (λ (x : ℕ). Stands about.width about.slots (view w).known vec k x) (sym (e.others k apart))
          (stands_more about.width about.slots (view q).known (view w).known vec k (get_or q.next_tree.items k 0) put.grown.known (i.kept k low (omega (arith, high, m.before)) unmarked));
      put = subst (λ (n : ℕ). Building about vec n (view p) (view w)) (sym count) (built_then about vec (marks_from end marks) 1 (view p) (view q) (view w) i.put put);
      ticks = ticked_more (marks_from end marks) _ _ _ i.ticks e.tick ∙ ap (λ (n : ℕ). raised n (g.L.Ledger.count c.args.steps.now)) (sym count);
    }

pub returns-clause-put : goal.returns-clause-put
returns-clause-put g c =
    let about = c.args.nodes.now.about in
    let p = c.args.pass.now in
    let marks = p.marks.items in
    let i = c.loop-p.invariant in
    let end = c.loop-p.end in
    let long : end ≤ length marks = omega (arith, i.high, c.requires.slots, c.requires.rest.marks_length) in
    let count = none_counted marks (end - 2) 2 end (omega (arith, i.low)) long (subst (λ l. NoneMarked l.items 2 end) i.marks c.in_default.ensures) in
    subst (λ (n : ℕ). Building about (slots_of about p.next_tree.items) n (view p) (view c.loop-p.pass)) (sym count) i.put

pub returns-clause-ticks : goal.returns-clause-ticks
returns-clause-ticks g c =
    let marks = c.args.pass.now.marks.items in
    let i = c.loop-p.invariant in
    let end = c.loop-p.end in
    let long : end ≤ length marks = omega (arith, i.high, c.requires.slots, c.requires.rest.marks_length) in
    let count = none_counted marks (end - 2) 2 end (omega (arith, i.low)) long (subst (λ l. NoneMarked l.items 2 end) i.marks c.in_default.ensures) in
    i.ticks ∙ ap (λ (n : ℕ). raised n (g.L.Ledger.count c.args.steps.now)) (sym count)
