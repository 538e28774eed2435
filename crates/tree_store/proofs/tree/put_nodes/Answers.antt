use Rattle.std.proofs.Common.{◌≡◌, ◌∙◌, sym, subst, ℕ, IfOk, OnErr, drop}
use Rattle.tree_shape.specs.Changed.{IsChanged, marked_count, changed_count}
use Rattle.pair_rule.specs.Rest.{view}
use Rattle.tree_store.specs.Vectors.{slots_of, Building, Refused, raised, RaisedWithin, marks_from, compared, puts_after}
use Rattle.tree_store.proofs.Marks.{puts_marked}
use Rattle.tree_store.proofs.tree.put_nodes.Goals as goal

pub returns-then-pass-clause-put : goal.returns-then-pass-clause-put
returns-then-pass-clause-put g c =
    let about = c.args.nodes.now.about in
    let p = c.args.pass.now in
    let v = slots_of about p.next_tree.items in
    let marks = c.mark_changes.new.pass.marks.items in
    let e = c.mark_changes.ensures in
    let puts : puts_after about (compared c.args.from_last p) v ≡ marks_from 2 marks = puts_marked about p v c.args.from_last marks c.if-from_last.true c.if-pass.true c.requires.rest.seat.about_is c.requires.rest.seat.is_about.range.least_slots
    (e.marks ∙ c.requires.shape) (λ position h. subst (λ (k : ℕ). IsChanged k (drop k p.last_tree.items) (drop k p.next_tree.items) position) c.requires.shape ((e.marked position).0 h)) (subst (λ (k : ℕ). marked_count marks ≡ changed_count k (drop k p.last_tree.items) (drop k p.next_tree.items)) c.requires.shape e.count) in
    let here = subst (λ q. IfOk c.put_marked.result (λ done. Building about (slots_of about q.next_tree.items) (marks_from 2 marks) (view q) (view c.put_marked.new.pass))) e.rest c.put_marked.ensures.put in
    subst (λ (n : ℕ). IfOk c.put_marked.result (λ done. Building about v n (view p) (view c.put_marked.new.pass))) (sym puts) here

pub returns-then-pass-clause-ticks : goal.returns-then-pass-clause-ticks
returns-then-pass-clause-ticks g c =
    let about = c.args.nodes.now.about in
    let p = c.args.pass.now in
    let v = slots_of about p.next_tree.items in
    let marks = c.mark_changes.new.pass.marks.items in
    let e = c.mark_changes.ensures in
    let puts : puts_after about (compared c.args.from_last p) v ≡ marks_from 2 marks = puts_marked about p v c.args.from_last marks c.if-from_last.true c.if-pass.true c.requires.rest.seat.about_is c.requires.rest.seat.is_about.range.least_slots
    (e.marks ∙ c.requires.shape) (λ position h. subst (λ (k : ℕ). IsChanged k (drop k p.last_tree.items) (drop k p.next_tree.items) position) c.requires.shape ((e.marked position).0 h)) (subst (λ (k : ℕ). marked_count marks ≡ changed_count k (drop k p.last_tree.items) (drop k p.next_tree.items)) c.requires.shape e.count) in
    subst (λ (n : ℕ). IfOk c.put_marked.result (λ done. g.L.Ledger.count c.put_marked.new.steps ≡ raised n (g.L.Ledger.count c.args.steps.now))) (sym puts) c.put_marked.ensures.ticks

pub returns-then-pass-clause-full : goal.returns-then-pass-clause-full
returns-then-pass-clause-full g c =
    let about = c.args.nodes.now.about in
    let p = c.args.pass.now in
    let v = slots_of about p.next_tree.items in
    let marks = c.mark_changes.new.pass.marks.items in
    let e = c.mark_changes.ensures in
    let puts : puts_after about (compared c.args.from_last p) v ≡ marks_from 2 marks = puts_marked about p v c.args.from_last marks c.if-from_last.true c.if-pass.true c.requires.rest.seat.about_is c.requires.rest.seat.is_about.range.least_slots
    (e.marks ∙ c.requires.shape) (λ position h. subst (λ (k : ℕ). IsChanged k (drop k p.last_tree.items) (drop k p.next_tree.items) position) c.requires.shape ((e.marked position).0 h)) (subst (λ (k : ℕ). marked_count marks ≡ changed_count k (drop k p.last_tree.items) (drop k p.next_tree.items)) c.requires.shape e.count) in
    let here = subst (λ q. OnErr c.put_marked.result (Refused about (slots_of about q.next_tree.items) (marks_from 2 marks) (view q) (view c.put_marked.new.pass))) e.rest c.put_marked.ensures.full in
    subst (λ (n : ℕ). OnErr c.put_marked.result (Refused about v n (view p) (view c.put_marked.new.pass))) (sym puts) here

pub returns-then-pass-clause-full_ticks : goal.returns-then-pass-clause-full_ticks
returns-then-pass-clause-full_ticks g c =
    let about = c.args.nodes.now.about in
    let p = c.args.pass.now in
    let v = slots_of about p.next_tree.items in
    let marks = c.mark_changes.new.pass.marks.items in
    let e = c.mark_changes.ensures in
    let puts : puts_after about (compared c.args.from_last p) v ≡ marks_from 2 marks = puts_marked about p v c.args.from_last marks c.if-from_last.true c.if-pass.true c.requires.rest.seat.about_is c.requires.rest.seat.is_about.range.least_slots
    (e.marks ∙ c.requires.shape) (λ position h. subst (λ (k : ℕ). IsChanged k (drop k p.last_tree.items) (drop k p.next_tree.items) position) c.requires.shape ((e.marked position).0 h)) (subst (λ (k : ℕ). marked_count marks ≡ changed_count k (drop k p.last_tree.items) (drop k p.next_tree.items)) c.requires.shape e.count) in
    subst (λ (n : ℕ). OnErr c.put_marked.result (RaisedWithin n (g.L.Ledger.count c.args.steps.now) (g.L.Ledger.count c.put_marked.new.steps))) (sym puts) c.put_marked.ensures.full_ticks
