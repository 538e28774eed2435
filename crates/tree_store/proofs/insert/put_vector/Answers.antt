use Rattle.std.proofs.Common.{arith, ◌≡◌, ◌*◌, ◌∙◌, ap, sym, subst, ℕ, drop, length}
use Rattle.tdb_base.specs.History.{Vector}
use Rattle.pair_rule.specs.Rest.{AtRest, view}
use Rattle.tree_store.specs.Vectors.{IsVector, slots_of, StandsFrom, compared, puts_after, raised, RaisedWithin, Building, Refused}
use Rattle.tree_store.specs.Store.{RootIsAnswered}
use Rattle.tree_store.proofs.Builds.{ticked_more}
use Rattle.tree_store.proofs.Inserts.{leaves_stand, rests_filled, as_filled, answered, last_kept, ticked_root}
use Rattle.tree_store.proofs.Never.{inside_never_named, root_never_named}
use Rattle.tree_store.proofs.insert.put_vector.Goals as goal

pub put_nodes-requires : goal.put_nodes-requires
put_nodes-requires g c =
    let part = g.D.Part.RootPart.part in
    let store = c.args.nodes.now in
    let about = store.about in
    let q = c.fill_slots.new.pass in
    let is = c.slots.ensures.value ∙ c.requires.shape in
    let e = c.fill_slots.ensures in
    let vector : slots_of about q.next_tree.items ≡ c.args.vector.now = subst (λ (k : ℕ). drop k q.next_tree.items ≡ c.args.vector.now) is e.slots in
    let long = subst (λ (k : ℕ). length q.next_tree.items ≡ 2 * k) is e.length in (
      omega arith,
      (
        rests_filled part store c.args.pass.now q c.requires.rest e.tree long,
        (
          c.requires.shape,
          (
            subst (λ (l : Vector). IsVector about l) (sym vector) c.requires.vector,
            subst (λ (k : ℕ). StandsFrom about (slots_of about q.next_tree.items) k (view q).known q.next_tree.items) (sym c.requires.shape) (leaves_stand about (view q).known q.next_tree.items),
          ),
        ),
      ),
    )

pub returns-in_default-clause-answered : goal.returns-in_default-clause-answered
returns-in_default-clause-answered g c =
    let store = c.args.nodes.now in
    let about = store.about in
    let p = c.args.pass.now in
    let v = c.args.vector.now in
    let f = c.fill_slots.ensures in
    let q = c.fill_slots.new.pass in
    let now = c.put_nodes.new.pass in
    let e = c.in_default.ensures in
    let vector : slots_of about q.next_tree.items ≡ v = subst (λ (k : ℕ). drop k q.next_tree.items ≡ v) (c.slots.ensures.value ∙ c.requires.shape) f.slots in
    let refused = as_filled about v c.args.from_last p q (λ last l u. Refused about l (puts_after about last l) u (view now)) f.tree vector e.full in
    record {
      refused = refused;
      no_look = refused.grown.root;
      last_stays = last_kept p now (ap (λ x. x.has_last) e.keeps ∙ ap (λ x. x.has_last) f.tree) (ap (λ x. x.last_tree) e.keeps ∙ ap (λ x. x.last_tree) f.tree) refused.grown.about;
      for_good = inside_never_named g.D.Part.RootPart.part store now v refused.blocked;
    }

pub returns-in_default-clause-ticks : goal.returns-in_default-clause-ticks
returns-in_default-clause-ticks g c =
    let about = c.args.nodes.now.about in
    let v = c.args.vector.now in
    let f = c.fill_slots.ensures in
    let q = c.fill_slots.new.pass in
    let vector : slots_of about q.next_tree.items ≡ v = subst (λ (k : ℕ). drop k q.next_tree.items ≡ v) (c.slots.ensures.value ∙ c.requires.shape) f.slots in
    as_filled about v c.args.from_last c.args.pass.now q (λ last l u. RaisedWithin (puts_after about last l) (g.L.Ledger.count c.args.steps.now) (g.L.Ledger.count c.put_nodes.new.steps)) f.tree vector c.in_default.ensures.full_ticks

pub put_tree_root-requires : goal.put_tree_root-requires
put_tree_root-requires g c =
    let store = c.args.nodes.now in
    let about = store.about in
    let f = c.fill_slots.ensures in
    let q = c.fill_slots.new.pass in
    let now = c.put_nodes.new.pass in
    let e = c.in-Ok.ensures in
    let filled : slots_of about q.next_tree.items ≡ c.args.vector.now = subst (λ (k : ℕ). drop k q.next_tree.items ≡ c.args.vector.now) (c.slots.ensures.value ∙ c.requires.shape) f.slots in
    let vector = subst (λ (l : Vector). IsVector about l) (sym (e.vector ∙ filled)) c.requires.vector in
    let stands = subst (λ (l : Vector). StandsFrom about l 2 (view now).known now.next_tree.items) (sym e.vector) e.stands in
    rw c.requires.roots (record { rest = e.rest; vector = vector; stands = stands })

pub returns-clause-rest : goal.returns-clause-rest
returns-clause-rest g c = subst (λ s. AtRest g.D.Part.RootPart.part s c.put_tree_root.new.pass) c.requires.roots c.put_tree_root.ensures.rest

pub returns-clause-answered : goal.returns-clause-answered
returns-clause-answered g c =
    let part = g.D.Part.RootPart.part in
    let store = c.args.nodes.now in
    let about = store.about in
    let p = c.args.pass.now in
    let v = c.args.vector.now in
    let f = c.fill_slots.ensures in
    let q = c.fill_slots.new.pass in
    let n = c.put_nodes.new.pass in
    let w = c.put_tree_root.new.pass in
    let e = c.in-Ok.ensures in
    let vector : slots_of about q.next_tree.items ≡ v = subst (λ (k : ℕ). drop k q.next_tree.items ≡ v) (c.slots.ensures.value ∙ c.requires.shape) f.slots in
    let built = as_filled about v c.args.from_last p q (λ last l u. Building about l (puts_after about last l) u (view n)) f.tree vector e.put in
    let after = subst (λ s. AtRest part s w) c.requires.roots c.put_tree_root.ensures.rest in
    let answer = subst (λ s. RootIsAnswered part s (slots_of s.about n.next_tree.items) c.put_tree_root.result n w) c.requires.roots c.put_tree_root.ensures.answered in
    answered part store (compared c.args.from_last p) v p n w e.rest after built (e.vector ∙ vector) (ap (λ x. x.has_last) e.keeps ∙ ap (λ x. x.has_last) f.tree) (ap (λ x. x.last_tree) e.keeps ∙ ap (λ x. x.last_tree) f.tree)
    (λ b. root_never_named part g.met.D.RootTable.refusals store w v after b) c.put_tree_root.result answer

pub returns-clause-ticks : goal.returns-clause-ticks
returns-clause-ticks g c =
    let part = g.D.Part.RootPart.part in
    let store = c.args.nodes.now in
    let about = store.about in
    let v = c.args.vector.now in
    let f = c.fill_slots.ensures in
    let q = c.fill_slots.new.pass in
    let n = c.put_nodes.new.pass in
    let w = c.put_tree_root.new.pass in
    let vector : slots_of about q.next_tree.items ≡ v = subst (λ (k : ℕ). drop k q.next_tree.items ≡ v) (c.slots.ensures.value ∙ c.requires.shape) f.slots in
    let puts = puts_after about (compared c.args.from_last c.args.pass.now) v in
    let before = as_filled about v c.args.from_last c.args.pass.now q (λ last l u. g.L.Ledger.count c.put_nodes.new.steps ≡ raised (puts_after about last l) (g.L.Ledger.count c.args.steps.now)) f.tree vector c.in-Ok.ensures.ticks in
    let answer = subst (λ s. RootIsAnswered part s (slots_of s.about n.next_tree.items) c.put_tree_root.result n w) c.requires.roots c.put_tree_root.ensures.answered in
    ticked_root part store (slots_of about n.next_tree.items) c.put_tree_root.result n w puts _ _ answer (ticked_more puts _ _ _ before c.put_tree_root.ensures.tick)
