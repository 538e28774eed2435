use Rattle.std.proofs.Common.{arith, ◌≡◌, ◌*◌, ◌∙◌, refl, sym, subst, ap, ℕ, set, length, drop, length-set}
use Rattle.pair_rule.specs.Rest.{view}
use Rattle.tree_store.specs.Vectors.{StandsTo}
use Rattle.tree_store.proofs.Inserts.{rests_filled}
use Rattle.tree_store.proofs.Opens.{root_noted, slots_are}
use Rattle.tree_store.proofs.unfold.unfold.Goals as goal

pub open_all-requires : goal.open_all-requires
open_all-requires g c =
    let t = c.args.nodes.now in
    let about = t.about in
    let r = c.requires in
    let p = c.args.pass.now in
    let q = c.note_parts.new.pass in
    let tree = p.next_tree.items in
    let e = c.note_parts.ensures in
    let is = c.slots-slots.ensures.slots ∙ ap (λ u. u.about.slots) c.table.ensures.table in
    let long : length q.next_tree.items ≡ 2 * about.slots = ap (λ l. length l) e.tree ∙ (length-set (set tree 2 c.args.left) 3 c.args.right ∙ (length-set tree 2 c.args.left ∙ r.rest.next_length)) in
    let rest = rests_filled g.R.RootPart.part t p q r.rest e.rest long in
    let v = r.stands.0 in
    let noted = root_noted about about.width v (view p).known tree q.next_tree.items c.args.left c.args.right refl r.parts.1 (omega (arith, r.rest.next_length, r.rest.seat.is_about.range.least_slots)) e.tree r.stands.1 in
    (omega arith, (rest, (is, (v, subst (λ u. StandsTo about v 4 (view u).known q.next_tree.items) (sym e.rest) noted))))

pub returns-clause-vector : goal.returns-clause-vector
returns-clause-vector g c = λ v root long.
    let t = c.args.nodes.now in
    let about = t.about in
    let r = c.requires in
    let p = c.args.pass.now in
    let q = c.note_parts.new.pass in
    let w = c.open_all.new.pass in
    let tree = p.next_tree.items in
    let e = c.note_parts.ensures in
    let o = c.open_all.ensures in
    let is = c.slots-slots.ensures.slots ∙ ap (λ u. u.about.slots) c.table.ensures.table in
    let noted = root_noted about about.width v (view p).known tree q.next_tree.items c.args.left c.args.right refl r.parts.1 (omega (arith, r.rest.next_length, r.rest.seat.is_about.range.least_slots)) e.tree root in
    let whole = o.stands v (subst (λ u. StandsTo about v 4 (view u).known q.next_tree.items) (sym e.rest) noted) in
    let read = subst (λ (k : ℕ). StandsTo about v (2 * k) (view w).known w.next_tree.items) is whole in
    c.copy_slots.ensures ∙ (ap (λ (k : ℕ). drop k w.next_tree.items) is ∙ slots_are about v (view w).known w.next_tree.items c.requires.rest.seat.is_about.range.least_slots o.rest.next_length long read)
