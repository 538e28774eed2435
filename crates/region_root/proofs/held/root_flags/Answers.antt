use Rattle.std.proofs.Common.{arith, sym, ap, ◌∙◌, get_or, ◌≡◌, ◌<◌, ◌^◌, subst, ℕ, List}
use Rattle.tree_shape.specs.Tree.{Has}
use Rattle.pair_rule.specs.Rest.{view}
use Rattle.region_root.specs.declared.root.Holding.{Holding}
use Rattle.region_root.specs.Layout.{KeepsRoots}
use Rattle.region_root.specs.Reached.{held_is, words_long}
use Rattle.region_root.specs.Work.{held_words}
use Rattle.region_root.proofs.Catching.{head_of}
use Rattle.region_root.proofs.Keys.{home_inside}
use Rattle.region_root.proofs.Tables.{is_compact}
use Rattle.region_root.proofs.Writing.{can_write, flags_told}
use Rattle.region_root.proofs.held.root_flags.Goals as goal

pub flags_in-requires : goal.flags_in-requires
flags_in-requires g c =
    let store = c.args.table.now in
    let is = is_compact g.row.W g.row.F store c.region_at-region.ensures.store in
    let w = c.requires.work in
    let z = c.region_at-region.ensures.cells in
    (omega arith, (can_write g.row.W g.row.F store c.args.pass.now w.0 c.region_at-region.result.0 c.args.at.now.region c.region_at-region.result.1 z w.1 w.2 c.region_at-region.ensures.begins, home_inside store.about is c.args.pair c.requires.root.0 c.region_at-region.result.0 z c.args.at.now c.requires.root.1))

pub returns-clause-flags : goal.returns-clause-flags
returns-clause-flags g c = λ h held.
    let store = c.args.table.now in
    let about = store.about in
    let is = is_compact g.row.W g.row.F store c.region_at-region.ensures.store in
    let w = c.requires.work in
    let z = c.region_at-region.ensures.cells in
    let long = words_long g.row.W g.row.F store c.region_at-region.result.1 c.args.pass.now _ (can_write g.row.W g.row.F store c.args.pass.now w.0 c.region_at-region.result.0 c.args.at.now.region c.region_at-region.result.1 z w.1 w.2 c.region_at-region.ensures.begins) in
    let one = head_of w.0 h (view c.args.pass.now).root.held w.1.held held in
    let keeps = subst (λ (l : List ℕ). KeepsRoots about l w.0.base) (sym (held_is c.args.pass.now w.0 w.1.held)) w.3 in
    subst (λ (u : Holding). (f : ℕ) → Has (c.args.pair, f) u.base → (c.flags_in.result ≡ f) × (f < 2 ^ about.flags)) one
    (flags_told about is c.args.pair c.requires.root.0 c.region_at-region.result.0 z c.args.at.now c.requires.root.1 (held_words c.args.pass.now) w.0.base keeps c.flags_in.result (λ keys kept. c.flags_in.ensures.decided (held_words c.args.pass.now) keys long (λ i m h. sym (ap (λ p. get_or (held_words p) i 0) c.flags_in.ensures.reads.3) ∙ h) kept))
