use Rattle.std.proofs.Common.{arith, rules, sym, ◌<◌, ◌^◌, subst, ℕ, List}
use Rattle.pair_rule.specs.Rest.{view}
use Rattle.region_root.specs.declared.root.Holding.{Holding}
use Rattle.region_root.specs.declared.root.Regions.{Regions}
use Rattle.pair_rule.specs.declared.pass.PassOf.{PassOf}
use Rattle.mix_hash.specs.declared.Place.{Place}
use Rattle.cleary_core.specs.declared.cells.Sizes.{Sizes}
use Rattle.region_root.specs.Layout.{KeepsRoots}
use Rattle.region_root.specs.Maps.{InRegion, with_flag_set}
use Rattle.region_root.specs.Reached.{held_is}
use Rattle.region_root.specs.Work.{held_words}
use Rattle.region_root.proofs.Catching.{head_of}
use Rattle.region_root.proofs.Keys.{home_inside, kept_keys}
use Rattle.region_root.proofs.Tables.{is_compact}
use Rattle.region_root.proofs.Writing.{can_write, flagged_kept}
use Rattle.region_root.proofs.held.set_root_flags.Goals as goal

pub set_flags_in-requires : goal.set_flags_in-requires
set_flags_in-requires g c =
    let store = c.args.table.now in
    let about = store.about in
    let is = is_compact g.row.W g.row.F store c.region_at-region.ensures.store in
    let w = c.requires.work in
    let z = c.region_at-region.ensures.cells in
    let keeps = subst (λ (l : List ℕ). KeepsRoots about l w.0.base) (sym (held_is c.args.pass.now w.0 w.1.held)) w.3 in
    let small = subst (λ (y : Sizes). c.args.value < 2 ^ y.flags) (sym z) c.requires.value in (
      omega arith,
      (
        can_write g.row.W g.row.F store c.args.pass.now w.0 c.region_at-region.result.0 c.args.at.now.region c.region_at-region.result.1 z w.1 w.2 c.region_at-region.ensures.begins,
        (home_inside store.about is c.args.pair c.requires.root.0 c.region_at-region.result.0 z c.args.at.now c.requires.root.1, (small, kept_keys about c.region_at-region.result.0 z (held_words c.args.pass.now) w.0.base keeps)),
      ),
    )

pub returns-clause-flagged : goal.returns-clause-flagged
returns-clause-flagged g c = λ h held.
    let store = c.args.table.now in
    let about = store.about in
    let is = is_compact g.row.W g.row.F store c.region_at-region.ensures.store in
    let w = c.requires.work in
    let z = c.region_at-region.ensures.cells in
    let one = head_of w.0 h (view c.args.pass.now).root.held w.1.held held in
    let keeps = subst (λ (l : List ℕ). KeepsRoots about l w.0.base) (sym (held_is c.args.pass.now w.0 w.1.held)) w.3 in
    let inside = subst (λ (p : Place). InRegion about p.region w.0.base) c.requires.root.1 (subst (λ (k : ℕ). InRegion about k w.0.base) w.2 w.1.inside) in
    subst (λ (q : PassOf Regions). KeepsRoots about (held_words q) (with_flag_set c.args.pair c.args.value h.base)) {x = c.set_flags_in.new.access.pass.now} {y = c.pass-1.given.0} (search rules)
    (subst (λ (u : Holding). KeepsRoots about (held_words c.set_flags_in.new.access.pass.now) (with_flag_set c.args.pair c.args.value u.base)) one
    (flagged_kept about is c.args.pair c.requires.root.0 c.region_at-region.result.0 z c.args.at.now c.requires.root.1 (held_words c.args.pass.now) w.0.base keeps c.args.value (held_words c.set_flags_in.new.access.pass.now) inside c.set_flags_in.ensures.flagged))
