use Rattle.std.proofs.Common.{arith, rules, sym, ap, ◌∙◌, ◌+◌, subst, ℕ, List}
use Rattle.pair_rule.specs.Plays.{first_root}
use Rattle.pair_rule.specs.Rest.{view}
use Rattle.region_root.specs.declared.root.Holding.{Holding}
use Rattle.region_root.specs.declared.root.Regions.{Regions}
use Rattle.pair_rule.specs.declared.pass.PassOf.{PassOf}
use Rattle.region_root.specs.Layout.{start, KeepsRoots}
use Rattle.region_root.specs.Maps.{InRegion}
use Rattle.region_root.specs.Work.{held_words, CanWrite, Added}
use Rattle.region_root.specs.Reached.{held_is}
use Rattle.region_root.proofs.Catching.{head_of}
use Rattle.region_root.proofs.Keys.{home_inside, quotient_inside, added_at, kept_keys, words_of}
use Rattle.region_root.proofs.Tables.{is_compact}
use Rattle.region_root.proofs.held.add_root.Goals as goal

pub insert_in-requires : goal.insert_in-requires
insert_in-requires g c =
    let store = c.args.table.now in
    let about = store.about in
    let is = is_compact g.row.W g.row.F store c.region_at-region.ensures.store in
    let w = c.requires.work in
    let z = c.region_at-region.ensures.cells in
    let copy = held_is c.args.pass.now w.0 w.1.held in
    let can : CanWrite g.row.W g.row.F store c.region_at-region.result.1 c.args.pass.now _ = record {
      all = words_of about c.region_at-region.result.0 z;
      hold = w.0;
      work = w.1;
      begins = c.region_at-region.ensures.begins ∙ ap (λ (k : ℕ). first_root about + start about k) (sym w.2);
    } in (
      omega arith,
      (
        can,
        (
          home_inside about is c.args.pair c.requires.root.0 c.region_at-region.result.0 z c.args.at.now c.requires.root.1,
          (
            quotient_inside about is c.args.pair c.requires.root.0 c.region_at-region.result.0 z c.args.at.now c.requires.root.1,
            kept_keys about c.region_at-region.result.0 z (held_words c.args.pass.now) w.0.base (subst (λ (l : List ℕ). KeepsRoots about l w.0.base) (sym copy) w.3),
          ),
        ),
      ),
    )

pub returns-clause-added : goal.returns-clause-added
returns-clause-added g c = λ h held.
    let store = c.args.table.now in
    let about = store.about in
    let is = is_compact g.row.W g.row.F store c.region_at-region.ensures.store in
    let w = c.requires.work in
    let z = c.region_at-region.ensures.cells in
    let one = head_of w.0 h (view c.args.pass.now).root.held w.1.held held in
    let copy = held_is c.args.pass.now w.0 w.1.held in
    let keeps = subst (λ (l : List ℕ). KeepsRoots about l w.0.base) (sym copy) w.3 in
    let inside = subst (λ (k : ℕ). InRegion about k w.0.base) w.2 w.1.inside in
    let added = added_at about is c.args.pair c.requires.root.0 c.region_at-region.result.0 z c.args.at.now c.requires.root.1 w.0.base inside c.insert_in.result (held_words c.args.pass.now) (held_words c.insert_in.new.access.pass.now) keeps c.insert_in.ensures.answer in
    subst (λ (q : PassOf Regions). Added about c.args.pair c.insert_in.result h.base (held_words q)) {x = c.insert_in.new.access.pass.now} {y = c.pass-1.given.0} (search rules)
    (subst (λ (u : Holding). Added about c.args.pair c.insert_in.result u.base (held_words c.insert_in.new.access.pass.now)) one added)
