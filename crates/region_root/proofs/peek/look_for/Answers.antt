use Rattle.std.proofs.Common.{arith, rules, sym, ap, ◌∙◌, ◌+◌, ◌<◌, subst, ℕ}
use Rattle.pair_rule.specs.Plays.{first_root}
use Rattle.mix_hash.specs.declared.Place.{Place}
use Rattle.region_root.specs.Layout.{regions, start}
use Rattle.region_root.specs.Work.{CanRead}
use Rattle.region_root.specs.Told.{FindsRoot}
use Rattle.region_root.specs.declared.root.Regions.{Regions}
use Rattle.pair_rule.specs.declared.pass.PassOf.{PassOf}
use Rattle.region_root.proofs.Keys.{home_inside, words_of, finds_root}
use Rattle.region_root.proofs.Tables.{is_compact}
use Rattle.region_root.specs.Names.{region_below}
use Rattle.region_root.proofs.peek.look_for.Goals as goal

pub find_in-requires : goal.find_in-requires
find_in-requires g c =
    let store = c.args.table.now in
    let about = store.about in
    let is = is_compact g.row.W g.row.F store c.region_at-region.ensures.store in
    let r = c.requires.reader in
    let z = c.region_at-region.ensures.cells in
    let inside = subst (λ (p : Place). p.region < regions store.about) (sym c.requires.root.1) (region_below store.about c.args.pair is c.requires.root.0) in
    let can : CanRead g.row.W g.row.F store c.region_at-region.result.1 c.args.pass.now _ = record {
      all = words_of about c.region_at-region.result.0 z;
      rest = c.requires.rest;
      reader = (r.0, r.1, subst (λ (k : ℕ). k < regions about) (sym r.2) inside, c.region_at-region.ensures.begins ∙ ap (λ (k : ℕ). first_root about + start about k) (sym r.2));
    } in
    (omega arith, (can, home_inside about is c.args.pair c.requires.root.0 c.region_at-region.result.0 z c.args.at.now c.requires.root.1))

pub returns-clause-finds : goal.returns-clause-finds
returns-clause-finds g c =
    let store = c.args.table.now in
    let is = is_compact g.row.W g.row.F store c.region_at-region.ensures.store in
    let z = c.region_at-region.ensures.cells in
    subst (λ (q : PassOf Regions). FindsRoot store.about c.args.pair q c.find_in.result) {x = c.find_in.new.access.pass.now} (search rules)
    (finds_root store.about is c.args.pair c.requires.root.0 c.region_at-region.result.0 z c.args.at.now c.requires.root.1 c.find_in.new.access.pass.now c.find_in.result
    (λ words keys long agrees kept. c.find_in.ensures.decided words keys long (λ i m h. agrees i m h) kept))
