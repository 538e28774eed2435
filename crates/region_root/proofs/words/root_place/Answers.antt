use Rattle.std.proofs.Common.{sym, ap, ◌∙◌, ◌<◌, subst, ℕ}
use Rattle.mix_hash.specs.Hash.{mix_of}
use Rattle.mix_hash.specs.Places.{place_of}
use Rattle.mix_hash.specs.declared.Place.{Place}
use Rattle.region_root.specs.Layout.{place, regions}
use Rattle.region_root.specs.Names.{region_below}
use Rattle.region_root.proofs.Tables.{is_compact}
use Rattle.region_root.proofs.words.root_place.Goals as goal

pub returns-clause-same : goal.returns-clause-same
unfolding place
returns-clause-same g c =
    let about = c.args.table.now.about in
    let sizes = c.sizes-sizes.ensures.sizes in
    let width = c.sizes-sizes.ensures.store.width_is in
    c.split.ensures.place ∙ (λ i. place_of (sizes i).roots (sizes i).region (c.mix.ensures.steps i)) ∙ ap (λ (w : ℕ). place_of about.sizes.roots about.sizes.region (mix_of w c.args.pair)) (sym width)

pub returns-clause-region : goal.returns-clause-region
returns-clause-region g c =
    let store = c.args.table.now in
    subst (λ (p : Place). p.region < regions store.about) (sym (returns-clause-same g c)) (region_below store.about c.args.pair (is_compact g.row.W g.row.F store c.sizes-sizes.ensures.store) c.requires)
