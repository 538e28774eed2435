use Rattle.std.proofs.Common.{ap, subst, sym, ◌∙◌, ◌≡◌, ◌+◌, ◌*◌, ◌≤◌, ℕ}
use Rattle.pair_rule.specs.Plays.{first_root}
use Rattle.region_root.specs.Layout.{region_count, regions, region_words, words_each, start}
use Rattle.region_root.proofs.Tables.{first_is, each_is, words_inside}
use Rattle.region_root.proofs.words.region_start.Goals as goal

pub returns-clause-place : goal.returns-clause-place
returns-clause-place g c =
    let store = c.args.table.now in
    let sizes = c.sizes-sizes.ensures.sizes in
    let first = first_is store.about c.sizes-sizes.result.now c.first_word.result sizes c.first_word.ensures.same in
    let many : c.count_regions.result ≡ regions store.about = c.count_regions.ensures.same ∙ ap region_count sizes in
    let each : c.count_words.result ≡ words_each store.about = each_is g.row.W g.row.F store c.sizes-sizes.ensures.store c.count_words.result (c.count_words.ensures.same ∙ ap (region_words g.row.W g.row.F) sizes) in
    λ i. first i + (many i + c.args.region * each i)

pub returns-clause-inside : goal.returns-clause-inside
returns-clause-inside g c =
    let store = c.args.table.now in
    let place : c.first_word.result + (c.count_regions.result + c.args.region * c.count_words.result) ≡ first_root store.about + start store.about c.args.region = returns-clause-place g c in
    subst (λ (n : ℕ). n + words_each store.about ≤ store.table.words) (sym place) (words_inside g.row.W g.row.F store c.sizes-sizes.ensures.store c.args.region c.requires)
