use Rattle.std.proofs.Common.{refl, subst, sym, ap, ◌∙◌, ◌≤◌}
use Rattle.pair_rule.specs.declared.sizes.Sizes.{Sizes}
use Rattle.root_plain.proofs.RootPasses.{bucket_small, word_of_bucket, word_inside, acted_rests}
use Rattle.root_plain.proofs.FlagPasses.{read_allowed, read_told}
use Rattle.root_plain.proofs.flag_steps.read_word.Goals as goal

pub root_word-place-requires : goal.root_word-place-requires
root_word-place-requires g c =
    let is = c.requires.rest.seat.is_about in
    (subst (λ (s : Sizes). s.nodes ≤ 25) (sym c.sizes-sizes.ensures.sizes) is.range.most_nodes, bucket_small c.args.table.now.about c.args.at is c.requires.inside)

pub load-requires : goal.load-requires
load-requires g c =
    let t = c.args.table.now in
    let e = c.shared-shared.ensures in
    let here = word_of_bucket t.about c.sizes-sizes.result.now c.args.at c.root_word-place.result c.sizes-sizes.ensures.sizes c.root_word-place.ensures in (
      c.requires.rest.seat.table_is ∙ sym e.table,
      word_inside t.about c.args.at c.root_word-place.result _ c.requires.rest.seat.is_about here c.requires.inside (ap (λ t. t.words) e.table ∙ e.store.words_are),
      read_allowed t c.args.pass.now c.requires.rest c.args.at c.root_word-place.result here c.shared-shared.result.now.key.about _ c.requires.named.0 e.key c.requires.named.1,
    )

pub returns-clause-told : goal.returns-clause-told
returns-clause-told g c =
    let t = c.args.table.now in
    let is = c.shared-shared.ensures.store in
    let here = word_of_bucket t.about c.sizes-sizes.result.now c.args.at c.root_word-place.result c.sizes-sizes.ensures.sizes c.root_word-place.ensures in
    read_told t c.args.pass.now c.requires.rest c.args.at c.root_word-place.result here c.load.new.seat.me.0 g.row.W g.row.F is.width_is is.flags_are c.load.result c.load.ensures.2.1

pub returns-clause-rest : goal.returns-clause-rest
returns-clause-rest g c =
    acted_rests c.args.table.now c.args.pass.now _ _ c.args.at c.requires.named.0 c.requires.rest c.load.ensures.0 c.load.ensures.2.0 refl (
    read_told c.args.table.now c.args.pass.now c.requires.rest c.args.at c.root_word-place.result
    (word_of_bucket c.args.table.now.about c.sizes-sizes.result.now c.args.at c.root_word-place.result c.sizes-sizes.ensures.sizes c.root_word-place.ensures)
    c.load.new.seat.me.0 g.row.W g.row.F c.shared-shared.ensures.store.width_is c.shared-shared.ensures.store.flags_are c.load.result c.load.ensures.2.1 c.requires.named.0 c.requires.named.1) refl refl refl refl refl refl
