use Rattle.std.proofs.Common.{refl, subst, sym, ap, ◌∙◌, ◌+◌, ◌*◌, ◌^◌, ◌<◌, ◌≤◌, ℕ}
use Rattle.std.specs.Int.{bit_not, w64}
use Rattle.pair_rule.specs.declared.sizes.Sizes.{Sizes}
use Rattle.root_plain.proofs.RootPasses.{bucket_small, word_of_bucket, word_inside, acted_rests}
use Rattle.root_plain.proofs.FlagPasses.{clear_allowed, clear_told}
use Rattle.root_plain.proofs.flag_steps.clear_in_word.Goals as goal

pub root_word-place-requires : goal.root_word-place-requires
root_word-place-requires g c =
    let is = c.requires.rest.seat.is_about in
    (subst (λ (s : Sizes). s.nodes ≤ 25) (sym c.sizes-sizes.ensures.sizes) is.range.most_nodes, bucket_small c.args.table.now.about c.args.at is c.requires.inside)

pub fetch_and-requires : goal.fetch_and-requires
fetch_and-requires g c =
    let t = c.args.table.now in
    let e = c.shared-shared.ensures in
    let here = word_of_bucket t.about c.sizes-sizes.result.now c.args.at c.root_word-place.result c.sizes-sizes.ensures.sizes c.root_word-place.ensures in (
      c.requires.rest.seat.table_is ∙ sym e.table,
      word_inside t.about c.args.at c.root_word-place.result _ c.requires.rest.seat.is_about here c.requires.inside (ap (λ t. t.words) e.table ∙ e.store.words_are),
      clear_allowed t c.args.pass.now c.requires.rest c.args.at c.root_word-place.result here c.shared-shared.result.now.key.about _ c.requires.named.0 e.key c.requires.named.1 c.args.b _ (subst (λ (m : ℕ). c.args.b < m) (sym e.store.flags_are) c.requires.bit) (ap (bit_not w64) (c.flag_mask-mask.ensures ∙ ap (λ (m : ℕ). 2 ^ (2 * m + c.args.b)) (sym e.store.width_is))),
    )

pub returns-clause-told : goal.returns-clause-told
returns-clause-told g c =
    let t = c.args.table.now in
    let is = c.shared-shared.ensures.store in
    let here = word_of_bucket t.about c.sizes-sizes.result.now c.args.at c.root_word-place.result c.sizes-sizes.ensures.sizes c.root_word-place.ensures in
    clear_told t c.args.pass.now c.requires.rest c.args.at c.root_word-place.result here c.fetch_and.new.seat.me.0 g.row.W g.row.F is.width_is is.flags_are c.args.b _ c.fetch_and.result c.requires.bit (ap (bit_not w64) c.flag_mask-mask.ensures) c.fetch_and.ensures.2.1

pub returns-clause-rest : goal.returns-clause-rest
returns-clause-rest g c =
    acted_rests c.args.table.now c.args.pass.now _ _ c.args.at c.requires.named.0 c.requires.rest c.fetch_and.ensures.0 c.fetch_and.ensures.2.0 refl (
    clear_told c.args.table.now c.args.pass.now c.requires.rest c.args.at c.root_word-place.result
    (word_of_bucket c.args.table.now.about c.sizes-sizes.result.now c.args.at c.root_word-place.result c.sizes-sizes.ensures.sizes c.root_word-place.ensures)
    c.fetch_and.new.seat.me.0 g.row.W g.row.F c.shared-shared.ensures.store.width_is c.shared-shared.ensures.store.flags_are c.args.b _ c.fetch_and.result c.requires.bit (ap (bit_not w64) c.flag_mask-mask.ensures) c.fetch_and.ensures.2.1 c.requires.named.0 c.requires.named.1) refl refl refl refl refl refl
