use Rattle.std.proofs.Common.{refl, subst, sym, ap, ◌∙◌, ◌≤◌, ℕ}
use Rattle.pair_rule.specs.declared.sizes.Sizes.{Sizes}
use Rattle.pair_rule.specs.Rest.{view}
use Rattle.root_plain.specs.Plays.{Shows, wants}
use Rattle.root_plain.proofs.RootPasses.{bucket_small, word_of_bucket, word_inside, bucket_of_word, look_allowed, looked_rests}
use Rattle.root_plain.proofs.steps.look.Goals as goal

pub root_word-place-requires : goal.root_word-place-requires
root_word-place-requires g c =
    let is = c.requires.rest.seat.is_about in
    (subst (λ (s : Sizes). s.nodes ≤ 25) (sym c.sizes-sizes.ensures.sizes) is.range.most_nodes, bucket_small c.args.table.now.about c.args.at is c.requires.inside)

pub load_asked-requires-clause-seat : goal.load_asked-requires-clause-seat
load_asked-requires-clause-seat g c =
    let about = c.args.table.now.about in
    let e = c.shared.ensures in
    let here = word_of_bucket about c.sizes-sizes.result.now c.args.at c.root_word-place.result c.sizes-sizes.ensures.sizes c.root_word-place.ensures in
    (c.requires.rest.seat.table_is ∙ sym e.table, word_inside about c.args.at c.root_word-place.result _ c.requires.rest.seat.is_about here c.requires.inside (ap (λ t. t.words) e.table ∙ e.store.words_are))

pub load_asked-requires-clause-rule : goal.load_asked-requires-clause-rule
load_asked-requires-clause-rule g c =
    let about = c.args.table.now.about in
    let here = word_of_bucket about c.sizes-sizes.result.now c.args.at c.root_word-place.result c.sizes-sizes.ensures.sizes c.root_word-place.ensures in
    look_allowed c.args.table.now c.shared.result.now.key.about c.args.pass.now (wants c.args.wanted.now) _ c.args.at c.root_word-place.result c.requires.rest c.shared.ensures.key here c.requires.inside

pub returns-clause-shows : goal.returns-clause-shows
returns-clause-shows g c =
    let about = c.args.table.now.about in
    let here = word_of_bucket about c.sizes-sizes.result.now c.args.at c.root_word-place.result c.sizes-sizes.ensures.sizes c.root_word-place.ensures in
    subst (λ (k : ℕ). Shows (wants c.args.wanted.now) k c.load_asked.result (view c.args.pass.now) c.load_asked.new.seat.me.0)
    (bucket_of_word (view c.args.pass.now) about c.args.at c.root_word-place.result c.requires.rest.seat.about_is here) c.load_asked.ensures.sought.1

pub returns-clause-rest : goal.returns-clause-rest
returns-clause-rest g c =
    looked_rests c.args.table.now c.args.pass.now _ (wants c.args.wanted.now) _ c.load_asked.result c.requires.rest c.load_asked.ensures.seat c.load_asked.ensures.sought.0 c.load_asked.ensures.sought.1 refl refl refl refl refl refl
