use Rattle.std.proofs.Common.{arith, refl, subst, sym, ap, ◌∙◌, ◌≤◌, ℕ, true}
use Rattle.pair_rule.specs.declared.sizes.Sizes.{Sizes}
use Rattle.pair_rule.specs.Calls.{Called}
use Rattle.pair_rule.specs.Rest.{view}
use Rattle.pair_nodes.specs.Probe.{pair_of_word}
use Rattle.root_plain.specs.Plain.{plain}
use Rattle.root_plain.specs.Plays.{Shows, wants}
use Rattle.root_plain.specs.declared.plays.Wanted.TheVariants.{Pair}
use Rattle.root_plain.proofs.RootPasses.{bucket_small, word_of_bucket, word_inside, bucket_of_word, claim_allowed, looked_rests, called_rests, few_names}
use Rattle.root_plain.proofs.steps.claim.Goals as goal

pub root_word-place-requires : goal.root_word-place-requires
root_word-place-requires g c =
    let is = c.requires.rest.seat.is_about in
    (subst (λ (s : Sizes). s.nodes ≤ 25) (sym c.sizes-sizes.ensures.sizes) is.range.most_nodes, bucket_small c.args.table.now.about c.args.at is c.requires.inside)

pub compare_exchange-found-requires : goal.compare_exchange-found-requires
compare_exchange-found-requires g c =
    let about = c.args.table.now.about in
    let e = c.shared-shared.ensures in
    let here = word_of_bucket about c.sizes-sizes.result.now c.args.at c.root_word-place.result c.sizes-sizes.ensures.sizes c.root_word-place.ensures in
    let w = c.requires.passed in (
      c.requires.rest.seat.table_is ∙ sym e.table,
      word_inside about c.args.at c.root_word-place.result _ c.requires.rest.seat.is_about here c.requires.inside (ap (λ t. t.words) e.table ∙ e.store.words_are),
      claim_allowed c.args.table.now c.shared-shared.result.now.key.about c.args.pass.now _ c.args.at c.root_word-place.result (pair_of_word c.args.word) w.0 c.args.word c.requires.stands.0 c.requires.rest e.key here c.requires.inside
          c.requires.word.whole c.requires.word.is_pair w.1 w.2 w.3 c.requires.stands.1 c.requires.stands.2,
    )

pub overflow_add-pass : goal.overflow_add-pass
overflow_add-pass g c = let few = few_names c.args.table.now c.args.pass.now c.requires.rest in omega (arith, few)

pub returns-then-found-eq0-clause-won : goal.returns-then-found-eq0-clause-won
returns-then-found-eq0-clause-won g c =
    let about = c.args.table.now.about in
    let here = word_of_bucket about c.sizes-sizes.result.now c.args.at c.root_word-place.result c.sizes-sizes.ensures.sizes c.root_word-place.ensures in
    let at = bucket_of_word (view c.args.pass.now) about c.args.at c.root_word-place.result c.requires.rest.seat.about_is here in
    λ z. subst (λ (q : ℕ). Called plain true q (pair_of_word c.args.word) (view c.args.pass.now) c.compare_exchange-found.new.seat.me.0) at (c.compare_exchange-found.ensures.2.1 z)

pub returns-then-found-eq0-clause-rest : goal.returns-then-found-eq0-clause-rest
returns-then-found-eq0-clause-rest g c =
    called_rests c.args.table.now c.args.pass.now _ _ _ c.requires.rest c.compare_exchange-found.ensures.0 c.compare_exchange-found.ensures.2.0 (c.compare_exchange-found.ensures.2.1 c.if-found-eq0.true) refl refl refl refl refl refl

pub returns-else-found-eq0-clause-lost : goal.returns-else-found-eq0-clause-lost
returns-else-found-eq0-clause-lost g c =
    let about = c.args.table.now.about in
    let here = word_of_bucket about c.sizes-sizes.result.now c.args.at c.root_word-place.result c.sizes-sizes.ensures.sizes c.root_word-place.ensures in
    let at = bucket_of_word (view c.args.pass.now) about c.args.at c.root_word-place.result c.requires.rest.seat.about_is here in
    λ used. subst (λ (q : ℕ). Shows (wants (Pair (pair_of_word c.args.word))) q c.compare_exchange-found.result (view c.args.pass.now) c.compare_exchange-found.new.seat.me.0) at (c.compare_exchange-found.ensures.2.2 used)

pub returns-else-found-eq0-clause-rest : goal.returns-else-found-eq0-clause-rest
returns-else-found-eq0-clause-rest g c =
    looked_rests c.args.table.now c.args.pass.now _ _ _ c.compare_exchange-found.result c.requires.rest c.compare_exchange-found.ensures.0 c.compare_exchange-found.ensures.2.0 (c.compare_exchange-found.ensures.2.2 c.if-found-eq0.false) refl refl refl refl refl refl
