use Rattle.std.proofs.Common.{◌≡◌, refl, sym, subst}
use Rattle.std.proofs.lemmas.List.{take_all}
use Rattle.std.proofs.lemmas.Option.{slice_get_read}
use Rattle.std.specs.Prelude.{Some, slice_get}
use Rattle.tdb_base.specs.History as h
use Rattle.tdb_base.specs.Legal.{Allows, IsLegal}
use Rattle.tdb_base.proofs.NameLemmas.{legal-more, legal-nil, legal-there}
use Rattle.tdb_base.proofs.plain.is_legal.Goals as goal

pub loop-i-init : goal.loop-i-init
loop-i-init c = legal-nil c.args.flag_count

pub loop-i-preserved : goal.loop-i-preserved
loop-i-preserved c =
    let call = c.index-history-i.result in
    let at : slice_get c.args.history.now c.loop-i.i ≡ Some call = slice_get_read c.args.history.now _ c.loop-i.i call refl c.loop-i-test.true c.index-history-i.is in
    let allowed = subst (λ (t : h.History). Allows c.args.flag_count t call.vector call.id call.act) c.split_at.ensures.front (c.if-not-may_follow.ensures.0 refl) in
    legal-more c.args.flag_count c.args.history.now c.loop-i.i call at c.loop-i.invariant allowed

pub returns-then-not-may_follow : goal.returns-then-not-may_follow
returns-then-not-may_follow c =
    let call = c.index-history-i.result in
    let at : slice_get c.args.history.now c.loop-i.i ≡ Some call = slice_get_read c.args.history.now _ c.loop-i.i call refl c.loop-i-test.true c.index-history-i.is in (
      λ t. cc t,
      λ l. c.if-not-may_follow.ensures.1
          (subst (λ (t : h.History). Allows c.args.flag_count t call.vector call.id call.act) (sym c.split_at.ensures.front) (legal-there c.args.flag_count c.args.history.now c.loop-i.i call at l)),
    )

pub returns : goal.returns
returns c = (λ t. subst (λ (t : h.History). IsLegal c.args.flag_count t) (take_all c.loop-i.i c.args.history.now c.loop-i-test.false) c.loop-i.invariant, λ l. refl)
