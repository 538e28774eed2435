use Rattle.std.proofs.Common.{◌<◌, sym, ap, ◌∙◌, length, Option, ℕ}
use Rattle.std.specs.Prelude.{if◌then◌else◌, Some}
use Rattle.std.proofs.lemmas.List.{take_all}
use Rattle.tdb_base.specs.History as h
use Rattle.tdb_base.proofs.NameLemmas.{name-nil, name-more}
use Rattle.tdb_base.proofs.plain.name_of.Goals as goal

pub loop-call-init : goal.loop-call-init
loop-call-init c = sym (name-nil c.args.vector.now)

pub loop-call-preserved : goal.loop-call-preserved
loop-call-preserved c =
    let inside : c.loop-call.call-index < length c.args.history.now = c.loop-call-test.true in
    c.name_after-name.ensures
    ∙ ap (λ (now : Option ℕ). if h.names c.call-item.result c.args.vector.now then Some c.call-item.result.id else now) c.loop-call.invariant
    ∙ sym (name-more c.args.history.now c.loop-call.call-index c.call-item.result c.args.vector.now inside c.call-item.is)

pub returns : goal.returns
returns c = c.loop-call.invariant ∙ ap (λ (t : h.History). h.name_of t c.args.vector.now) (take_all c.loop-call.call-index c.args.history.now c.loop-call-test.false)
