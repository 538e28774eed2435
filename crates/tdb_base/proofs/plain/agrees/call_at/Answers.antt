use Rattle.std.proofs.Common.{◌≡◌, ℕ, arith, refl, sym, ap, subst, length, take, eq-eqb}
use Rattle.std.proofs.lemmas.List.{take_all}
use Rattle.std.proofs.lemmas.Option.{slice_get_read, slice_get_past}
use Rattle.std.specs.Prelude.{◌==◌, Some, slice_get}
use Rattle.tdb_base.specs.History as h
use Rattle.tdb_base.proofs.AgreesLemmas.{filter-here}
use Rattle.tdb_base.proofs.plain.agrees.call_at.Goals as goal

pub returns-then-left-eq0 : goal.returns-then-left-eq0
returns-then-left-eq0 c =
    let e = c.call-item.result in
    let at : slice_get c.args.history.now c.loop-call.call-index ≡ Some e = slice_get_read c.args.history.now _ c.loop-call.call-index e refl c.loop-call-test.true c.call-item.is in
    let own : e.caller ≡ c.args.caller = cc in
    let place = filter-here (λ (e : h.Entry). e.caller == c.args.caller) c.args.history.now c.loop-call.call-index e at (eq-eqb e.caller c.args.caller own) in
    let first : length (h.calls (take c.loop-call.call-index c.args.history.now) c.args.caller) ≡ c.args.number = omega arith in
    sym (subst (λ (k : ℕ). slice_get (h.calls c.args.history.now c.args.caller) k ≡ Some e) first place)

pub returns : goal.returns
returns c =
    let whole : take c.loop-call.call-index c.args.history.now ≡ c.args.history.now = take_all c.loop-call.call-index c.args.history.now c.loop-call-test.false in
    let few = ap (λ (t : h.History). length (h.calls t c.args.caller)) whole in
    sym (slice_get_past (h.calls c.args.history.now c.args.caller) c.args.number (omega (arith, few, c.loop-call.invariant)))
