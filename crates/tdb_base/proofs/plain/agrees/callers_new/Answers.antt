use Rattle.std.proofs.Common.{◌≡◌, ◌<◌, ◌∙◌, ℕ, ◌⊎◌, inl, inr, arith, refl, sym, ap, subst, get_or}
use Rattle.std.proofs.lemmas.Option.{slice_get_read, slice_get_within, get_or_from_slice_get}
use Rattle.std.specs.Prelude.{Contains, Some, slice_get}
use Rattle.tdb_base.specs.History as h
use Rattle.tdb_base.proofs.ListLemmas.{before-or-last}
use Rattle.tdb_base.proofs.AgreesLemmas.{calls-none, calls-some}
use Rattle.tdb_base.proofs.plain.agrees.callers_new.Goals as goal

pub returns-then-is_among : goal.returns-then-is_among
returns-then-is_among c =
    let e = c.call-item.result in
    let at : slice_get c.args.earlier.now c.loop-call.call-index ≡ Some e = slice_get_read c.args.earlier.now _ c.loop-call.call-index e refl c.loop-call-test.true c.call-item.is in
    let known : Contains c.args.callers.now e.caller = subst (λ (n : ℕ). Contains c.args.callers.now n) (let own : c.call.inside.caller ≡ e.caller = cc in own) (c.if-is_among.ensures.0 refl) in
    (λ t. cc t, λ free. absurd (calls-some c.args.earlier.now c.loop-call.call-index e at (free e.caller known)))

pub loop-call-preserved : goal.loop-call-preserved
loop-call-preserved c = λ k e before at known. by k e at known (before-or-last k c.loop-call.call-index before)
  where
    by : (k : ℕ) (e : h.Entry) → slice_get c.args.earlier.now k ≡ Some e → Contains c.args.callers.now e.caller
        → (k < c.loop-call.call-index) ⊎ (k ≡ c.loop-call.call-index) → ⊥
    by k e at known (inl earlier) = c.loop-call.invariant k e earlier at known
    by k e at known (inr last) =
        let item : c.call-item.result ≡ e =
        c.call-item.is ∙ ap (λ (i : ℕ). get_or c.args.earlier.now i c.call-item.result) (sym last) ∙ get_or_from_slice_get c.args.earlier.now k e c.call-item.result at in
        let own : e.caller ≡ c.call.inside.caller = cc in
        cc (c.if-is_among.ensures.1 (subst (λ (n : ℕ). Contains c.args.callers.now n) own known))

pub returns : goal.returns
returns c = (
  λ t caller known. calls-none c.args.earlier.now caller (λ k e at own.
      let inside = slice_get_within c.args.earlier.now k e at in
      c.loop-call.invariant k e (omega arith) at (subst (λ (n : ℕ). Contains c.args.callers.now n) (sym own) known)),
  λ free. refl,
)
