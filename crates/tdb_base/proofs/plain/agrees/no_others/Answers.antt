use Rattle.std.proofs.Common.{◌≡◌, ◌≤◌, ◌<◌, ◌+◌, ◌∙◌, ℕ, ◌⊎◌, inl, inr, arith, refl, sym, ap, subst, length, get_or}
use Rattle.std.proofs.lemmas.Option.{slice_get_read, slice_get_within, get_or_from_slice_get}
use Rattle.std.specs.Prelude.{Contains, Some, slice_get}
use Rattle.tdb_base.specs.History as h
use Rattle.tdb_base.proofs.AgreesLemmas.{at-after, at-past}
use Rattle.tdb_base.proofs.ListLemmas.{at-contained, before-or-last}
use Rattle.tdb_base.proofs.TallyLemmas.{contained-at}
use Rattle.tdb_base.proofs.plain.agrees.no_others.Goals as goal

pub returns-then-not-is_among : goal.returns-then-not-is_among
returns-then-not-is_among c =
    let e = c.index-later-i.result in
    let at : slice_get c.args.later.now c.loop-i.i ≡ Some e = slice_get_read c.args.later.now _ c.loop-i.i e refl c.loop-i-test.true c.index-later-i.is in
    let there = at-past c.args.earlier.now c.requires.more e c.loop-i.i (omega arith) (subst (λ (t : h.History). slice_get t c.loop-i.i ≡ Some e) c.requires.whole at) in
    let own : e.caller ≡ c.call.inside.caller = cc in
    (λ t. cc t, λ known. cc (c.if-not-is_among.ensures.1 (subst (λ (n : ℕ). Contains c.args.callers.now n) own (known c.requires.more c.requires.whole e (contained-at c.requires.more e there)))))

pub loop-i-preserved : goal.loop-i-preserved
loop-i-preserved c = λ k e past before at. by k e past at (before-or-last k c.loop-i.i before)
  where
    by : (k : ℕ) (e : h.Entry) → length c.args.earlier.now ≤ k → slice_get c.args.later.now k ≡ Some e
        → (k < c.loop-i.i) ⊎ (k ≡ c.loop-i.i) → Contains c.args.callers.now e.caller
    by k e past at (inl earlier) = c.loop-i.invariant k e past earlier at
    by k e past at (inr last) =
        let item : c.index-later-i.result ≡ e =
        c.index-later-i.is ∙ ap (λ (i : ℕ). get_or c.args.later.now i c.index-later-i.result) (sym last) ∙ get_or_from_slice_get c.args.later.now k e c.index-later-i.result at in
        let own : c.call.inside.caller ≡ e.caller = cc in
        subst (λ (n : ℕ). Contains c.args.callers.now n) own (c.if-not-is_among.ensures.0 refl)

pub returns : goal.returns
returns c = (
  λ t more whole e known.
      let place = at-contained more e known in
      let at : slice_get c.args.later.now (place.0 + length c.args.earlier.now) ≡ Some e =
      subst (λ (t : h.History). slice_get t (place.0 + length c.args.earlier.now) ≡ Some e) (sym whole) (at-after c.args.earlier.now more e place.0 place.1) in
      let inside = slice_get_within c.args.later.now (place.0 + length c.args.earlier.now) e at in
      c.loop-i.invariant (place.0 + length c.args.earlier.now) e (omega arith) (omega arith) at,
  λ known. refl,
)
