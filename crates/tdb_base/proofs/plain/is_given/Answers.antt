use Rattle.std.proofs.Common.{◌≡◌, ◌≤◌, ◌<◌, ℕ, ◌⊎◌, inl, inr, arith, sym, subst, ap, ◌∙◌, length}
use Rattle.std.specs.Prelude.{Some, slice_get, get_or}
use Rattle.std.proofs.lemmas.Option.{slice_get_within, get_or_from_slice_get}
use Rattle.tdb_base.specs.History as h
use Rattle.tdb_base.proofs.ListLemmas.{before-or-last}
use Rattle.tdb_base.proofs.NameLemmas.{name-source}
use Rattle.tdb_base.proofs.plain.is_given.Goals as goal

pub loop-call-preserved : goal.loop-call-preserved
loop-call-preserved c = λ k e before at name. by k e at name (before-or-last k c.loop-call.call-index before)
  where
    by : (k : ℕ) (e : h.Entry) → slice_get c.args.history.now k ≡ Some e → h.name_of c.args.history.now e.vector ≡ Some c.args.id
        → (k < c.loop-call.call-index) ⊎ (k ≡ c.loop-call.call-index) → ⊥
    by k e at name (inl earlier) = c.loop-call.invariant k e earlier at name
    by k e at name (inr last) =
        let item : c.call-item.result ≡ e =
        c.call-item.is ∙ ap (λ (i : ℕ). get_or c.args.history.now i c.call-item.result) (sym last) ∙ get_or_from_slice_get c.args.history.now k e c.call-item.result at in
        let vector : c.vector.result.now ≡ e.vector = c.vector.ensures ∙ ap (λ (x : h.Entry). x.vector) item in
        cc (c.if-has_name.ensures.1 (subst (λ (v : h.Vector). h.name_of c.args.history.now v ≡ Some c.args.id) (sym vector) name))

pub returns : goal.returns
returns c = (
  λ t. cc t,
  λ given.
      let source = name-source c.args.history.now given.0 c.args.id given.1 in
      let here = subst (λ (v : h.Vector). h.name_of c.args.history.now v ≡ Some c.args.id) (sym source.3) given.1 in
      let inside = slice_get_within c.args.history.now source.0 source.1 source.2 in
      let past : length c.args.history.now ≤ c.loop-call.call-index = c.loop-call-test.false in
      absurd (c.loop-call.invariant source.0 source.1 (omega arith) source.2 here),
)
