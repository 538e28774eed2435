use Rattle.std.proofs.Common.{◌≡◌, ◌∙◌, refl, sym, ap, take, drop, ◌++◌}
use Rattle.std.proofs.lemmas.List.{take_all, take-append-drop}
use Rattle.tdb_base.specs.History as h
use Rattle.tdb_base.proofs.plain.agrees.extends.Goals as goal

pub returns : goal.returns
returns c =
    let begins : c.args.earlier.now ≡ take c.loop-i.i c.args.later.now = sym (take_all c.loop-i.i c.args.earlier.now c.loop-i-test.false) ∙ c.loop-i.invariant in (
      λ t. record {
        more = drop c.loop-i.i c.args.later.now;
        whole = sym (take-append-drop c.loop-i.i c.args.later.now) ∙ ap (λ (t : h.History). t ++ drop c.loop-i.i c.args.later.now) (sym begins);
      },
      λ extends. refl,
    )
