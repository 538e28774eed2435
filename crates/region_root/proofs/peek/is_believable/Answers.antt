use Rattle.std.proofs.Common.{arith, inl, inr, ⊎_elim, ◌≡◌, ◌%◌}
use Rattle.std.proofs.lemmas.Bool.{eqb-true, eqb-false}
use mathlib.Core.Logic.{dite}
use native.Mathlib.Decide.{ℕ_discrete}
use Rattle.region_root.specs.Compact.{IsEven, IsOdd, last}
use Rattle.region_root.specs.Laws.{even_or_odd}
use Rattle.region_root.proofs.peek.is_believable.Goals as goal

pub returns-then-lock-ge-LAST-clause-no : goal.returns-then-lock-ge-LAST-clause-no
returns-then-lock-ge-LAST-clause-no c = λ _. dite (ℕ_discrete c.args.lock last)
    (λ z. inl z)
    (λ ne. inr (9223372036854775807, let high = c.if-lock-ge-LAST.true in let fits = c.ranges.lock.fits in omega (arith, high, fits, ne)))

pub returns-clause-yes : goal.returns-clause-yes
returns-clause-yes c = λ yes.
    let none : c.args.lock % 2 ≡ 0 = eqb-true (c.args.lock % 2) 0 yes in
    (⊎_elim (λ (e : IsEven c.args.lock). e) (λ (o : IsOdd c.args.lock). let half = o.1 in absurd (omega (arith, none, half))) (even_or_odd c.args.lock), let low = c.if-lock-ge-LAST.false in omega (arith, low))

pub returns-clause-no : goal.returns-clause-no
returns-clause-no c = λ no.
    let some = eqb-false (c.args.lock % 2) 0 no in
    ⊎_elim (λ (e : IsEven c.args.lock). let half = e.1 in absurd (some (omega (arith, half)))) (λ (o : IsOdd c.args.lock). inr o) (even_or_odd c.args.lock)
