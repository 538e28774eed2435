use Rattle.std.proofs.Common.{arith, ◌≡◌, ◌%◌, ⊎_elim}
use Rattle.std.proofs.lemmas.Bool.{eqb-true}
use Rattle.region_root.specs.Compact.{IsEven, IsOdd}
use Rattle.region_root.specs.Laws.{even_or_odd}
use Rattle.region_root.proofs.lock.is_free.Goals as goal

pub returns : goal.returns
returns c = λ yes.
    let none : c.args.lock % 2 ≡ 0 = eqb-true (c.args.lock % 2) 0 yes in
    ⊎_elim (λ (e : IsEven c.args.lock). e) (λ (o : IsOdd c.args.lock). let half = o.1 in absurd (omega (arith, none, half))) (even_or_odd c.args.lock)
