use Rattle.std.proofs.Common.{◌-◌, ◌<◌, ◌≤◌, ⊎_elim, arith}
use Rattle.std.proofs.lemmas.Bool.{cases_lt}
use Rattle.tree_store.proofs.marked.drop_eights.Goals as goal

pub loop-at-preserved : goal.loop-at-preserved
loop-at-preserved c =
    let at = c.loop-at.at in
    let i = c.loop-at.invariant in
    record {
      low = omega (arith, i.low);
      none = λ p low high marked. ⊎_elim
          (λ (lt : p < at). c.are_eight_unmarked.ensures c.if-are_eight_unmarked.true (at - 8) (omega (arith, c.loop-at-test.true)) p low lt marked)
          (λ (le : at ≤ p). i.none p le high marked)
          (cases_lt p at);
    }
