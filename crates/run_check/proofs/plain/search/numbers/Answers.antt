use Rattle.std.proofs.Common.{◌∙◌, ℕ, List, ◌++◌, [], ◌∷◌, ap, sym}
use Rattle.run_check.proofs.SearchLemmas.{count-push}
use Rattle.run_check.proofs.plain.search.numbers.Goals as goal

pub loop-number-preserved : goal.loop-number-preserved
loop-number-preserved c =
    c.in_ok-push.ensures.items ∙ ap (λ (t : List ℕ). t ++ c.loop-number.number ∷ []) c.loop-number.invariant ∙ sym (count-push c.loop-number.number)
