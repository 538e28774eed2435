use Rattle.std.proofs.Common.{◌≡◌, ℕ, List, subst, sym}
use Rattle.std.specs.Prelude.{IfSome}
use Rattle.treedb.proofs.ReadingLemmas.{ends_all, gave_then, judged_result, no_read_fault}
use Rattle.treedb.proofs.check.read_verdict.Goals as goal

pub returns-clause-gave : goal.returns-clause-gave
returns-clause-gave g c = gave_then c.args.choice.now c.deref.result.now c.judge.result c.judge.ensures.refused
    _ _ c.in-Ok.bytes c.in-Ok.ensures.gave

pub returns-clause-fault : goal.returns-clause-fault
returns-clause-fault g c = λ is. absurd (no_read_fault c.args.choice.now c.deref.result.now c.judge.result
    c.judge.ensures.refused is)

pub returns-clause-refused : goal.returns-clause-refused
returns-clause-refused g c = ends_all c.args.choice.now (g.S.Source.left c.args.source.now) c.deref.result.now c.judge.result
    (subst (λ (x : List ℕ). IfSome (g.S.Source.left c.args.source.now) (λ b. x ≡ b)) (sym c.deref.ensures.value) c.in-Ok.ensures.bytes)
    c.judge.ensures.refused

pub returns-clause-judged : goal.returns-clause-judged
returns-clause-judged g c = judged_result c.args.choice.now (g.S.Source.left c.args.source.now) c.deref.result.now c.judge.result
    (subst (λ (x : List ℕ). IfSome (g.S.Source.left c.args.source.now) (λ b. x ≡ b)) (sym c.deref.ensures.value) c.in-Ok.ensures.bytes) c.judge.ensures.judged
