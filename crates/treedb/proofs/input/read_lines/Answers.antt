use Rattle.std.proofs.Common.{◌≡◌, ℕ, List, subst, sym}
use Rattle.std.specs.Prelude.{IfSome}
use Rattle.treedb.proofs.ReadingLemmas.{ends_all, gave_then, no_read_fault}
use Rattle.treedb.proofs.input.read_lines.Goals as goal

pub returns-clause-gave : goal.returns-clause-gave
returns-clause-gave g c = gave_then c.args.choice.now c.deref.result.now c.lines_of.result (c.lines_of.ensures.refused c.deref.result.now (c.requires.whole c.deref.result.now))
    _ _ c.in-Ok.bytes c.in-Ok.ensures.gave

pub returns-clause-fault : goal.returns-clause-fault
returns-clause-fault g c = λ is. absurd (no_read_fault c.args.choice.now c.deref.result.now c.lines_of.result
    (c.lines_of.ensures.refused c.deref.result.now (c.requires.whole c.deref.result.now)) is)

pub returns-clause-refused : goal.returns-clause-refused
returns-clause-refused g c = ends_all c.args.choice.now (g.S.Source.left c.args.source.now) c.deref.result.now c.lines_of.result
    (subst (λ (x : List ℕ). IfSome (g.S.Source.left c.args.source.now) (λ b. x ≡ b)) (sym c.deref.ensures.value) c.in-Ok.ensures.bytes)
    (c.lines_of.ensures.refused c.deref.result.now (c.requires.whole c.deref.result.now))
