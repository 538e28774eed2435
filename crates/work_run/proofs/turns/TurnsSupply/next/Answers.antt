use Rattle.std.proofs.Common.{◌∙◌, sym}
use Rattle.work_run.proofs.Stepping.{none_to_come, one_to_come, last_to_come}
use Rattle.work_run.proofs.TakenLines.{asked_none, asked_one}
use Rattle.work_run.proofs.turns.TurnsSupply.next.Goals as goal

pub returns-then-line-self : goal.returns-then-line-self
returns-then-line-self c =
    let t = c.self.inside in
    asked_none c.args.self.now (sym c.self.view_is ∙ none_to_come t.lines t.block t.gap t.next t.block_end c.self.invariant c.if-line-self.true)

pub returns-then-self : goal.returns-then-self
returns-then-self c =
    let t = c.self.inside in
    asked_one c.args.self.now _ t.next (sym c.self.view_is ∙ last_to_come t.lines t.block t.gap t.next t.block_end c.self.invariant c.if-line-self.false c.if-self.true)

pub returns-else-self : goal.returns-else-self
returns-else-self c =
    let t = c.self.inside in
    asked_one c.args.self.now _ t.next (sym c.self.view_is ∙ one_to_come t.lines t.block t.gap t.next t.block_end c.self.invariant c.if-line-self.false)
