use Rattle.std.proofs.Common.{◌≡◌, ◌≢◌, true, false, rules, sym}
use Rattle.command_line.specs.declared.outcome.Job.TheVariants.{Bench}
use Rattle.treedb.proofs.LineLemmas.{drawn-form, signed-form, unsigned-form}
use Rattle.treedb.proofs.input.form_of.Goals as goal
use Rattle.treedb.proofs.input.form_of.Goals.{else-choice-via-then-choice+else-ne, else-choice-via-else-choice}

pub returns-then-ne : goal.returns-then-ne
returns-then-ne c =
    let told : c.args.choice.now.signed ≡ true = search rules in
    let other : c.args.choice.now.job ≢ Bench = search rules in
    sym (signed-form c.args.choice.now told other)

pub returns : goal.returns
returns c = elim c.else-choice.branch [
  | else-choice-via-then-choice+else-ne w ↦ (let job : c.args.choice.now.job ≡ Bench = search rules in sym (drawn-form c.args.choice.now job))
  | else-choice-via-else-choice w ↦ (let told : c.args.choice.now.signed ≡ false = search rules in sym (unsigned-form c.args.choice.now told))
]
