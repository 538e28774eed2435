use Rattle.std.proofs.Common.{subst, sym}
use Rattle.std.specs.Prelude.{IfOk}
use Rattle.trace_csv.specs.declared.form.Form.{Form}
use Rattle.trace_csv.specs.declared.form.Form.TheVariants.{Signed}
use Rattle.treedb.specs.Lines.{AreLinesOf}
use Rattle.treedb.proofs.LineLemmas.{lines-in-form}
use Rattle.treedb.proofs.input.read_form.Goals as goal

pub returns-in-Signed-clause-numbers : goal.returns-in-Signed-clause-numbers
returns-in-Signed-clause-numbers c = subst (λ (f : Form). IfOk c.read_signed.result (AreLinesOf f)) (sym c.in-Signed.is)
    (lines-in-form Signed c.args.bytes.now c.read_signed.result c.read_signed.ensures.lines)
