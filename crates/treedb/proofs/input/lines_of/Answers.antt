use Rattle.std.proofs.Common.{◌^◌, ◌<◌, ℕ, List, sym, subst}
use Rattle.std.specs.Prelude.{All}
use Rattle.trace_csv.proofs.FewLines.{few_lines}
use Rattle.trace_csv.specs.declared.form.Form.{Form}
use Rattle.treedb.specs.Lines.{IsReadable, slot_bits}
use Rattle.treedb.proofs.LineLemmas.{below-profile, readable}
use Rattle.treedb.proofs.input.lines_of.Goals as goal

pub read_form-requires : goal.read_form-requires
read_form-requires c = subst (λ (f : Form). IsReadable f) (sym c.form_of-form.ensures) (readable c.args.choice.now c.requires)

pub returns-in-Ok-clause-few : goal.returns-in-Ok-clause-few
returns-in-Ok-clause-few c = few_lines c.form_of-form.result c.args.bytes.now c.in-Ok.trace c.in-Ok.ensures.lines

pub returns-in-Ok-clause-below : goal.returns-in-Ok-clause-below
returns-in-Ok-clause-below c = below-profile c.args.choice.now c.in-Ok.trace c.requires
    (subst (λ (f : Form). All (λ (line : List ℕ). All (λ (n : ℕ). n < 2 ^ slot_bits f) line) c.in-Ok.trace) c.form_of-form.ensures c.in-Ok.ensures.below)
