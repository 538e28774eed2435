use Rattle.std.proofs.Common.{ℕ, List, length, ap, arith}
use Rattle.trace_csv.proofs.FewLines.{drawn_length}
use Rattle.std.proofs.Common.{subst, sym}
use Rattle.trace_csv.specs.declared.form.Form.{Form}
use Rattle.treedb.specs.Lines.{AreLinesOf}
use Rattle.treedb.proofs.LineLemmas.{drawn-form}
use Rattle.treedb.proofs.input.draw_lines.Goals as goal

pub returns-in-Ok-clause-numbers : goal.returns-in-Ok-clause-numbers
returns-in-Ok-clause-numbers c = subst (λ (f : Form). AreLinesOf f c.in-Ok.trace) (sym (drawn-form c.args.choice.now c.requires.bench)) tt

pub returns-in-Ok-clause-few : goal.returns-in-Ok-clause-few
returns-in-Ok-clause-few c =
    let choice = c.args.choice.now in
    let range = c.requires.valid.in_range.lines in
    let long = drawn_length choice.lines choice.slots choice.values choice.seed range.0 in
    let same = ap (λ (x : List (List ℕ)). length x) c.in-Ok.ensures.walk in
    omega (arith, long, same, range.1)
