use Rattle.trace_csv.proofs.DirectLemmas.{BeforeField}
use Rattle.trace_csv.proofs.direct.add_first_line.Given as goal

abbrev pub invariant-loop-field : goal.invariant-loop-field
invariant-loop-field l = BeforeField l.form l.text l.rest l.initial.numbers.items l.numbers.items
