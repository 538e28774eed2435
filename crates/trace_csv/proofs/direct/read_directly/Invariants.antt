use Rattle.trace_csv.proofs.DirectLemmas.{AfterLines}
use Rattle.trace_csv.proofs.direct.read_directly.Given as goal

abbrev pub invariant-loop-lines : goal.invariant-loop-lines
invariant-loop-lines l = AfterLines l.form l.slots l.lines l.fn.bytes l.rest l.numbers.items
