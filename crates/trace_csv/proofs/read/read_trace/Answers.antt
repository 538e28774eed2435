use Rattle.std.proofs.lemmas.Result.{IfOk-weaker}
use Rattle.trace_csv.proofs.BytesTaken.{unsigned-bytes}
use Rattle.trace_csv.proofs.TraceLemmas.{trace_of-below}
use Rattle.trace_csv.proofs.read.read_trace.Goals as goal

pub returns-clause-below : goal.returns-clause-below
returns-clause-below c = IfOk-weaker c.read_form.result _ _ (λ trace. trace_of-below c.args.width c.args.bytes.now trace) c.read_form.ensures.lines

pub returns-clause-short : goal.returns-clause-short
returns-clause-short c = IfOk-weaker c.read_form.result _ _ (λ trace. unsigned-bytes c.args.width c.args.bytes.now trace) c.read_form.ensures.lines
