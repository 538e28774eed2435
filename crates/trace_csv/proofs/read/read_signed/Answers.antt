use Rattle.std.proofs.lemmas.Result.{IfOk-weaker}
use Rattle.trace_csv.proofs.BytesTaken.{signed-bytes, signed-least}
use Rattle.trace_csv.proofs.SignedLemmas.{trace-below, trace-halves}
use Rattle.trace_csv.proofs.read.read_signed.Goals as goal

pub returns-clause-halves : goal.returns-clause-halves
returns-clause-halves c = IfOk-weaker c.read_form.result _ _ (λ trace. trace-halves c.args.bytes.now trace) c.read_form.ensures.lines

pub returns-clause-below : goal.returns-clause-below
returns-clause-below c = IfOk-weaker c.read_form.result _ _ (λ trace. trace-below c.args.bytes.now trace) c.read_form.ensures.lines

pub returns-clause-least : goal.returns-clause-least
returns-clause-least c = IfOk-weaker c.read_form.result _ _ (λ trace. signed-least c.args.bytes.now trace) c.read_form.ensures.lines

pub returns-clause-short : goal.returns-clause-short
returns-clause-short c = IfOk-weaker c.read_form.result _ _ (λ trace. signed-bytes c.args.bytes.now trace) c.read_form.ensures.lines
