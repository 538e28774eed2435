use Rattle.std.proofs.Common.{List, ℕ, OnErr, OnOk, subst}
use Rattle.std.specs.Io.KnownBytes.{Appends}
use Rattle.trace_csv.specs.Output.{TakesFront}
use Rattle.trace_csv.specs.Vectors.{vectors_of}
use Rattle.trace_csv.proofs.VectorsLemmas.{unsigned-text}
use Rattle.trace_csv.proofs.vectors.write_vectors.Goals as goal

pub returns-clause-ok : goal.returns-clause-ok
returns-clause-ok g c =
    subst (λ (t : List ℕ). OnOk c.write_form.result (Appends (g.K.Sink.taken c.args.sink.now) (g.K.Sink.taken c.write_form.new.sink) t))
    (unsigned-text 32 (vectors_of c.args.slots c.args.flat.now c.args.order.now)) c.write_form.ensures.ok

pub returns-clause-front : goal.returns-clause-front
returns-clause-front g c =
    subst (λ (t : List ℕ). OnErr c.write_form.result (TakesFront (g.K.Sink.taken c.args.sink.now) (g.K.Sink.taken c.write_form.new.sink) t))
    (unsigned-text 32 (vectors_of c.args.slots c.args.flat.now c.args.order.now)) c.write_form.ensures.front
