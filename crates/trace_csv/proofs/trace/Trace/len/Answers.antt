use Rattle.std.proofs.Common.{sym, ap, ◌∙◌, length}
use Rattle.trace_csv.proofs.PiecesLemmas.{length-pieces}
use Rattle.trace_csv.proofs.trace.Trace.len.Goals as goal

pub returns-clause-count : goal.returns-clause-count
returns-clause-count c = sym (ap length (sym c.self.view_is) ∙ length-pieces c.self.inside.slots c.self.inside.lines c.self.inside.numbers.items)
