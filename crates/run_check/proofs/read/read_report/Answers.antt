use Rattle.run_check.proofs.ReadLemmas.{only-line, only-report}
use Rattle.run_check.proofs.read.read_report.Goals as goal

pub returns-clause-whole : goal.returns-clause-whole
returns-clause-whole c = only-report c.args.lines c.args.bytes.now (λ v. v.items) c.read.result c.read.ensures.read c.read.ensures.refused

pub returns-clause-wrong : goal.returns-clause-wrong
returns-clause-wrong c = only-line c.args.lines c.args.bytes.now (λ v. v.items) c.read.result c.read.ensures.read c.read.ensures.refused
