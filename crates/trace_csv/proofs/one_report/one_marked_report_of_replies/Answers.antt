use Rattle.trace_csv.proofs.OneReportLemmas.{one-marked-report}
use Rattle.trace_csv.proofs.one_report.one_marked_report_of_replies.Goals as goal

pub returns : goal.returns
returns c = one-marked-report
