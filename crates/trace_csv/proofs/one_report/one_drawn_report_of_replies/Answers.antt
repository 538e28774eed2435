use Rattle.trace_csv.proofs.OneReportLemmas.{one-drawn-report}
use Rattle.trace_csv.proofs.one_report.one_drawn_report_of_replies.Goals as goal

pub returns : goal.returns
returns c = one-drawn-report
