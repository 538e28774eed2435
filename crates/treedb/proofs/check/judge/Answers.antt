use Rattle.std.proofs.Common.{ℕ, List, subst, sym}
use Rattle.command_line.specs.declared.outcome.Job.{Job}
use Rattle.run_check.specs.Sentences.{IsThatVerdict, IsYesWhereHistory}
use Rattle.run_check.specs.Text.{IsReportOf}
use Rattle.tdb_base.specs.declared.reply.Reply.{Reply}
use Rattle.treedb.specs.Lines.{IsTraceText}
use Rattle.treedb.proofs.check.judge.Goals as goal

pub returns-in-Err-clause-refused : goal.returns-in-Err-clause-refused
returns-in-Err-clause-refused c =
    c.in-Err.ensures.refused c.args.bytes.now
    (subst (λ (j : Job). IsTraceText j c.args.bytes.now c.in-Some.text.now) (sym c.requires.job) (c.in-Some.report.now, c.in-Some.ensures))

pub returns-in-Ok-check-clause-judged : goal.returns-in-Ok-check-clause-judged
returns-in-Ok-check-clause-judged c =
    let replies = c.in-Ok-read_report.replies.items in
    let choice = c.args.choice.now in
    let trace = c.in-Ok.trace in
    let same = c.deref.ensures.value in
    record {
      trace = trace;
      replies = replies;
      read = record {
        report = c.in-Some.report.now;
        has_trace = record { text = c.in-Some.text.now; cut = c.in-Some.ensures; lines = c.in-Ok.ensures.lines };
        is_report = subst (λ (n : ℕ). IsReportOf n c.in-Some.report.now replies) c.len.ensures.count c.in-Ok-read_report.ensures.read;
      };
      is_verdict = subst (λ (r : List Reply). IsThatVerdict trace r choice.workers choice.block c.in-Ok-check.verdict) same c.in-Ok-check.ensures.verdict;
      yes = subst (λ (r : List Reply). IsYesWhereHistory trace r choice.workers choice.block c.in-Ok-check.verdict) same c.in-Ok-check.ensures.yes;
    }
