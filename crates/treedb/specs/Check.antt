-- A report that a run judges, and its verdict.
use Rattle.std.specs.Prelude.{◌≡◌, ◌⊎◌, ◌↔◌, ℕ, List, ◌++◌, Option, Ok, IfSome, codes, length}
use Rattle.std.specs.Fmt.{decimal}
use Rattle.std.specs.Io.KnownBytes.{Appends}
use Rattle.tdb_base.specs.History.{Vector}
use Rattle.tdb_base.specs.declared.reply.Reply.{Reply}
use Rattle.tdb_base.specs.declared.reply.Status.{Status}
use Rattle.tdb_base.specs.declared.reply.Status.TheVariants as s
use Rattle.trace_csv.specs.Output.{TakesFront}
use Rattle.trace_csv.specs.Trace.{trace_of}
use Rattle.run_check.specs.Sentences.{HasHistory, IsThatVerdict, IsYesWhereHistory}
use Rattle.run_check.specs.Text.{IsReportOf, IsWrongAt}
use Rattle.run_check.specs.declared.verdict.Verdict.{Verdict}
use Rattle.run_check.specs.declared.verdict.Verdict.TheVariants as v
use Rattle.command_line.specs.declared.outcome.Choice.{Choice}
use Rattle.treedb.specs.Lines.{IsCutInto, form_of}
use Rattle.treedb.specs.Note.{status_of}
use Rattle.command_line.specs.Rules.{flag_count}
use Rattle.treedb.specs.declared.ended.Ended.{Ended}
use Rattle.treedb.specs.declared.ended.Ended.TheVariants as e

-- the bytes are cut into a trace, which has these lines, and a report
pub record HasTrace (c : Choice) (bytes : List ℕ) (trace : List Vector) (report : List ℕ) : Type 0 where
  pub text : List ℕ
  pub cut : IsCutInto bytes text report
  pub lines : trace_of (form_of c) text ≡ Ok trace

-- and the report is that of these replies
pub record IsInput (c : Choice) (bytes : List ℕ) (trace : List Vector) (replies : List Reply) : Type 0 where
  pub report : List ℕ
  pub has_trace : HasTrace c bytes trace report
  pub is_report : IsReportOf (length trace) report replies

-- there is a trace, and this text line of what follows is the first that is wrong
pub record IsWrongInput (c : Choice) (bytes : List ℕ) (line : ℕ) : Type 0 where
  pub trace : List Vector
  pub report : List ℕ
  pub has_trace : HasTrace c bytes trace report
  pub wrong : IsWrongAt (length trace) report line

-- this is the verdict on a trace and the replies that a report gives to its lines
pub record Judged (c : Choice) (told : Option (List ℕ)) (verdict : Verdict) : Type 0 where
  pub trace : List Vector
  pub replies : List Reply
  pub read : IfSome told (λ bytes. IsInput c bytes trace replies)
  pub is_verdict : IsThatVerdict trace replies c.workers c.block verdict
  pub yes : IsYesWhereHistory trace replies c.workers c.block verdict

-- the line that tells a verdict
abbrev pub verdict_text : Verdict → List ℕ
verdict_text v.Yes = codes "yes\n"
verdict_text (v.Twice first second) =
    codes "no twice " ++ decimal first ++ codes " " ++ decimal second ++ codes "\n"
verdict_text (v.Lone line) = codes "no lone " ++ decimal line ++ codes "\n"
verdict_text (v.FullNamed line) = codes "no full " ++ decimal line ++ codes "\n"
verdict_text (v.Stuck line) = codes "no stuck " ++ decimal line ++ codes "\n"

-- how a run ends that wrote it
abbrev pub ended_with_verdict : Verdict → Ended
ended_with_verdict v.Yes = e.Done
ended_with_verdict (v.Twice first second) = e.Refuted
ended_with_verdict (v.Lone line) = e.Refuted
ended_with_verdict (v.FullNamed line) = e.Refuted
ended_with_verdict (v.Stuck line) = e.Refuted

-- the sink took the line, or failed after a front of it
abbrev pub WritesVerdict : Verdict → (old new : Option (List ℕ)) → Ended → Type 0
WritesVerdict verdict old new ended =
    (Appends old new (verdict_text verdict) × (ended ≡ ended_with_verdict verdict))
    ⊎ (TakesFront old new (verdict_text verdict) × (ended ≡ e.WriteFault))

-- some history has the replies of a judged report
abbrev pub IsOfHistory : {c : Choice} {told : Option (List ℕ)} {verdict : Verdict} → Judged c told verdict
    → Type 0
IsOfHistory {c = c} judged =
    HasHistory (flag_count c.profile) judged.trace judged.replies c.workers c.block

-- the sink took the line of a verdict, and the run is `Done` exactly where some history has the replies
pub record PrintsVerdict (c : Choice) (told old new : Option (List ℕ)) (status : Status) : Type 0 where
  pub verdict : Verdict
  pub judged : Judged c told verdict
  pub taken : Appends old new (verdict_text verdict)
  pub status_is : status ≡ status_of (ended_with_verdict verdict)
  pub history : (status ≡ s.Done) ↔ IsOfHistory judged

-- the sink took a front of it
pub record PrintsVerdictFront (c : Choice) (told old new : Option (List ℕ)) : Type 0 where
  pub verdict : Verdict
  pub judged : Judged c told verdict
  pub taken : TakesFront old new (verdict_text verdict)
