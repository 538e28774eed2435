-- How the lines of a run are treated: whose each is, what calls are made for it, and the report that tells
-- it.
use Rattle.std.specs.Prelude.{◌≡◌, ℕ, Bool, List, [], length, slice_index, if◌then◌else◌, ⊤}
use Rattle.tdb_base.specs.Agrees.{AgreesOver, entries_of_insertion}
use Rattle.tdb_base.specs.History.{Vector, History}
use Rattle.tdb_base.specs.Lines.{dealt_to, owned}
use Rattle.tdb_base.specs.declared.reply.Reply.{Reply}
use Rattle.trace_csv.specs.Report.{drawn_report, marked_report, report}
use Rattle.trace_csv.specs.declared.report.Summary.{Summary}
use Rattle.work_run.specs.Drew.{AreDrawnBy}
use Rattle.trace_csv.specs.OneReport.{AreMarks}
use Rattle.work_run.specs.Marks.{entries_of_mark}
use Rattle.command_line.specs.Rules.{flag_count}
use Rattle.command_line.specs.declared.outcome.Job.{Job}
use Rattle.command_line.specs.declared.outcome.Job.TheVariants as job
use Rattle.command_line.specs.declared.outcome.Choice.{Choice}
use Rattle.treedb.specs.declared.insertion.Way.{Way}
use Rattle.treedb.specs.declared.insertion.Way.TheVariants.{Deal, Draw, Mark}
use Rattle.treedb.specs.declared.insertion.Beside.{Beside}
use Rattle.treedb.specs.declared.insertion.Beside.TheVariants as b
use Rattle.treedb.specs.declared.insertion.LineReplies.{LineReplies}

-- what a job does with lines: blocks may be drawn for two of them
abbrev pub way_for : Job → Bool → Way
way_for job.Insert claims = if claims then Draw else Deal
way_for job.Distinct claims = Deal
way_for job.Bench claims = if claims then Draw else Deal
way_for job.Check claims = Deal
way_for job.Mark claims = Mark

abbrev pub way_of : Choice → Way
way_of c = way_for c.job c.claims

-- how lines were treated, and what is told of them beside their replies: blocks were dealt out, or drawn by
-- these workers, and the lines inserted; or blocks were dealt out, and the lines inserted and marked so
pub data Treated : Type 0 where
  Dealt : Treated
  Drawn : List ℕ → Treated
  Marked : List Bool → Treated

abbrev pub treated_with : Beside → Treated
treated_with b.Nothing = Dealt
treated_with (b.Drawers drawn) = Drawn drawn.items
treated_with (b.Marks firsts) = Marked firsts.items

abbrev pub treated : LineReplies → Treated
treated made = treated_with made.beside

-- whose each line is: as a list of workers tells, or, without one, as blocks are dealt out
abbrev pub owner_of : Choice → Treated → ℕ → ℕ
owner_of c Dealt = dealt_to c.workers c.block
owner_of c (Drawn drawn) = slice_index drawn
owner_of c (Marked firsts) = dealt_to c.workers c.block

-- the entries of a line: that of its insertion, and where it is marked right after it that of its mark
abbrev pub line_entries : Choice → Treated → List Vector → List Reply → ℕ → ℕ → History
line_entries c Dealt trace replies = entries_of_insertion trace replies
line_entries c (Drawn drawn) trace replies = entries_of_insertion trace replies
line_entries c (Marked firsts) trace replies = entries_of_mark c.flag trace replies firsts

-- so many lines are treated as the choice says: workers are told exactly where they draw, and marks exactly
-- where lines are marked
abbrev pub IsTreated : Choice → ℕ → List Reply → Treated → Type 0
IsTreated c lines replies Dealt = way_of c ≡ Deal
IsTreated c lines replies (Drawn drawn) = (way_of c ≡ Draw) × AreDrawnBy lines c.workers c.block drawn
IsTreated c lines replies (Marked firsts) = (way_of c ≡ Mark) × AreMarks replies firsts

-- the replies to lines that are treated so form this history from nothing, which these workers made
abbrev pub AgreesTreated : Choice → Treated → List Vector → List Reply → History → List ℕ → Type 0
AgreesTreated c treatment trace replies h callers =
    AgreesOver (flag_count c.profile) (owned (length trace) (owner_of c treatment))
    (line_entries c treatment trace replies) trace replies c.workers [] h callers

-- there is for each reply what is told beside it
abbrev pub HasOneEach : Treated → List Reply → Type 0
HasOneEach Dealt replies = ⊤
HasOneEach (Drawn drawn) replies = length drawn ≡ length replies
HasOneEach (Marked firsts) replies = length firsts ≡ length replies

-- the report of replies, with the worker or the mark of each line where these are told
abbrev pub report_of : Treated → List Reply → Summary → List ℕ
report_of Dealt replies summary = report replies summary
report_of (Drawn drawn) replies summary = drawn_report replies drawn summary
report_of (Marked firsts) replies summary = marked_report replies firsts summary

-- a text is the report of these replies and workers or marks, and of no others
abbrev pub TellsReplies : Treated → List Reply → List ℕ → Type 0
TellsReplies Dealt replies text = (others : List Reply) (summary : Summary)
    → text ≡ report others summary → others ≡ replies
TellsReplies (Drawn drawn) replies text = (others : List Reply) (workers : List ℕ) (summary : Summary)
    → length workers ≡ length others → text ≡ drawn_report others workers summary
    → (others ≡ replies) × (workers ≡ drawn)
TellsReplies (Marked firsts) replies text = (others : List Reply) (marks : List Bool) (summary : Summary)
    → AreMarks others marks → text ≡ marked_report others marks summary
    → (others ≡ replies) × (marks ≡ firsts)

-- this is told of the marks of lines that were marked
abbrev pub IfMarked : Treated → (List Bool → Type 0) → Type 0
IfMarked Dealt Fact = ⊤
IfMarked (Drawn drawn) Fact = ⊤
IfMarked (Marked firsts) Fact = Fact firsts
