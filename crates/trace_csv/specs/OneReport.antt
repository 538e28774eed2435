-- That a report tells its replies.
use Rattle.std.specs.Prelude.{◌≡◌, ◌<◌, ◌^◌, ℕ, Bool, true, false, List, Some, All, IfSome, length, slice_get}
use Rattle.tdb_base.specs.Replies.{id_of, is_full}
use Rattle.tdb_base.specs.declared.reply.Reply.{Reply}
use Rattle.trace_csv.specs.Report.{drawn_report, marked_report, report}
use Rattle.trace_csv.specs.declared.report.Summary.{Summary}

-- the reply's identifier, if it has one, is a number of 64 bits
abbrev pub HasWordId : Reply → Type 0
HasWordId reply = IfSome (id_of reply) (λ id. id < 2 ^ 64)

-- a report whose identifiers have 64 bits is the report of no other list of replies
abbrev pub OneReport : Type 0
OneReport =
    (replies others : List Reply) (summary other : Summary) → All HasWordId replies
    → report replies summary ≡ report others other → replies ≡ others

-- a report with the workers of its lines is that of no other replies and workers
abbrev pub OneDrawnReport : Type 0
OneDrawnReport =
    (replies others : List Reply) (drawn workers : List ℕ) (summary other : Summary)
    → All HasWordId replies → All (λ j. j < 2 ^ 64) drawn
    → length drawn ≡ length replies → length workers ≡ length others
    → drawn_report replies drawn summary ≡ drawn_report others workers other
    → (replies ≡ others) × (drawn ≡ workers)

-- each line has a mark, and that of a line which is answered full is false
pub record AreMarks (replies : List Reply) (firsts : List Bool) : Type 0 where
  pub one_each : length firsts ≡ length replies
  pub full : (i : ℕ) (reply : Reply) → slice_get replies i ≡ Some reply → is_full reply ≡ true
      → slice_get firsts i ≡ Some false

-- a report with the marks of its lines is that of no other replies and marks
abbrev pub OneMarkedReport : Type 0
OneMarkedReport =
    (replies others : List Reply) (firsts marks : List Bool) (summary other : Summary)
    → All HasWordId replies → AreMarks replies firsts → AreMarks others marks
    → marked_report replies firsts summary ≡ marked_report others marks other
    → (replies ≡ others) × (firsts ≡ marks)
