-- The text of a report, and where a text is wrong.
use Rattle.std.specs.Prelude.{◌≡◌, ◌≤◌, ◌<◌, ◌+◌, ◌^◌, ◌==◌, ◌⊎◌, ℕ, List, [], ◌∷◌, ◌++◌, if◌then◌else◌}
use Rattle.std.specs.Prelude.{All, Option, None, Some, length, take}
use Rattle.std.specs.List.{concat}
use Rattle.tdb_base.specs.declared.reply.Reply.{Reply}
use Rattle.trace_csv.specs.OneReport.{HasWordId}
use Rattle.trace_csv.specs.Report.{report, summary_of, summary_text}
use Rattle.trace_csv.specs.declared.report.Stats.{Stats}

-- the counts of a store are numbers of 64 bits, where they are told
pub record StatsFit (s : Stats) : Type 0 where
  pub nodes : s.nodes < 2 ^ 64
  pub stored : s.stored < 2 ^ 64
  pub raw : s.raw < 2 ^ 64

abbrev pub FitWords : Option Stats → Type 0
FitWords None = Unit {0}
FitWords (Some s) = StatsFit s

-- the bytes are the report of these replies, of which there are so many, with or without a store's counts
pub record IsReportOf (lines : ℕ) (bytes : List ℕ) (replies : List Reply) : Type 0 where
  pub count : length replies ≡ lines
  pub fit : All HasWordId replies
  pub stats : Option Stats
  pub stats_fit : FitWords stats
  pub text : bytes ≡ report replies (summary_of replies stats)

-- more bytes can make these a report of so many replies
pub record BeginsReport (lines : ℕ) (front : List ℕ) : Type 0 where
  pub more : List ℕ
  pub replies : List Reply
  pub whole : IsReportOf lines (front ++ more) replies

-- a byte in front of the first text line
abbrev pub before_line : ℕ → List (List ℕ) → List (List ℕ)
before_line b [] = (b ∷ []) ∷ []
before_line b (line ∷ lines) = (b ∷ line) ∷ lines

-- the text lines: each up to and with its line feed, the last one perhaps without
unfoldable pub text_lines : List ℕ → List (List ℕ)
text_lines [] = []
text_lines (b ∷ rest) = if b == 10 then (b ∷ []) ∷ text_lines rest else before_line b (text_lines rest)

-- the bytes to the end of a text line, which are counted from 1
abbrev pub to_line : ℕ → List ℕ → List ℕ
to_line n bytes = concat (take n (text_lines bytes))

-- the bytes are no report of so many replies, and this is the first text line to whose end they begin none,
-- or the number after the last one where all of them do
pub record IsWrongAt (lines : ℕ) (bytes : List ℕ) (n : ℕ) : Type 0 where
  pub none : (replies : List Reply) → IsReportOf lines bytes replies → ⊥
  pub before : (m : ℕ) → m < n → BeginsReport lines (to_line m bytes)
  pub here : ((1 ≤ n) × (n ≤ length (text_lines bytes)) × (BeginsReport lines (to_line n bytes) → ⊥))
      ⊎ (n ≡ length (text_lines bytes) + 1)

-- the summary of so many lines, of which so many are new, with or without the counts of a store
abbrev pub IsSummary : ℕ → ℕ → List ℕ → Type 0
IsSummary lines distinct text =
    (stats : Option Stats) × FitWords stats
    × (text ≡ summary_text (record { lines = lines; distinct = distinct; stats = stats }))
