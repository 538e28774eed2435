-- Why a report is refused.
use Rattle.std.specs.Prelude.{◌≡◌, ℕ, MatchOption, MatchResult, List, ◌++◌, length, All, IfSome, Option, count_by}
use Rattle.std.specs.Prelude.{Ok, Err, Result}
use Rattle.std.specs.Borrow.{Bor}
use Rattle.tdb_base.specs.Replies.{is_new}
use Rattle.tdb_base.specs.declared.reply.Reply.{Reply}
use Rattle.trace_csv.specs.OneReport.{HasWordId}
use Rattle.trace_csv.specs.Report.{reply_lines}
use Rattle.run_check.specs.Reading.{Misses, ReadsWord, wrong_line}
use Rattle.run_check.specs.Text.{IsReportOf, IsWrongAt}
use Rattle.run_check.specs.declared.refusal.ReportError.{ReportError}
use Rattle.run_check.specs.declared.refusal.ReportError.TheVariants as e
use Rattle.run_check.specs.declared.word.Fault.{Fault}

-- the word of a value, which is the text line with this number, and what follows; or where the text is wrong
abbrev pub ReadsLine : {A : Type 0} → (A → List ℕ) → (A → Type 0) → List ℕ → ℕ
    → Result (A × Bor (List ℕ)) ReportError → Type 0
ReadsLine word fits text line (Ok r) = fits r.0 × (text ≡ word r.0 ++ r.1.now)
ReadsLine word fits text line (Err error) =
    (fault : Fault) × (error ≡ e.Syntax (wrong_line line text fault)) × Misses word fits text fault

-- the same of one word
abbrev pub ReadsFixed : List ℕ → List ℕ → ℕ → Result (Bor (List ℕ)) ReportError → Type 0
ReadsFixed word text line (Ok rest) = text ≡ word ++ rest.now
ReadsFixed word text line (Err error) =
    (fault : Fault) × (error ≡ e.Syntax (wrong_line line text fault)) × ReadsWord word text (Err fault)

-- the refusal of these bytes is right; memory runs out for the replies of a report alone
abbrev pub Refuses : ℕ → List ℕ → ReportError → Type 0
Refuses lines bytes (e.Syntax n) = IsWrongAt lines bytes n
Refuses lines bytes e.NoMemory = (replies : List Reply) × IsReportOf lines bytes replies

-- the same of all bytes that are the lines of so many replies, of which so many are new, and then this text
abbrev pub RefusesAfter : ℕ → ℕ → List ℕ → ReportError → Type 0
RefusesAfter lines distinct text error =
    (bytes : List ℕ) (replies : List Reply) → length replies ≡ lines → count_by is_new replies ≡ distinct
    → All HasWordId replies
    → bytes ≡ reply_lines 0 replies ++ text → Refuses lines bytes error

-- the bytes are the lines of these replies, of which there are so many, and then this text
pub record HasReadLines (lines : ℕ) (bytes : List ℕ) (replies : List Reply) (text : List ℕ) : Type 0 where
  pub count : length replies ≡ lines
  pub fit : All HasWordId replies
  pub cut : bytes ≡ reply_lines 0 replies ++ text

-- so many lines are read, of which so many are new, and this text is left; the replies are those that were
-- kept, where there was memory for them
pub record IsFront {V : Type 0} (items : V → List Reply) (lines : ℕ) (bytes : List ℕ) (kept : Option V)
    (new : ℕ) (text : List ℕ) : Type 0 where
  pub replies : List Reply
  pub read : HasReadLines lines bytes replies text
  pub new_is : new ≡ count_by is_new replies
  pub kept_are : IfSome kept (λ v. items v ≡ replies)

-- the answer is these replies, or memory ran out
abbrev pub GivesReplies : {V : Type 0} → (V → List Reply) → Result V ReportError → List Reply → Type 0
GivesReplies items result replies = MatchResult result (λ v. items v ≡ replies) (λ error. error ≡ e.NoMemory)

-- the answer is the replies that were kept, or want of memory where none were
abbrev pub GivesKept : {V : Type 0} → Option V → Result V ReportError → Type 0
GivesKept kept result = MatchOption kept (result ≡ Err e.NoMemory) (λ v. result ≡ Ok v)
