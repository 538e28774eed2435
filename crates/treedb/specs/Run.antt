-- What a run of the program leaves behind.
use Rattle.std.specs.Prelude.{◌≡◌, ◌≢◌, ◌<◌, ◌↔◌, ℕ, Bool, true, false, List, Option, Some}
use Rattle.std.specs.Prelude.{count_by, length, ⊤}
use Rattle.std.specs.Io.KnownBytes.{Consumes, Appends}
use Rattle.std.specs.List.{list_any, range_with_len}
use Rattle.tdb_base.specs.Headline.{CountsDistinct, CountsNames, DifferentLinesDifferentIds, EachNewOnce}
use Rattle.tdb_base.specs.Headline.{EqualLinesEqualIds}
use Rattle.tdb_base.specs.History.{Vector, History}
use Rattle.tdb_base.specs.Legal.{KeepsNames}
use Rattle.tdb_base.specs.Lines.{named}
use Rattle.tdb_base.specs.Replies.{is_full, is_new}
use Rattle.tdb_base.specs.declared.reply.Reply.{Reply}
use Rattle.tdb_base.specs.declared.reply.Status.{Status}
use Rattle.tdb_base.specs.declared.reply.Status.TheVariants as s
use Rattle.region_root.specs.Compact.{compact}
use Rattle.root_plain.specs.Plain.{plain}
use Rattle.trace_csv.specs.Input.{limit}
use Rattle.trace_csv.specs.Output.{TakesFront}
use Rattle.trace_csv.specs.Report.{marked_count, summary_of, summary_text}
use Rattle.trace_csv.specs.declared.form.Form.{Form}
use Rattle.trace_csv.specs.declared.report.Stats.{Stats}
use Rattle.command_line.specs.Valid.{IsValid}
use Rattle.command_line.specs.declared.outcome.Job.{Job}
use Rattle.command_line.specs.declared.outcome.Job.TheVariants.{Insert, Distinct, Bench, Check, Mark}
use Rattle.command_line.specs.declared.outcome.Mode.{Mode}
use Rattle.command_line.specs.declared.outcome.Mode.TheVariants.{Plain, Compact}
use Rattle.command_line.specs.declared.outcome.Choice.{Choice}
use Rattle.treedb.specs.Lines.{IsTraceFor, form_of}
use Rattle.treedb.specs.Listing.{IsListing}
use Rattle.command_line.specs.Rules.{flag_count}
use Rattle.treedb.specs.Sharing.{AgreesTreated, IfMarked, IsTreated, TellsReplies, Treated, report_of}
use Rattle.work_run.specs.Marks.{EachMarkedOnce}
use Rattle.treedb.specs.Stored.{InStore}

-- the run wrote its whole text
abbrev pub is_printed : Status → Bool
is_printed s.Done = true
is_printed s.Full = true
is_printed s.Usage = false
is_printed s.BadTrace = false
is_printed s.TooMuch = false
is_printed s.ReadFault = false
is_printed s.WriteFault = false
is_printed s.NoMemory = false
is_printed s.BadReport = false
is_printed s.Refuted = true

-- what came of the input, or of its source, is the answer
abbrev pub is_of_input : Status → Bool
is_of_input s.Done = false
is_of_input s.Full = false
is_of_input s.BadTrace = true
is_of_input s.WriteFault = false
is_of_input s.Usage = false
is_of_input s.TooMuch = true
is_of_input s.ReadFault = true
is_of_input s.NoMemory = false
is_of_input s.BadReport = true
is_of_input s.Refuted = false

-- the run read its input to the end, if it reads one
abbrev pub reads_to_end : Status → Bool
reads_to_end s.Done = true
reads_to_end s.Full = true
reads_to_end s.BadTrace = true
reads_to_end s.WriteFault = true
reads_to_end s.Usage = false
reads_to_end s.TooMuch = false
reads_to_end s.ReadFault = false
reads_to_end s.NoMemory = false
reads_to_end s.BadReport = true
reads_to_end s.Refuted = true

-- what the source gave in the run: more than the limit is answered `TooMuch`, and nothing else is
pub record GivesWithin (old new : Option (List ℕ)) (status : Status) : Type 0 where
  pub gave : List ℕ
  pub given : Consumes old new gave
  pub too_much : (status ≡ s.TooMuch) ↔ (limit < length gave)

-- what stands behind the replies: a store of the mode
abbrev pub IsOfMode : Mode → Choice → List Vector → List Reply → History → Option Stats → Type 0
IsOfMode Plain c trace replies h stats = InStore plain c trace replies h stats
IsOfMode Compact c trace replies h stats =
    InStore (compact c.profile (flag_count c.profile)) c trace replies h stats

-- a run that inserts lines, of a choice over the input that a source tells: its lines, a reply for each, who
-- drew each where workers draw, its mark where lines are marked, and the one history that the replies form
pub record Run (offer : Option Choice) (told : Option (List ℕ)) : Type 0 where
  pub choice : Choice
  pub trace : List Vector
  pub replies : List Reply
  pub treated : Treated
  pub history : History
  pub stats : Option Stats
  pub chose : offer ≡ Some choice
  pub valid : IsValid choice
  pub read : IsTraceFor choice told choice.job trace
  pub shared : IsTreated choice (length trace) replies treated
  pub agrees : AgreesTreated choice treated trace replies history (range_with_len 0 choice.workers)
  pub of_mode : IsOfMode choice.mode choice trace replies history stats

-- the text that a job writes: the report, the summary alone, or the vectors that have names in rising order
abbrev pub IsText : Form → Job → List Reply → Treated → History → Option Stats → List ℕ → Type 0
IsText form Insert replies treated h stats text = text ≡ report_of treated replies (summary_of replies stats)
IsText form Distinct replies treated h stats text = IsListing form (named h) text
IsText form Bench replies treated h stats text = text ≡ summary_text (summary_of replies stats)
IsText form Check replies treated h stats text = ⊥
IsText form Mark replies treated h stats text = text ≡ report_of treated replies (summary_of replies stats)

-- where the text is a report, it is that of no other replies
abbrev pub TellsOnly : Job → List Reply → Treated → List ℕ → Type 0
TellsOnly Insert replies treated text = TellsReplies treated replies text
TellsOnly Distinct replies treated text = ⊤
TellsOnly Bench replies treated text = ⊤
TellsOnly Check replies treated text = ⊤
TellsOnly Mark replies treated text = TellsReplies treated replies text

abbrev pub IsTextOf : {offer : Option Choice} {told : Option (List ℕ)} → Run offer told → List ℕ → Type 0
IsTextOf run text =
    IsText (form_of run.choice) run.choice.job run.replies run.treated run.history run.stats text

-- where the job prints vectors and no line is full, they are those of the lines
abbrev pub PrintsTheLines : {offer : Option Choice} {told : Option (List ℕ)} → Run offer told → List ℕ
    → Type 0
PrintsTheLines run text = run.choice.job ≡ Distinct → list_any is_full run.replies ≡ false
    → IsListing (form_of run.choice) run.trace text

-- the line of each named vector is marked first once, and the count of them that is printed is the count of
-- distinct lines
pub record AreFirstOnce (trace : List Vector) (replies : List Reply) (firsts : List Bool) (h : History)
    : Type 0 where
  pub once : EachMarkedOnce trace firsts h
  pub printed_count : marked_count replies firsts ≡ count_by is_new replies

abbrev pub MarksAreFirstOnce : {offer : Option Choice} {told : Option (List ℕ)} → Run offer told → Type 0
MarksAreFirstOnce run =
    IfMarked run.treated (λ firsts. AreFirstOnce run.trace run.replies firsts run.history)

-- what holds of a run and its text
pub record Headline {offer : Option Choice} {told : Option (List ℕ)} (run : Run offer told)
    (text : List ℕ) : Type 0 where
  pub equal_lines_have_equal_identifiers : EqualLinesEqualIds run.trace run.replies
  pub different_lines_have_different_identifiers : DifferentLinesDifferentIds run.trace run.replies
  pub printed_count_is_the_number_of_names : CountsNames run.replies run.history
  pub each_distinct_line_is_new_exactly_once : EachNewOnce run.trace run.replies
  pub printed_count_is_the_number_of_distinct_lines : CountsDistinct run.trace run.replies
  pub names_are_kept_for_good : KeepsNames (flag_count run.choice.profile) run.history
  pub printed_vectors_are_those_of_the_lines : PrintsTheLines run text
  pub marks_are_first_once : MarksAreFirstOnce run

-- the sink took the text of a run, which is that of no other replies; `Full` is the status exactly where some
-- line is full
pub record Prints (offer : Option Choice) (told old new : Option (List ℕ)) (status : Status) : Type 0 where
  pub run : Run offer told
  pub text : List ℕ
  pub is_text : IsTextOf run text
  pub taken : Appends old new text
  pub only : TellsOnly run.choice.job run.replies run.treated text
  pub full : (status ≡ s.Full) ↔ (list_any is_full run.replies ≡ true)
  pub never_refuted : status ≢ s.Refuted

-- this holds of every run whose text is what the sink took
abbrev pub OfPrinted : (offer : Option Choice) (told old new : Option (List ℕ))
    → (Run offer told → List ℕ → Type 0) → Type 0
OfPrinted offer told old new P = (run : Run offer told) (text : List ℕ) → IsTextOf run text
    → Appends old new text → P run text

-- the sink took a front of the text of a run
pub record PrintsFront (offer : Option Choice) (told old new : Option (List ℕ)) : Type 0 where
  pub run : Run offer told
  pub text : List ℕ
  pub is_text : IsTextOf run text
  pub taken : TakesFront old new text
