-- All that is told of a run's end.
use Rattle.std.specs.Prelude.{◌≡◌, ◌≢◌, ◌⊎◌, ◌≤◌, ℕ, Bool, true, false, List, Option, Some, None, IfSome}
use Rattle.std.specs.Prelude.{count_by, length}
use Rattle.std.specs.Io.KnownBytes.{Appends, IsAtEnd}
use Rattle.tdb_base.specs.Causes.{Rose}
use Rattle.tdb_base.specs.History.{Vector}
use Rattle.tdb_base.specs.Replies.{is_full}
use Rattle.tdb_base.specs.declared.reply.Reply.{Reply}
use Rattle.tdb_base.specs.declared.reply.Status.{Status}
use Rattle.tdb_base.specs.declared.reply.Status.TheVariants as s
use Rattle.command_line.specs.declared.outcome.Choice.{Choice}
use Rattle.command_line.specs.declared.outcome.Job.{Job}
use Rattle.command_line.specs.declared.outcome.Job.TheVariants.{Insert, Distinct, Bench, Check, Mark}
use Rattle.treedb.specs.Check.{IsInput, PrintsVerdict, PrintsVerdictFront}
use Rattle.treedb.specs.Lines.{HasNoTrace, form_of, is_reader, read_lines}
use Rattle.treedb.specs.Chosen.{is_check}
use Rattle.trace_csv.specs.Input.{limit}
use Rattle.trace_csv.specs.Output.{TakesFront}
use Rattle.treedb.specs.Note.{has_note, note_text, status_of}
use Rattle.treedb.specs.Reading.{EndsReading}
use Rattle.treedb.specs.Room.{HasAutomaticSizes, HasFewNodes, HasRoomFor, IsTraceWithin}
use Rattle.treedb.specs.Run.{GivesWithin, Headline, OfPrinted, Prints, PrintsFront}
use Rattle.treedb.specs.Run.{is_of_input, is_printed, reads_to_end}
use Rattle.treedb.specs.declared.ended.Ended.{Ended}
use Rattle.treedb.specs.declared.ended.Ended.TheVariants as e

-- what is told beside the status: why the input is refused, and how many lines are full
abbrev pub IsDetail : (offer : Option Choice) (told old new : Option (List ℕ)) → Ended → Type 0
IsDetail offer told old new (e.BadTrace form error) =
    IfSome offer (λ c. EndsReading c told (e.BadTrace form error))
IsDetail offer told old new e.NoReport = IfSome offer (λ c. EndsReading c told e.NoReport)
IsDetail offer told old new (e.WrongReport line) = IfSome offer (λ c. EndsReading c told (e.WrongReport line))
IsDetail offer told old new e.Refuted = Unit {0}
IsDetail offer told old new (e.Full lines) = (printed : Prints offer told old new s.Full)
    × (count_by is_full printed.run.replies ≡ lines)
IsDetail offer told old new e.Done = Unit {0}
IsDetail offer told old new e.Usage = Unit {0}
IsDetail offer told old new e.TooMuch = Unit {0}
IsDetail offer told old new e.ReadFault = Unit {0}
IsDetail offer told old new e.WriteFault = Unit {0}
IsDetail offer told old new e.NoMemory = Unit {0}

-- a source as contracts see it, before a run and after it
pub record SourceStep (S : Type 0) : Type 0 where
  pub left : S → Option (List ℕ)
  pub faults : S → ℕ
  pub old : S
  pub new : S

-- a sink likewise
pub record SinkStep (K : Type 0) : Type 0 where
  pub taken : K → Option (List ℕ)
  pub faults : K → ℕ
  pub settled : K → Bool
  pub old : K
  pub new : K

-- this is told of a choice that inserts lines
abbrev pub IfInserts : Option Choice → Type 0 → Type 0
IfInserts offer Fact = IfSome offer (λ c. is_check c.job ≡ false → Fact)

-- this is told of a choice that checks a report
abbrev pub IfChecks : Option Choice → (Choice → Type 0) → Type 0
IfChecks offer Fact = IfSome offer (λ c. is_check c.job ≡ true → Fact c)

-- no trace and report of its lines stand in the bytes
abbrev pub HasNoReport : Choice → List ℕ → Type 0
HasNoReport c bytes = (trace : List Vector) (replies : List Reply) → IsInput c bytes trace replies → ⊥

-- a run of what the words choose ended with this status, and left its source and its sink so
pub record Outcome {S K : Type 0} (offer : Option Choice) (source : SourceStep S) (sink : SinkStep K)
    (status : Status) : Type 0 where
  -- with `Done` or `Full` the sink took all of the text: that of replies to the lines, which form one history
  pub replies_form_one_history : is_printed status ≡ true → IfInserts offer
      (Prints offer (source.left source.old) (sink.taken sink.old) (sink.taken sink.new) status)
  -- where a report is checked, with `Done` or `Refuted`: that of the verdict, which is `yes` exactly where
  -- some history has the report's replies
  pub verdict : is_printed status ≡ true → IfChecks offer
      (λ c. PrintsVerdict c (source.left source.old) (sink.taken sink.old) (sink.taken sink.new) status)
  pub settled : is_printed status ≡ true → sink.settled sink.new ≡ true
  -- with `WriteFault` it took a front of the text, and with all else nothing
  pub front : status ≡ s.WriteFault → IfInserts offer
      (PrintsFront offer (source.left source.old) (sink.taken sink.old) (sink.taken sink.new))
  pub verdict_front : status ≡ s.WriteFault → IfChecks offer
      (λ c. PrintsVerdictFront c (source.left source.old) (sink.taken sink.old) (sink.taken sink.new))
  pub write_fault : status ≡ s.WriteFault → Rose (sink.faults sink.old) (sink.faults sink.new)
  pub untouched : is_printed status ≡ false → status ≢ s.WriteFault → sink.new ≡ sink.old
  -- the words
  pub usage : status ≡ s.Usage → offer ≡ None
  pub refused_words : offer ≡ None → (status ≡ s.Usage) ⊎ (status ≡ s.NoMemory)
  -- the input is read to its end before it is looked at
  pub end : reads_to_end status ≡ true
      → IfSome offer (λ c. is_reader c.job ≡ true → IsAtEnd (source.left source.new))
  pub unread : offer ≡ None → source.new ≡ source.old
  pub drawn : IfSome offer (λ c. is_reader c.job ≡ false → source.new ≡ source.old)
  pub of_input : is_of_input status ≡ true → IfSome offer (λ c. is_reader c.job ≡ true)
  pub read_fault : status ≡ s.ReadFault → Rose (source.faults source.old) (source.faults source.new)
  pub gave : GivesWithin (source.left source.old) (source.left source.new) status
  pub bad_trace : status ≡ s.BadTrace
      → IfSome offer (λ c. IfSome (source.left source.old) (λ bytes. HasNoTrace c bytes))
  pub bad_report : status ≡ s.BadReport
      → IfSome offer (λ c. (c.job ≡ Check) × IfSome (source.left source.old) (HasNoReport c))

-- bytes that are a valid input: a trace, and for a check a report of its lines too
abbrev pub IsValidInput : Job → Choice → List ℕ → Type 0
IsValidInput Insert c bytes = (lines : List Vector) × (read_lines c bytes ≡ Some lines)
IsValidInput Distinct c bytes = (lines : List Vector) × (read_lines c bytes ≡ Some lines)
IsValidInput Bench c bytes = Unit {0}
IsValidInput Check c bytes = (trace : List Vector) × (replies : List Reply) × IsInput c bytes trace replies
IsValidInput Mark c bytes = (lines : List Vector) × (read_lines c bytes ≡ Some lines)

-- where nothing failed, and the input is valid and within the limit, the text was written, or memory ran out
abbrev pub IsComplete : {S K : Type 0} → Option Choice → SourceStep S → SinkStep K → Status → Type 0
IsComplete offer source sink status = (Rose (source.faults source.old) (source.faults source.new) → ⊥)
    → (Rose (sink.faults sink.old) (sink.faults sink.new) → ⊥)
    → IfSome offer (λ c. IfSome (source.left source.old) (λ bytes. length bytes ≤ limit
    → IsValidInput c.job c bytes → (is_printed status ≡ true) ⊎ (status ≡ s.NoMemory)))

-- where nothing failed, and a valid input, or what is drawn, has lines of which this holds, all of them were
-- inserted, or memory ran out
abbrev pub IsDoneWhere : {S K : Type 0} → (Choice → List Vector → Type 0) → Option Choice → SourceStep S
    → SinkStep K → Status → Type 0
IsDoneWhere Holds offer source sink status =
    (Rose (source.faults source.old) (source.faults source.new) → ⊥)
    → (Rose (sink.faults sink.old) (sink.faults sink.new) → ⊥)
    → IfSome offer (λ c. (trace : List Vector) → IsTraceWithin c (source.left source.old) trace
    → Holds c trace → (status ≡ s.Done) ⊎ (status ≡ s.NoMemory))

-- the outcome, and what is told beside the status
pub record EndsAs {S K : Type 0} (offer : Option Choice) (source : SourceStep S) (sink : SinkStep K)
    (ended : Ended) : Type 0 where
  pub outcome : Outcome offer source sink (status_of ended)
  pub detail : IsDetail offer (source.left source.old) (sink.taken sink.old) (sink.taken sink.new) ended

-- the notes took the text of an end, or a front of it where a fault rose
pub record IsNoted {N : Type 0} (notes : SinkStep N) (ended : Ended) : Type 0 where
  pub front : TakesFront (notes.taken notes.old) (notes.taken notes.new) (note_text ended)
  pub exact : (Rose (notes.faults notes.old) (notes.faults notes.new) → ⊥)
      → Appends (notes.taken notes.old) (notes.taken notes.new) (note_text ended)

-- they took the note of some end with this status
pub record IsNote {S K N : Type 0} (offer : Option Choice) (source : SourceStep S) (sink : SinkStep K)
    (notes : SinkStep N) (status : Status) : Type 0 where
  pub ended : Ended
  pub status_is : status ≡ status_of ended
  pub detail : IsDetail offer (source.left source.old) (sink.taken sink.old) (sink.taken sink.new) ended
  pub noted : IsNoted notes ended

-- all that a run of what the words choose leaves
pub record RunEnds {S K N : Type 0} (offer : Option Choice) (source : SourceStep S) (sink : SinkStep K)
    (notes : SinkStep N) (status : Status) : Type 0 where
  -- with `Done` or `Full`, of each run whose text the sink took
  pub headline : is_printed status ≡ true
      → OfPrinted offer (source.left source.old) (sink.taken sink.old) (sink.taken sink.new)
      (λ run text. Headline run text)
  -- and that there is such a run, and what else became of source and sink
  pub outcome : Outcome offer source sink status
  -- that a run of a valid input comes through follows from it
  pub complete : IsComplete offer source sink status
  -- and that none of its lines is full where the tables have room for all of them, as automatic ones do of
  -- signed lines with few nodes and of all unsigned ones
  pub done_with_room : IsDoneWhere HasRoomFor offer source sink status
  pub done_by_default : IsDoneWhere
      (λ c trace. HasAutomaticSizes c × HasFewNodes (form_of c) trace) offer source sink status
  -- the note of the end, which is handed on whole; there is none for `Done` and `Refuted`
  pub note : IsNote offer source sink notes status
  pub note_settled : has_note status ≡ true → (Rose (notes.faults notes.old) (notes.faults notes.new) → ⊥)
      → notes.settled notes.new ≡ true
  pub no_note : has_note status ≡ false → notes.new ≡ notes.old
