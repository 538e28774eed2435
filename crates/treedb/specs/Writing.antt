-- How a run ends that wrote its text.
use Rattle.std.specs.Prelude.{◌≡◌, ◌≢◌, ◌⊎◌, ℕ, zero, suc, true, List, Option, count_by}
use Rattle.std.specs.Io.KnownBytes.{Appends}
use Rattle.trace_csv.specs.Output.{TakesFront}
use Rattle.tdb_base.specs.Causes.{Rose}
use Rattle.tdb_base.specs.History.{History}
use Rattle.tdb_base.specs.Replies.{is_full}
use Rattle.tdb_base.specs.declared.reply.Reply.{Reply}
use Rattle.command_line.specs.declared.outcome.Choice.{Choice}
use Rattle.treedb.specs.Lines.{form_of}
use Rattle.treedb.specs.Outcome.{SinkStep}
use Rattle.treedb.specs.Run.{IsText, TellsOnly}
use Rattle.treedb.specs.Sharing.{treated}
use Rattle.treedb.specs.declared.fill.Answered.{Answered}
use Rattle.treedb.specs.declared.ended.Ended.{Ended}
use Rattle.treedb.specs.declared.ended.Ended.TheVariants as e

-- where so many lines are full
abbrev pub ended_with_full : ℕ → Ended
ended_with_full zero = e.Done
ended_with_full (suc n) = e.Full (suc n)

abbrev pub ended_with : List Reply → Ended
ended_with replies = ended_with_full (count_by is_full replies)

-- the sink took a text, and the run ends as the replies are full or not; or it failed after a front of the
-- text
abbrev pub WritesText : List ℕ → List Reply → (old new : Option (List ℕ)) → Ended → Type 0
WritesText text replies old new ended =
    (Appends old new text × (ended ≡ ended_with replies)) ⊎ (TakesFront old new text × (ended ≡ e.WriteFault))

-- the text of a choice's job was written, or a front of it, and the run ends so
pub record WritesAnswered {K : Type 0} (c : Choice) (answered : Answered) (h : History) (sink : SinkStep K)
    (ended : Ended) : Type 0 where
  pub text : List ℕ
  pub is_text : IsText (form_of c) c.job answered.inserted.replies.items (treated answered.inserted) h
      answered.stats text
  pub written : WritesText text answered.inserted.replies.items
      (sink.taken sink.old) (sink.taken sink.new) ended
  pub only : ended ≢ e.WriteFault
      → TellsOnly c.job answered.inserted.replies.items (treated answered.inserted) text
  pub settled : ended ≢ e.WriteFault → sink.settled sink.new ≡ true
  pub fault : ended ≡ e.WriteFault → Rose (sink.faults sink.old) (sink.faults sink.new)
