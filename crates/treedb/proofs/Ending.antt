-- From the end of a run and its note to all that the run leaves.
use Rattle.std.proofs.Common.{◌≡◌, true, false, List, Option, Some, refl, subst, sym, ap, ◌∙◌}
use Rattle.tdb_base.specs.Causes.{Rose}
use Rattle.tdb_base.specs.declared.reply.Status.{Status}
use Rattle.clap.specs.Words.{Text}
use Rattle.command_line.specs.Choose.{chosen}
use Rattle.command_line.specs.declared.outcome.Mode.TheVariants.{Plain}
use Rattle.command_line.specs.declared.outcome.Choice.{Choice}
use Rattle.treedb.specs.Chosen.{chosen_plain}
use Rattle.treedb.specs.Note.{has_note, status_of}
use Rattle.treedb.specs.Outcome.{EndsAs, IsNoted, Outcome, RunEnds, SinkStep, SourceStep}
use Rattle.treedb.specs.declared.ended.Ended.{Ended}
use Rattle.treedb.proofs.Complete.{complete}
use Rattle.treedb.proofs.Done.{done_by_default, done_with_room}
use Rattle.treedb.proofs.RunLemmas.{headline}

pub run_ends : {S K N : Type 0} (offer : Option Choice) (source : SourceStep S) (sink : SinkStep K) (notes : SinkStep N) (ended : Ended) (status : Status)
    → EndsAs offer source sink ended → status ≡ status_of ended → IsNoted notes ended
    → (has_note (status_of ended) ≡ true → (Rose (notes.faults notes.old) (notes.faults notes.new) → ⊥) → notes.settled notes.new ≡ true)
    → (has_note (status_of ended) ≡ false → notes.new ≡ notes.old) → RunEnds offer source sink notes status
run_ends offer source sink notes ended status ends is noted settled none = record {
  headline = λ printed run text is_text taken. headline offer (source.left source.old) run text is_text;
  outcome = subst (λ (t : Status). Outcome offer source sink t) (sym is) ends.outcome;
  complete = complete offer source sink status (subst (λ (t : Status). Outcome offer source sink t) (sym is) ends.outcome);
  done_with_room = done_with_room offer source sink status (subst (λ (t : Status). Outcome offer source sink t) (sym is) ends.outcome);
  done_by_default = done_by_default offer source sink status (subst (λ (t : Status). Outcome offer source sink t) (sym is) ends.outcome);
  note = record { ended = ended; status_is = is; detail = ends.detail; noted = noted };
  note_settled = λ noting. settled (sym (ap has_note is) ∙ noting);
  no_note = λ silent. none (sym (ap has_note is) ∙ silent);
}

-- words that choose plain mode
pub plain_chosen : (words : List Text) (c : Choice) → chosen words ≡ Some c → c.mode ≡ Plain → chosen_plain words ≡ Some c
plain_chosen words c chose mode = rw (chose, mode) refl

-- the same end, of a run of another choice that is the same
pub ends_for : {S K : Type 0} {source : SourceStep S} {sink : SinkStep K} {ended : Ended} (some other : Option Choice)
    → some ≡ other → EndsAs some source sink ended → EndsAs other source sink ended
ends_for {source = source} {sink = sink} {ended = ended} some other same = subst (λ (o : Option Choice). EndsAs o source sink ended) same

pub run_ends_for : {S K N : Type 0} {source : SourceStep S} {sink : SinkStep K} {notes : SinkStep N} {status : Status} (some other : Option Choice)
    → some ≡ other → RunEnds some source sink notes status → RunEnds other source sink notes status
run_ends_for {source = source} {sink = sink} {notes = notes} {status = status} some other same = subst (λ (o : Option Choice). RunEnds o source sink notes status) same
