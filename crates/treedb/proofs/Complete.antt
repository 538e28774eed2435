-- Completeness: a run of a valid input in which nothing failed wrote its text, or ran out of memory.
use Rattle.std.proofs.Common.{◌≡◌, ◌≤◌, ◌∙◌, ℕ, List, length, true, Option, Some, None, refl, sym, ap, subst, inl, inr, arith, take, length-append}
use Rattle.std.specs.Prelude.{◌⊎◌, IfSome}
use Rattle.std.specs.Io.KnownBytes.{Consumes}
use Rattle.tdb_base.specs.Causes.{Rose}
use Rattle.tdb_base.specs.declared.reply.Status.{Status}
use Rattle.tdb_base.specs.declared.reply.Status.TheVariants as s
use Rattle.trace_csv.specs.Input.{limit}
use Rattle.run_check.specs.Cut.{IsCut}
use Rattle.run_check.proofs.Verdicts.{least-same}
use Rattle.command_line.specs.declared.outcome.Job.{Job}
use Rattle.command_line.specs.declared.outcome.Job.TheVariants.{Insert, Distinct, Bench, Check, Mark}
use Rattle.command_line.specs.declared.outcome.Choice.{Choice}
use Rattle.treedb.specs.Lines.{HasNoTrace, IsTraceText, read_lines}
use Rattle.treedb.specs.Outcome.{HasNoReport, IsComplete, IsValidInput, Outcome, SinkStep, SourceStep}
use Rattle.treedb.specs.Run.{is_printed}
use Rattle.treedb.proofs.LineLemmas.{lines_read}

-- what a source gave is no more than it told
gave_few : (bytes : List ℕ) (new : Option (List ℕ)) (gave : List ℕ) → Consumes (Some bytes) new gave → length gave ≤ length bytes
gave_few bytes None gave taken = absurd taken
gave_few bytes (Some rest) gave taken = (let long = ap (λ (x : List ℕ). length x) taken ∙ length-append gave rest in omega (arith, long))

-- a valid input has a trace
valid_trace : (c : Choice) (bytes : List ℕ) (job : Job) → c.job ≡ job → IsValidInput job c bytes → (text : List ℕ) → IsTraceText job bytes text → read_lines c text ≡ None → ⊥
valid_trace c bytes Insert is valid text whole none = (let same = ap (λ (x : List ℕ). read_lines c x) (sym whole) ∙ none in let lines = valid.1 in cc (same, lines))
valid_trace c bytes Distinct is valid text whole none = (let same = ap (λ (x : List ℕ). read_lines c x) (sym whole) ∙ none in let lines = valid.1 in cc (same, lines))
valid_trace c bytes Mark is valid text whole none = (let same = ap (λ (x : List ℕ). read_lines c x) (sym whole) ∙ none in let lines = valid.1 in cc (same, lines))
valid_trace c bytes Bench is valid text whole none = whole
valid_trace c bytes Check is valid text cut none =
    let input = valid.2 in
    let place : cut.1.place ≡ input.has_trace.cut.place = least-same (IsCut bytes) cut.1.place input.has_trace.cut.place cut.1.first input.has_trace.cut.first in
    let same : input.has_trace.text ≡ text = input.has_trace.cut.text_is ∙ ap (λ (n : ℕ). take n bytes) (sym place) ∙ sym cut.1.text_is in
    let lines = lines_read c input.has_trace.text valid.0 input.has_trace.lines in
    let other = ap (λ (x : List ℕ). read_lines c x) same ∙ none in
    cc (lines, other)

module _ {S K : Type 0} (source : SourceStep S) (sink : SinkStep K) (read : Rose (source.faults source.old) (source.faults source.new) → ⊥)
    (wrote : Rose (sink.faults sink.old) (sink.faults sink.new) → ⊥) where
  pub by_status : (c : Choice) (bytes : List ℕ) (status : Status) → Outcome (Some c) source sink status → source.left source.old ≡ Some bytes → length bytes ≤ limit → IsValidInput c.job c bytes
      → (is_printed status ≡ true) ⊎ (status ≡ s.NoMemory)
  by_status c bytes s.Done outcome told few valid = inl refl
  by_status c bytes s.Full outcome told few valid = inl refl
  by_status c bytes s.Refuted outcome told few valid = inl refl
  by_status c bytes s.NoMemory outcome told few valid = inr refl
  by_status c bytes s.Usage outcome told few valid = (let none = outcome.usage refl in cc none)
  by_status c bytes s.ReadFault outcome told few valid = absurd (read (outcome.read_fault refl))
  by_status c bytes s.WriteFault outcome told few valid = absurd (wrote (outcome.write_fault refl))
  by_status c bytes s.TooMuch outcome told few valid =
      let gave = outcome.gave in
      let most = gave_few bytes (source.left source.new) gave.gave (subst (λ (o : Option (List ℕ)). Consumes o (source.left source.new) gave.gave) told gave.given) in
      let much = gave.too_much.0 refl in
      absurd (omega (arith, most, much, few))
  by_status c bytes s.BadTrace outcome told few valid =
      let none = subst (λ (o : Option (List ℕ)). IfSome o (λ b. HasNoTrace c b)) told (outcome.bad_trace refl) in
      absurd (valid_trace c bytes c.job refl valid none.0 none.1 none.2)
  by_status c bytes s.BadReport outcome told few valid =
      let none = outcome.bad_report refl in
      let input = subst (λ (j : Job). IsValidInput j c bytes) none.0 valid in
      let no = subst (λ (o : Option (List ℕ)). IfSome o (HasNoReport c)) told none.1 in
      absurd (no input.0 input.1 input.2)

  by_told : (c : Choice) (status : Status) → Outcome (Some c) source sink status → (told : Option (List ℕ)) → source.left source.old ≡ told
      → IfSome told (λ bytes. length bytes ≤ limit → IsValidInput c.job c bytes → (is_printed status ≡ true) ⊎ (status ≡ s.NoMemory))
  by_told c status outcome None is = tt
  by_told c status outcome (Some bytes) is = λ few valid. by_status c bytes status outcome is few valid

pub complete : {S K : Type 0} (offer : Option Choice) (source : SourceStep S) (sink : SinkStep K) (status : Status) → Outcome offer source sink status → IsComplete offer source sink status
complete None source sink status outcome = λ read wrote. tt
complete (Some c) source sink status outcome = λ read wrote. by_told source sink read wrote c status outcome (source.left source.old) refl
