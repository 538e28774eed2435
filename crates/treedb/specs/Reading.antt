-- What reading an input leaves of its source, and why it is refused.
use Rattle.std.specs.Prelude.{◌≡◌, ◌≢◌, ◌<◌, ◌↔◌, ℕ, List, Option, Result, Ok, Err, IfSome, length}
use Rattle.std.specs.Io.KnownBytes.{Consumes}
use Rattle.trace_csv.specs.Input.{limit}
use Rattle.trace_csv.specs.Trace.{trace_of}
use Rattle.trace_csv.specs.declared.form.Form.{Form}
use Rattle.trace_csv.specs.declared.refusal.TraceError.{TraceError}
use Rattle.trace_csv.specs.declared.refusal.TraceError.TheVariants as t
use Rattle.command_line.specs.declared.outcome.Choice.{Choice}
use Rattle.run_check.specs.Cut.{IsWhole}
use Rattle.command_line.specs.declared.outcome.Job.TheVariants.{Check}
use Rattle.treedb.specs.Check.{IsWrongInput}
use Rattle.treedb.specs.Lines.{IsTraceText, form_of}
use Rattle.treedb.specs.declared.ended.Ended.{Ended}
use Rattle.treedb.specs.declared.ended.Ended.TheVariants as e

-- the bytes are refused for this, the first fault of their trace in the form of the choice
abbrev pub IsRefusedFor : Choice → List ℕ → Form → TraceError → Type 0
IsRefusedFor c bytes form error =
    (form ≡ form_of c) × (trace_of form bytes ≡ Err error) × (error ≢ t.NoMemory)

-- the trace of an input is refused for this
abbrev pub IsBadTrace : Choice → List ℕ → Form → TraceError → Type 0
IsBadTrace c bytes form error =
    (text : List ℕ) × IsTraceText c.job bytes text × IsRefusedFor c text form error

-- a run ends with a refusal of the bytes that are its input, or for want of memory
abbrev pub RefusesInput : Choice → List ℕ → Ended → Type 0
RefusesInput c bytes (e.BadTrace form error) = IsBadTrace c bytes form error
RefusesInput c bytes e.NoReport = (c.job ≡ Check) × IsWhole bytes
RefusesInput c bytes (e.WrongReport line) = (c.job ≡ Check) × IsWrongInput c bytes line
RefusesInput c bytes e.NoMemory = Unit {0}
RefusesInput c bytes e.Done = ⊥
RefusesInput c bytes e.Usage = ⊥
RefusesInput c bytes e.TooMuch = ⊥
RefusesInput c bytes (e.Full lines) = ⊥
RefusesInput c bytes e.ReadFault = ⊥
RefusesInput c bytes e.WriteFault = ⊥
RefusesInput c bytes e.Refuted = ⊥

-- or it ends so because its source gave no input
abbrev pub EndsReading : Choice → Option (List ℕ) → Ended → Type 0
EndsReading c told (e.BadTrace form error) = IfSome told (λ bytes. IsBadTrace c bytes form error)
EndsReading c told e.NoReport = (c.job ≡ Check) × IfSome told IsWhole
EndsReading c told (e.WrongReport line) = (c.job ≡ Check) × IfSome told (λ bytes. IsWrongInput c bytes line)
EndsReading c told e.NoMemory = Unit {0}
EndsReading c told e.TooMuch = Unit {0}
EndsReading c told e.ReadFault = Unit {0}
EndsReading c told e.Done = ⊥
EndsReading c told e.Usage = ⊥
EndsReading c told (e.Full lines) = ⊥
EndsReading c told e.WriteFault = ⊥
EndsReading c told e.Refuted = ⊥

-- the source was read to its end: there is what was read, or it is refused
abbrev pub ReadsToEnd : {T : Type 0} → Result T Ended → Type 0
ReadsToEnd (Ok lines) = Unit {0}
ReadsToEnd (Err (e.BadTrace form error)) = Unit {0}
ReadsToEnd (Err e.NoMemory) = ⊥
ReadsToEnd (Err e.TooMuch) = ⊥
ReadsToEnd (Err e.ReadFault) = ⊥
ReadsToEnd (Err e.Done) = ⊥
ReadsToEnd (Err e.Usage) = ⊥
ReadsToEnd (Err (e.Full lines)) = ⊥
ReadsToEnd (Err e.WriteFault) = ⊥
ReadsToEnd (Err e.NoReport) = Unit {0}
ReadsToEnd (Err (e.WrongReport line)) = Unit {0}
ReadsToEnd (Err e.Refuted) = ⊥

-- what the source gave while it was read: more than the limit is too much, and nothing else is
pub record GaveWithin {T : Type 0} (old new : Option (List ℕ)) (result : Result T Ended) : Type 0 where
  pub gave : List ℕ
  pub given : Consumes old new gave
  pub too_much : (result ≡ Err e.TooMuch) ↔ (limit < length gave)
