-- The lines of a run.
use Rattle.std.specs.Prelude.{◌≡◌, ◌+◌, ◌&&◌, ◌<◌, ◌≤◌, ℕ, Bool, true, false, List, Option, Some, None}
use Rattle.std.specs.Prelude.{Result, Ok, Err, All, IfSome, drop, if◌then◌else◌, length, take, ⊤}
use Rattle.tdb_base.specs.History.{Vector}
use Rattle.trace_csv.specs.Trace.{trace_of}
use Rattle.trace_csv.specs.declared.form.Form.{Form}
use Rattle.trace_csv.specs.declared.form.Form.TheVariants.{Unsigned, Signed}
use Rattle.trace_csv.specs.Signed.{AreHalves}
use Rattle.trace_csv.specs.Walk.{walk}
use Rattle.run_check.specs.Cut.{IsCut}
use Rattle.run_check.specs.Sentences.{IsLeast}
use Rattle.command_line.specs.declared.outcome.Job.{Job}
use Rattle.command_line.specs.declared.outcome.Job.TheVariants.{Insert, Distinct, Bench, Check, Mark}
use Rattle.command_line.specs.declared.outcome.Choice.{Choice}

-- the lines, where there are some
abbrev pub lines_in : {E : Type 0} → Result (List Vector) E → Option (List Vector)
lines_in (Ok lines) = Some lines
lines_in (Err refusal) = None

-- the job reads its input
abbrev pub is_reader : Job → Bool
is_reader Insert = true
is_reader Distinct = true
is_reader Bench = false
is_reader Check = true
is_reader Mark = true

-- how the trace of a choice writes its numbers: signed where the words say so and the job reads a trace
unfoldable pub form_of : Choice → Form
form_of c = if is_reader c.job && c.signed then Signed else Unsigned c.profile

-- the lines that some bytes write for a choice
abbrev pub read_lines : Choice → List ℕ → Option (List Vector)
read_lines c bytes = lines_in (trace_of (form_of c) bytes)

-- a form that can be read, and the bits of its slots
abbrev pub IsReadable : Form → Type 0
IsReadable (Unsigned width) = (1 ≤ width) × (width ≤ 31)
IsReadable Signed = ⊤

abbrev pub slot_bits : Form → ℕ
slot_bits (Unsigned width) = width
slot_bits Signed = 16

-- lines of signed numbers
pub record AreSignedLines (trace : List Vector) : Type 0 where
  pub some : 0 < length trace
  pub least : All (λ line. 4 ≤ length line) trace
  pub halves : All AreHalves trace

abbrev pub AreLinesOf : Form → List Vector → Type 0
AreLinesOf (Unsigned width) trace = ⊤
AreLinesOf Signed trace = AreSignedLines trace

-- the lines that a choice draws
abbrev pub drawn_lines : Choice → List Vector
drawn_lines c = walk c.lines c.slots c.values c.seed

-- bytes are cut into a trace and a report at the first line that is `#` alone
pub record IsCutInto (bytes text report : List ℕ) : Type 0 where
  pub place : ℕ
  pub first : IsLeast (IsCut bytes) place
  pub text_is : text ≡ take place bytes
  pub report_is : report ≡ drop (place + 2) bytes

-- the bytes of an input that write the trace: all, or those before the report
abbrev pub IsTraceText : Job → (bytes text : List ℕ) → Type 0
IsTraceText Insert bytes text = text ≡ bytes
IsTraceText Distinct bytes text = text ≡ bytes
IsTraceText Bench bytes text = ⊥
IsTraceText Check bytes text = (report : List ℕ) × IsCutInto bytes text report
IsTraceText Mark bytes text = text ≡ bytes

-- they write no trace
abbrev pub HasNoTrace : Choice → List ℕ → Type 0
HasNoTrace c bytes = (text : List ℕ) × IsTraceText c.job bytes text × (read_lines c text ≡ None)

-- these are the lines that a run inserts, over what its source tells
abbrev pub IsTraceFor : Choice → Option (List ℕ) → Job → List Vector → Type 0
IsTraceFor c told Insert trace = IfSome told (λ bytes. read_lines c bytes ≡ Some trace)
IsTraceFor c told Distinct trace = IfSome told (λ bytes. read_lines c bytes ≡ Some trace)
IsTraceFor c told Bench trace = trace ≡ drawn_lines c
IsTraceFor c told Check trace = ⊥
IsTraceFor c told Mark trace = IfSome told (λ bytes. read_lines c bytes ≡ Some trace)
