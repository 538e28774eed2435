-- The lines that a choice reads and draws, and the form of their numbers.
use Rattle.std.proofs.Common.{◌≡◌, ◌≢◌, ◌≤◌, ◌<◌, ◌^◌, ◌%◌, ℕ, ℤ, List, [], ◌∷◌, length, get_or, Bool, true, false, Option, Some, None, refl, subst, sym, ap, ◌∙◌, arith, ⊎_elim}
use Rattle.std.specs.Prelude.{◌&&◌, ◌⊎◌, All, IfOk, IfSome, Result, Ok, Err, if◌then◌else◌}
use Rattle.std.proofs.Math.Pow.{pow_mono}
use Rattle.std.proofs.lemmas.List.Elements.{All-contains, All-contains_itself, All-weaker}
use Rattle.tdb_base.specs.History.{Vector}
use Rattle.trace_csv.specs.Rows.{csv_rows}
use Rattle.trace_csv.specs.Signed.{AreHalves, halves}
use Rattle.trace_csv.specs.Trace.{line_of, lines_of, trace_of}
use Rattle.trace_csv.specs.declared.form.Form.{Form}
use Rattle.trace_csv.specs.declared.form.Form.TheVariants.{Unsigned, Signed}
use Rattle.trace_csv.proofs.BytesTaken.{signed-least}
use Rattle.trace_csv.proofs.EachLemmas.{each-length}
use Rattle.trace_csv.proofs.SignedLemmas.{trace-halves}
use Rattle.trace_csv.proofs.TraceLemmas.{lines-of}
use Rattle.command_line.specs.Valid.{IsProfile, IsValid}
use Rattle.trace_csv.specs.declared.refusal.TraceError.{TraceError}
use Rattle.command_line.specs.declared.outcome.Job.{Job}
use Rattle.command_line.specs.declared.outcome.Job.TheVariants.{Insert, Distinct, Bench, Check, Mark}
use Rattle.command_line.specs.declared.outcome.Choice.{Choice}
use Rattle.treedb.specs.Chosen.{is_check}
use Rattle.treedb.specs.Lines.{AreLinesOf, AreSignedLines, IsReadable, IsTraceFor, IsTraceText, form_of, is_reader, lines_in, read_lines, slot_bits}
use Rattle.treedb.specs.ReadBack.{AreVectorsOf, IsOfLines, vectors}
use Rattle.treedb.specs.declared.distinct.ReadBack.{ReadBack}
use Rattle.treedb.specs.Reading.{IsRefusedFor}

-- the form of a choice is one of two
pub by-form : (P : Form → Type 0) (c : Choice) → P (Unsigned c.profile) → P Signed → P (form_of c)
unfolding form_of
by-form P c unsigned signed = by (is_reader c.job && c.signed)
  where
    by : (b : Bool) → P (if b then Signed else Unsigned c.profile)
    by true = signed
    by false = unsigned

-- signed where the words say so and a trace is read, and else unsigned
reads-one : (job : Job) → job ≢ Bench → is_reader job ≡ true
reads-one Insert other = refl
reads-one Distinct other = refl
reads-one Bench other = absurd (other refl)
reads-one Check other = refl
reads-one Mark other = refl

pub signed-form : (c : Choice) → c.signed ≡ true → c.job ≢ Bench → form_of c ≡ Signed
unfolding form_of
signed-form c is other = let one = reads-one c.job other in rw (one, is) refl

pub unsigned-form : (c : Choice) → c.signed ≡ false → form_of c ≡ Unsigned c.profile
unfolding form_of
unsigned-form c is = rw is (by (is_reader c.job))
  where
    by : (b : Bool) → (if b && false then Signed else Unsigned c.profile) ≡ Unsigned c.profile
    by true = refl
    by false = refl

-- lines that are drawn are unsigned
pub drawn-form : (c : Choice) → c.job ≡ Bench → form_of c ≡ Unsigned c.profile
unfolding form_of
drawn-form c job = rw job refl

-- it can be read, and its slots have no more bits than the profile's
by-profile : (P : ℕ → Type 0) (width : ℕ) → P 16 → P 28 → P 31 → IsProfile width → P width
by-profile P width a b d profile = ⊎_elim
    (λ (e : width ≡ 16). subst P (sym e) a)
    (λ (o : (width ≡ 28) ⊎ (width ≡ 31)). ⊎_elim (λ (e : width ≡ 28). subst P (sym e) b) (λ (e : width ≡ 31). subst P (sym e) d) o)
    profile

pub readable : (c : Choice) → IsValid c → IsReadable (form_of c)
readable c valid = by-form IsReadable c
    (by-profile (λ (w : ℕ). IsReadable (Unsigned w)) c.profile (omega arith, omega arith) (omega arith, omega arith) (omega arith, omega arith) valid.in_range.profile)
    tt

few-bits : (c : Choice) → IsValid c → slot_bits (form_of c) ≤ c.profile
few-bits c valid = by-form (λ (f : Form). slot_bits f ≤ c.profile) c (omega arith)
    (by-profile (λ (w : ℕ). 16 ≤ w) c.profile (omega arith) (omega arith) (omega arith) valid.in_range.profile)

pub below-profile : (c : Choice) (trace : List Vector) → IsValid c → All (λ line. All (λ n. n < 2 ^ slot_bits (form_of c)) line) trace → All (λ line. All (λ n. n < 2 ^ c.profile) line) trace
below-profile c trace valid below =
    let most : 2 ^ slot_bits (form_of c) ≤ 2 ^ c.profile = pow_mono (few-bits c valid) in
    All-weaker (λ (line : Vector). All (λ n. n < 2 ^ slot_bits (form_of c)) line) (λ (line : Vector). All (λ n. n < 2 ^ c.profile) line)
    (λ line small. All-weaker (λ (n : ℕ). n < 2 ^ slot_bits (form_of c)) (λ (n : ℕ). n < 2 ^ c.profile) (λ n less. omega (arith, less, most)) line small) trace below

-- the lines that bytes write in a form
lines-some : (form : Form) (rows : List (List (List ℕ))) (trace : List Vector) → lines_of form rows ≡ Ok trace → 0 < length trace
lines-some form [] trace e = cc e
lines-some form (row ∷ rest) trace e =
    let of = lines-of form (row ∷ rest) trace e in
    let long = each-length (line_of form of.fields) 1 (row ∷ rest) trace of.read in
    omega (arith, long)

pub lines-of-form : (form : Form) (bytes : List ℕ) (trace : List Vector) → trace_of form bytes ≡ Ok trace → AreLinesOf form trace
lines-of-form (Unsigned width) bytes trace e = tt
lines-of-form Signed bytes trace e = record {
  some = lines-some Signed (csv_rows bytes) trace e;
  least = signed-least bytes trace e;
  halves = trace-halves bytes trace e;
}

pub lines-in-form : (form : Form) (bytes : List ℕ) (result : Result (List Vector) TraceError) → IfOk result (λ trace. trace_of form bytes ≡ Ok trace) → IfOk result (AreLinesOf form)
lines-in-form form bytes (Ok trace) e = lines-of-form form bytes trace e
lines-in-form form bytes (Err error) e = tt

-- vectors of lines of a form are of the form
halves-even : (v : List ℤ) → length (halves v) % 2 ≡ 0
halves-even [] = refl
halves-even (z ∷ v) = let rest = halves-even v in omega (arith, rest)

signed-vectors : (trace : List Vector) (back : ReadBack) → AreSignedLines trace → IsOfLines trace back → AreVectorsOf Signed back
signed-vectors trace back lines of =
    let first = get_or trace 0 [] in
    let size : length first ≡ back.slots = of.slots 0 [] lines.some in
    let long : 4 ≤ length first = lines.least 0 [] lines.some in
    let half : AreHalves first = lines.halves 0 [] lines.some in
    let even : length first % 2 ≡ 0 = ap (λ (x : List ℕ). length x % 2) half.is ∙ halves-even half.vector in
    record {
      least = omega (arith, size, long);
      even = ap (λ (n : ℕ). n % 2) (sym size) ∙ even;
      halves = λ k d less.
          let v = get_or (vectors back) k d in
          All-contains AreHalves trace v lines.halves (of.among v (All-contains_itself (vectors back) k d less));
    }

pub vectors-of-form : (form : Form) (trace : List Vector) (back : ReadBack) → AreLinesOf form trace → IsOfLines trace back → AreVectorsOf form back
vectors-of-form (Unsigned width) trace back lines of = tt
vectors-of-form Signed trace back lines of = signed-vectors trace back lines of

-- the lines that were read are those of the bytes
pub lines_read : (c : Choice) (bytes : List ℕ) (lines : List Vector) → trace_of (form_of c) bytes ≡ Ok lines → read_lines c bytes ≡ Some lines
lines_read c bytes lines is = rw is refl

pub lines_were : (c : Choice) (bytes : List ℕ) (lines : List Vector) → read_lines c bytes ≡ Some lines → trace_of (form_of c) bytes ≡ Ok lines
lines_were c bytes lines is = by (trace_of (form_of c) bytes) is
  where
    by : (result : Result (List Vector) TraceError) → lines_in result ≡ Some lines → result ≡ Ok lines
    by (Ok found) same = cc same
    by (Err error) same = cc same

-- bytes that are refused have no lines
pub none_read : (c : Choice) (bytes : List ℕ) (form : Form) (error : TraceError) → IsRefusedFor c bytes form error → read_lines c bytes ≡ None
none_read c bytes form error is = subst (λ (f : Form). lines_in (trace_of f bytes) ≡ None) is.0 (rw is.1 refl)

-- a job that inserts lines and doesn't draw them reads them: all bytes are its trace
pub reads : (job : Job) → is_check job ≡ false → job ≢ Bench → is_reader job ≡ true
reads Insert inserts other = refl
reads Distinct inserts other = refl
reads Bench inserts other = absurd (other refl)
reads Check inserts other = cc inserts
reads Mark inserts other = refl

pub reads_whole : (job : Job) → is_check job ≡ false → job ≢ Bench → (bytes : List ℕ) → IsTraceText job bytes bytes
reads_whole Insert inserts other bytes = refl
reads_whole Distinct inserts other bytes = refl
reads_whole Bench inserts other bytes = absurd (other refl)
reads_whole Check inserts other bytes = cc inserts
reads_whole Mark inserts other bytes = refl

pub reads_trace : (c : Choice) (told : Option (List ℕ)) (trace : List Vector) (job : Job) → is_check job ≡ false → job ≢ Bench
    → IfSome told (λ bytes. read_lines c bytes ≡ Some trace) → IsTraceFor c told job trace
reads_trace c told trace Insert inserts other lines = lines
reads_trace c told trace Distinct inserts other lines = lines
reads_trace c told trace Bench inserts other lines = absurd (other refl)
reads_trace c told trace Check inserts other lines = cc inserts
reads_trace c told trace Mark inserts other lines = lines

pub not_check : (job : Job) → job ≢ Check → is_check job ≡ false
not_check Insert other = refl
not_check Distinct other = refl
not_check Bench other = refl
not_check Check other = absurd (other refl)
not_check Mark other = refl
