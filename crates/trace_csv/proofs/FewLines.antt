-- A trace has no more lines than its text has bytes, and a drawn one has as many as were asked for.
use Rattle.std.proofs.Common.{◌≡◌, ◌≤◌, ◌+◌, ◌-◌, ℕ, zero, suc, List, [], ◌∷◌, length, Option, Some, None, Bool, true, false, refl, sym, ap, ◌∙◌, arith}
use Rattle.std.specs.Prelude.{◌&&◌, Result, Ok, Err, nat_le, if◌then◌else◌}
use Rattle.csv.specs.Machine.{Read, next_record}
use Rattle.csv.specs.Reading.{default_config, records_from, records_next, strip_bom}
use Rattle.csv.specs.declared.parser.State.{State}
use Rattle.csv.specs.declared.parser.State.TheVariants as st
use Rattle.rand_pcg.specs.Lcg.{Lcg}
use Rattle.trace_csv.specs.Rows.{IsBetween, csv_rows}
use Rattle.trace_csv.specs.Trace.{Form, each_from, line_of, lines_of, most_fields, put_first, trace_of}
use Rattle.trace_csv.specs.Walk.{lines_after, walk}
use Rattle.trace_csv.specs.declared.refusal.TraceError.TheVariants.{Length}
use Rattle.trace_csv.proofs.RowLemmas.{leaves, not-empty}

-- each record takes a byte
few_records : (n : ℕ) (s : State) (xs : List ℕ) → IsBetween s → length (records_from default_config n s xs) ≤ length xs
unfolding records_from
few_records zero s xs b = omega arith
few_records (suc n) s xs b = by (next_record default_config s [] [] xs) refl (λ s ys h. few_records n s ys h)
  where
    by : (o : Option Read) → next_record default_config s [] [] xs ≡ o → ((t : State) (ys : List ℕ) → IsBetween t → length (records_from default_config n t ys) ≤ length ys)
        → length (records_next (records_from default_config n) o) ≤ length xs
    by None e more = omega arith
    by (Some p) e more =
        let left = leaves xs s [] [] p e in
        let some = not-empty s xs p b e in
        let rest = more p.1 p.2 left.rest in
        let shorter = left.shorter some in
        omega (arith, rest, shorter)

-- so many lines as records
as_many : {A B E : Type 0} (f : ℕ → A → Result B E) (n : ℕ) (xs : List A) (ys : List B) → each_from f n xs ≡ Ok ys → length ys ≡ length xs
unfolding each_from
as_many f n [] ys e = let none : [] ≡ ys = cc e in ap length (sym none)
as_many {A = A} {B = B} {E = E} f n (x ∷ xs) ys e = by (f n x) (each_from f (n + 1) xs) refl e (as_many f (n + 1) xs)
  where
    by : (one : Result B E) (rest : Result (List B) E) → each_from f (n + 1) xs ≡ rest → put_first one rest ≡ Ok ys → ((zs : List B) → each_from f (n + 1) xs ≡ Ok zs → length zs ≡ length xs) → length ys ≡ suc (length xs)
    by (Ok y) (Ok zs) same e more = let is : y ∷ zs ≡ ys = cc e in ap length (sym is) ∙ ap suc (more zs same)
    by (Ok y) (Err r) same e more = cc e
    by (Err r) (Ok zs) same e more = cc e
    by (Err r) (Err t) same e more = cc e

few_rows : (form : Form) (rows : List (List (List ℕ))) (lines : List (List ℕ)) → lines_of form rows ≡ Ok lines → length lines ≡ length rows
few_rows form [] lines e = cc e
few_rows form (first ∷ rest) lines e = by (nat_le 2 (length first) && nat_le (length first) (most_fields form)) e
  where
    by : (b : Bool) → (if b then each_from (line_of form (length first)) 1 (first ∷ rest) else Err (Length 1 (length first))) ≡ Ok lines → length lines ≡ suc (length rest)
    by true e = as_many (line_of form (length first)) 1 (first ∷ rest) lines e
    by false e = cc e

pub few_stripped : (bytes : List ℕ) → length (strip_bom bytes) ≤ length bytes
unfolding strip_bom
few_stripped [] = omega arith
few_stripped (a ∷ []) = omega arith
few_stripped (a ∷ b ∷ []) = omega arith
few_stripped (a ∷ b ∷ c ∷ rest) = by _
  where
    by : (t : Bool) → length (if t then rest else a ∷ b ∷ c ∷ rest) ≤ suc (suc (suc (length rest)))
    by true = omega arith
    by false = omega arith

-- a text has no more records than bytes
pub few_rows_of : (bytes : List ℕ) → length (csv_rows bytes) ≤ length bytes
few_rows_of bytes =
    let few = few_records (length (strip_bom bytes) + 1) st.StartRecord (strip_bom bytes) tt in
    omega (arith, few, few_stripped bytes)

pub few_lines : (form : Form) (bytes : List ℕ) (lines : List (List ℕ)) → trace_of form bytes ≡ Ok lines → length lines ≤ length bytes
few_lines form bytes lines e =
    let rows = few_rows form (csv_rows bytes) lines e in
    omega (arith, rows, few_rows_of bytes)

-- a drawn trace
drawn_more : (slots values count : ℕ) (random : Lcg) (line : List ℕ) → length (lines_after slots values count random line) ≡ count
unfolding lines_after
drawn_more slots values zero random line = refl
drawn_more slots values (suc count) random line = ap suc (drawn_more slots values count _ _)

pub drawn_length : (lines slots values seed : ℕ) → 1 ≤ lines → length (walk lines slots values seed) ≡ lines
drawn_length lines slots values seed some = ap suc (drawn_more slots values (lines - 1) _ _) ∙ omega arith
