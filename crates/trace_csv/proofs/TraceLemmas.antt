-- The lines of a trace, record by record.
use Rattle.std.proofs.Common.{◌≡◌, ◌≤◌, ◌<◌, ◌+◌, ◌*◌, ◌^◌, ◌++◌, ◌∷◌, ℕ, List, [], length, Bool, true, false, Ok, Err, Result, ℤ, refl, sym, ap, arith, ◌∙◌, length-append, subst}
use Rattle.std.proofs.lemmas.Bool.{eq-eqb, eqb-true, le-leb, leb-true, ltb-true}
use Rattle.std.proofs.lemmas.List.Concat.{flat_map-append}
use Rattle.std.proofs.Math.Nat.{zero-mul}
use Rattle.std.specs.Prelude.{if◌then◌else◌, ◌==◌, ◌&&◌, nat_le, nat_lt, All, Option, Some, None}
use Rattle.std.specs.Int.{cast_unsigned, w32}
use Rattle.std.specs.List.{flat_map}
use Rattle.trace_csv.specs.Fields.{number}
use Rattle.trace_csv.specs.Rows.{csv_rows}
use Rattle.trace_csv.specs.Pieces.{pieces}
use Rattle.trace_csv.specs.Signed.{halves, halves_of_word}
use Rattle.trace_csv.specs.Trace.{Form, Signed, Unsigned, each_from, in_range, line_of, lines_of, map_ok, most_fields, put_first, signed_at, slot_of, slots_of, trace_of}
use Rattle.trace_csv.specs.Words.{AreRead, slots_in, spread, word_of}
use Rattle.trace_csv.specs.declared.refusal.TraceError.{TraceError}
use Rattle.trace_csv.specs.declared.refusal.TraceError.TheVariants.{Length, Ragged, TooBig}
use Rattle.trace_csv.proofs.EachLemmas.{each-all, each-length, each-more, each-stop}
use Rattle.trace_csv.proofs.PiecesLemmas.{pieces-append}

-- what an answer that was mapped is of
pub ok-of : {A B E : Type 0} (f : A → B) (r : Result A E) (y : B) → map_ok f r ≡ Ok y → (x : A) × (r ≡ Ok x) × (y ≡ f x)
ok-of f (Ok x) y e = let same : f x ≡ y = cc e in (x, refl, sym same)
ok-of f (Err w) y e = cc e

same-ok : {A E : Type 0} (r : Result A E) → r ≡ map_ok (λ x. x) r
same-ok (Ok x) = refl
same-ok (Err w) = refl

-- the halves of signed numbers are those of their words
halves-step : (r : Result ℤ TraceError) (more : Result (List ℤ) TraceError) (others : Result (List ℕ) TraceError)
    → map_ok halves more ≡ map_ok (flat_map halves_of_word) others
    → map_ok halves (put_first r more) ≡ map_ok (flat_map halves_of_word) (put_first (map_ok (cast_unsigned w32) r) others)
halves-step (Ok z) (Ok zs) (Ok ws) e = let same : halves zs ≡ flat_map halves_of_word ws = cc e in ap (λ (t : List ℕ). Ok (halves_of_word (cast_unsigned w32 z) ++ t)) same
halves-step (Ok z) (Ok zs) (Err w) e = cc e
halves-step (Ok z) (Err w) (Ok ws) e = cc e
halves-step (Ok z) (Err w) (Err v) e = e
halves-step (Err w) more others e = refl

halves-words : (row n : ℕ) (fields : List (List ℕ))
    → map_ok halves (each_from (signed_at row) n fields) ≡ map_ok (flat_map halves_of_word) (each_from (word_of Signed row) n fields)
unfolding each_from
halves-words row n [] = refl
halves-words row n (x ∷ xs) = halves-step (signed_at row n x) (each_from (signed_at row) (n + 1) xs) (each_from (word_of Signed row) (n + 1) xs) (halves-words row (n + 1) xs)

-- the slots of fields are those of their words
pub slots-words : (form : Form) (row : ℕ) (fields : List (List ℕ)) → slots_of form row fields ≡ map_ok (spread form) (each_from (word_of form row) 1 fields)
slots-words (Unsigned width) row fields = same-ok (each_from (slot_of width row) 1 fields)
slots-words Signed row fields = halves-words row 1 fields

pub spread-more : (form : Form) (words : List ℕ) (word : ℕ) → spread form (words ++ word ∷ []) ≡ spread form words ++ spread form (word ∷ [])
spread-more (Unsigned width) words word = refl
spread-more Signed words word = flat_map-append halves_of_word words (word ∷ [])

pub spread-length : (form : Form) (words : List ℕ) → length (spread form words) ≡ slots_in form (length words)
spread-length (Unsigned width) words = refl
spread-length Signed [] = refl
spread-length Signed (w ∷ words) = let rest = spread-length Signed words in omega (arith, rest)

pub spread-none : (form : Form) → spread form [] ≡ []
spread-none (Unsigned width) = refl
spread-none Signed = refl

pub slots_in-more : (form : Form) (fields : ℕ) → slots_in form (fields + 1) ≡ slots_in form fields + slots_in form 1
slots_in-more (Unsigned width) fields = refl
slots_in-more Signed fields = omega arith

pub slots_in-within : (form : Form) (a b : ℕ) → a ≤ b → slots_in form a ≤ slots_in form b
slots_in-within (Unsigned width) a b h = h
slots_in-within Signed a b h = omega (arith, h)

pub slots_in-one : (form : Form) (a b : ℕ) → slots_in form a ≡ slots_in form b → a ≡ b
slots_in-one (Unsigned width) a b e = e
slots_in-one Signed a b e = omega (arith, e)

-- a record with as many fields as the first
even-line : (form : Form) (first row : ℕ) (fields : List (List ℕ)) → length fields ≡ first → line_of form first row fields ≡ slots_of form row fields
even-line form first row fields h = let e : (length fields == first) ≡ true = eq-eqb (length fields) first h in rw e refl

pub line_of-words : (form : Form) (first row : ℕ) (fields : List (List ℕ)) (words : List ℕ) → length fields ≡ first → each_from (word_of form row) 1 fields ≡ Ok words
    → line_of form first row fields ≡ Ok (spread form words)
line_of-words form first row fields words h e =
    even-line form first row fields h ∙ slots-words form row fields ∙ ap (map_ok (spread form)) e

pub line_of-refused : (form : Form) (first row : ℕ) (fields : List (List ℕ)) (why : TraceError) → length fields ≡ first → each_from (word_of form row) 1 fields ≡ Err why
    → line_of form first row fields ≡ Err why
line_of-refused form first row fields why h e =
    even-line form first row fields h ∙ slots-words form row fields ∙ ap (map_ok (spread form)) e

-- the words of a line
pub record HasWords (form : Form) (first row : ℕ) (fields : List (List ℕ)) (line : List ℕ) : Type 0 where
  pub words : List ℕ
  pub count : length words ≡ first
  pub read : each_from (word_of form row) 1 fields ≡ Ok words
  pub slots : line ≡ spread form words

pub words-of : (form : Form) (first row : ℕ) (fields : List (List ℕ)) (line : List ℕ) → line_of form first row fields ≡ Ok line → HasWords form first row fields line
words-of form first row fields line h = by (length fields == first) refl h
  where
    by : (b : Bool) → (length fields == first) ≡ b
        → (if b then slots_of form row fields else Err (Ragged row (length fields) first)) ≡ Ok line → HasWords form first row fields line
    by true e q =
        let is = ok-of (spread form) (each_from (word_of form row) 1 fields) line (sym (slots-words form row fields) ∙ q) in
        record { words = is.0; count = each-length (word_of form row) 1 fields is.0 is.1 ∙ eqb-true (length fields) first e; read = is.1; slots = is.2 }
    by false e q = cc q

pub length-line_of : (form : Form) (first row : ℕ) (fields : List (List ℕ)) (line : List ℕ) → line_of form first row fields ≡ Ok line → length line ≡ slots_in form first
length-line_of form first row fields line h =
    let of = words-of form first row fields line h in
    ap length of.slots ∙ spread-length form of.words ∙ ap (slots_in form) of.count

-- the first record has a good count of fields
pub lines_of-even : (form : Form) (row : List (List ℕ)) (rest : List (List (List ℕ))) → 2 ≤ length row → length row ≤ most_fields form
    → lines_of form (row ∷ rest) ≡ each_from (line_of form (length row)) 1 (row ∷ rest)
lines_of-even form row rest low high =
    let least : nat_le 2 (length row) ≡ true = le-leb 2 (length row) low in
    let most : nat_le (length row) (most_fields form) ≡ true = le-leb (length row) (most_fields form) high in
    rw (least, most) refl

-- no record yet
pub AreRead-none : (form : Form) (fields : ℕ) (numbers : List ℕ) → numbers ≡ [] → AreRead form fields [] numbers
unfolding each_from pieces
AreRead-none form fields numbers e = record { lines = refl; whole = rw (e, zero-mul) refl }

-- one record more
pub AreRead-more : (form : Form) (fields number : ℕ) (rows : List (List (List ℕ))) (row : List (List ℕ)) (old new added : List ℕ)
    → length rows + 1 ≡ number → AreRead form fields rows old → line_of form fields number row ≡ Ok added → new ≡ old ++ added
    → AreRead form fields (rows ++ row ∷ []) new
AreRead-more form fields number rows row old new added count before this at_end =
    let size = length-line_of form fields number row added this in
    let longer : length (rows ++ row ∷ []) ≡ length rows + 1 = simp length-append refl in
    let place : 1 + length rows ≡ number = omega arith in
    let pieces_are = pieces-append (slots_in form fields) (length rows) old added before.whole size in
    record {
      lines = each-more (line_of form fields) 1 rows row _ added before.lines (ap (λ k. line_of form fields k row) place ∙ this)
          ∙ ap (λ (t : List (List ℕ)). Ok t) (rw (longer, at_end) (sym pieces_are));
      whole = rw (at_end, longer) (simp length-append (omega (arith, size, before.whole)));
    }

-- a record that is refused
pub AreRead-stop : (form : Form) (fields number : ℕ) (rows : List (List (List ℕ))) (row : List (List ℕ)) (rest : List (List (List ℕ))) (numbers : List ℕ) (why : TraceError)
    → length rows + 1 ≡ number → AreRead form fields rows numbers → line_of form fields number row ≡ Err why
    → each_from (line_of form fields) 1 (rows ++ row ∷ rest) ≡ Err why
AreRead-stop form fields number rows row rest numbers why count before this =
    let place : 1 + length rows ≡ number = omega arith in
    each-stop (line_of form fields) 1 rows row rest _ why before.lines (ap (λ k. line_of form fields k row) place ∙ this)

-- the lines of a trace: of one count of fields, which is a good one, and each of a record
pub record AreLinesOf (form : Form) (rows : List (List (List ℕ))) (trace : List (List ℕ)) : Type 0 where
  pub fields : ℕ
  pub least : 2 ≤ fields
  pub read : each_from (line_of form fields) 1 rows ≡ Ok trace

pub lines-of : (form : Form) (rows : List (List (List ℕ))) (trace : List (List ℕ)) → lines_of form rows ≡ Ok trace → AreLinesOf form rows trace
lines-of form [] trace h = cc h
lines-of form (row ∷ rest) trace h = by (nat_le 2 (length row)) (nat_le (length row) (most_fields form)) refl h
  where
    by : (a b : Bool) → nat_le 2 (length row) ≡ a
        → (if a && b then each_from (line_of form (length row)) 1 (row ∷ rest) else Err (Length 1 (length row))) ≡ Ok trace → AreLinesOf form (row ∷ rest) trace
    by true true e q = record { fields = length row; least = leb-true 2 (length row) e; read = q }
    by true false e q = cc q
    by false b e q = cc q

-- the numbers of a trace are below 2 ^ width
abbrev pub AllBelow : ℕ → List ℕ → Type 0
AllBelow width line = All (λ n. n < 2 ^ width) line

below-is : (width row field : ℕ) (o : Option ℕ) (n : ℕ) → in_range (λ m. nat_lt m (2 ^ width)) row field o ≡ Ok n → n < 2 ^ width
below-is width row field None n e = cc e
below-is width row field (Some m) n e = by (nat_lt m (2 ^ width)) refl e
  where
    by : (b : Bool) → nat_lt m (2 ^ width) ≡ b → (if b then Ok m else Err (TooBig row field)) ≡ Ok n → n < 2 ^ width
    by true h q = let same : m ≡ n = cc q in rw (← same) (ltb-true m (2 ^ width) h)
    by false h q = cc q

line_of-below : (width first row : ℕ) (fields : List (List ℕ)) (line : List ℕ) → line_of (Unsigned width) first row fields ≡ Ok line → AllBelow width line
line_of-below width first row fields line h =
    let of = words-of (Unsigned width) first row fields line h in
    subst (AllBelow width) (sym of.slots) (each-all (λ n. n < 2 ^ width) (slot_of width row) 1 fields of.words (λ k text n. below-is width row k (number text) n) of.read)

pub trace_of-below : (width : ℕ) (bytes : List ℕ) (trace : List (List ℕ)) → trace_of (Unsigned width) bytes ≡ Ok trace → All (AllBelow width) trace
trace_of-below width bytes trace h =
    let of = lines-of (Unsigned width) (csv_rows bytes) trace h in
    each-all (AllBelow width) (line_of (Unsigned width) of.fields) 1 (csv_rows bytes) trace (λ k fields line. line_of-below width of.fields k fields line) of.read
