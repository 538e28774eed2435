-- The first line of a text, where it is numbers, commas and a line end.
use Rattle.std.proofs.Common.{◌≡◌, ◌≤◌, ◌<◌, ◌+◌, ◌-◌, ◌^◌, ◌++◌, ℕ, suc, List, [], ◌∷◌, length, take, drop, get_or, Bool, true, false, Some, Ok, refl, sym, ap, arith, ◌∙◌, append-nil, append_assoc, length-append, ◌⊎◌, inl, inr, ⊎_elim}
use Rattle.std.proofs.lemmas.Bool.{eqb-true, ne_eqb}
use Rattle.std.proofs.lemmas.List.{drop_all, get_or-take, length-take-le, take-append-drop, take_all}
use Rattle.std.proofs.lemmas.List.Sums.{prefix_len-le-length, prefix_len_is, prefix_len_passes}
use Rattle.std.specs.Prelude.{if◌then◌else◌, ◌==◌, ◌||◌}
use Rattle.std.specs.Char.{is_ascii_digit}
use Rattle.std.specs.List.{list_all, prefix_len}
use Rattle.std.specs.Str.Parse.{digits_value}
use Rattle.csv.specs.Machine.{field_after, fields_after, is_end, next_record, step}
use Rattle.csv.specs.Reading.{default_config, is_bom, records, records_from, strip_bom}
use Rattle.csv.specs.declared.parser.State.{State}
use Rattle.csv.specs.declared.parser.State.TheVariants as st
use Rattle.csv.specs.declared.parser.Action.{Action}
use Rattle.csv.specs.declared.parser.Action.TheVariants as act
use Rattle.trace_csv.specs.Fields.{after_minus, has_minus, written}
use Rattle.trace_csv.specs.Direct.{AddsFirstLine, AddsNumber, is_plain}
use Rattle.trace_csv.specs.Pieces.{pieces}
use Rattle.trace_csv.specs.Rows.{csv_rows, rows_from}
use Rattle.trace_csv.specs.Trace.{Form, Signed, Unsigned, each_from, lines_of, most_fields, trace_of}
use Rattle.trace_csv.specs.Words.{AreRead, HasNumber, number_value, slots_in, spread, word_in, word_of}
use Rattle.trace_csv.specs.declared.number.Number.{Number}
use Rattle.trace_csv.proofs.EachLemmas.{each-length, each-more}
use Rattle.trace_csv.proofs.FieldLemmas.{both-left, both-right, digit-range, digits-pass}
use Rattle.trace_csv.proofs.MinusLemmas.{number-alone, or_too_big, word-is}
use Rattle.trace_csv.proofs.RowLemmas.{rows-none, rows-some, same-rows}
use Rattle.trace_csv.proofs.TraceLemmas.{AreRead-more, AreRead-none, line_of-words, lines_of-even, slots_in-one, spread-length, spread-more, spread-none}

else-is : {A : Type 0} (b : Bool) (x y : A) → b ≡ false → (if b then x else y) ≡ y
else-is true x y e = cc e
else-is false x y e = refl

-- in this state a plain byte joins the field at hand
abbrev pub TakesPlain : State → Type 0
TakesPlain s = (c : ℕ) → is_plain c ≡ true → step default_config s c ≡ (st.InField, act.Copy)

-- a plain byte is a minus or a digit
pub plain-range : (c : ℕ) → is_plain c ≡ true → (45 ≤ c) × (c ≤ 57)
plain-range c h = by (is_ascii_digit c) (c == 45) refl refl h
  where
    by : (a b : Bool) → is_ascii_digit c ≡ a → (c == 45) ≡ b → (a || b) ≡ true → (45 ≤ c) × (c ≤ 57)
    by true b e f q = let range = digit-range c e in (omega (arith, range.0), range.1)
    by false true e f q = let is = eqb-true c 45 f in (omega (arith, is), omega (arith, is))
    by false false e f q = cc q

pub digit-plain : (c : ℕ) → is_ascii_digit c ≡ true → is_plain c ≡ true
digit-plain c h = rw h refl

plain-is-not : (c : ℕ) → is_plain c ≡ true → ((c == 44) ≡ false) × ((c == 34) ≡ false) × (((c == 13) || (c == 10)) ≡ false)
plain-is-not c h =
    let low : 45 ≤ c = (plain-range c h).0 in
    let no_cr : (c == 13) ≡ false = ne_eqb c 13 (λ e. omega arith) in
    let no_lf : (c == 10) ≡ false = ne_eqb c 10 (λ e. omega arith) in
    (ne_eqb c 44 (λ e. omega arith), ne_eqb c 34 (λ e. omega arith), rw (no_cr, no_lf) refl)

in-field : TakesPlain st.InField
in-field c h = let no = plain-is-not c h in else-is (c == 44) _ _ no.0 ∙ else-is ((c == 13) || (c == 10)) _ _ no.2

start-field : TakesPlain st.StartField
start-field c h = else-is (c == 34) _ _ (plain-is-not c h).1 ∙ in-field c h

start-record : TakesPlain st.StartRecord
start-record c h = else-is ((c == 13) || (c == 10)) _ _ (plain-is-not c h).2 ∙ start-field c h

one-plain : (s : State) (fields : List (List ℕ)) (field : List ℕ) (c : ℕ) (rest : List ℕ) → TakesPlain s → is_plain c ≡ true
    → next_record default_config s fields field (c ∷ rest) ≡ next_record default_config st.InField fields (field ++ c ∷ []) rest
unfolding next_record
one-plain s fields field c rest takes h =
    ap (λ (x : State × Action). if is_end x.1 then Some (fields_after x.1 fields field, x.0, rest)
    else next_record default_config x.0 (fields_after x.1 fields field) (field_after x.1 c field) rest) (takes c h)

-- some plain bytes join the field at hand
some-plain : (digits : List ℕ) (s : State) (fields : List (List ℕ)) (field rest : List ℕ) → TakesPlain s → 0 < length digits → list_all is_plain digits ≡ true
    → next_record default_config s fields field (digits ++ rest) ≡ next_record default_config st.InField fields (field ++ digits) rest
some-plain [] s fields field rest takes some all = absurd (omega arith)
some-plain (c ∷ []) s fields field rest takes some all = one-plain s fields field c rest takes (both-left (is_plain c) true all)
some-plain (c ∷ d ∷ digits) s fields field rest takes some all =
    one-plain s fields field c (d ∷ digits ++ rest) takes (both-left (is_plain c) _ all)
    ∙ some-plain (d ∷ digits) st.InField fields (field ++ c ∷ []) rest in-field (omega arith) (both-right (is_plain c) _ all)
    ∙ ap (λ t. next_record default_config st.InField fields t rest) (append_assoc field (c ∷ []) (d ∷ digits))

digits-plain : (xs : List ℕ) → list_all is_ascii_digit xs ≡ true → list_all is_plain xs ≡ true
digits-plain [] h = refl
digits-plain (x ∷ xs) h =
    let one = digit-plain x (both-left (is_ascii_digit x) _ h) in
    let rest = digits-plain xs (both-right (is_ascii_digit x) _ h) in
    rw (one, rest) refl

-- a field at a text's front: its minus, if it has one, and its digits
record FieldInFront (form : Form) (text digits rest : List ℕ) : Type 0 where
  pub field : List ℕ
  pub front : text ≡ field ++ rest
  pub some : 0 < length field
  pub all : list_all is_plain field ≡ true
  pub minus : has_minus form field ≡ has_minus form text
  pub after : after_minus form field ≡ digits

field-in-front : (form : Form) (text digits rest : List ℕ) → after_minus form text ≡ digits ++ rest → 0 < length digits → list_all is_ascii_digit digits ≡ true
    → FieldInFront form text digits rest
field-in-front (Unsigned width) text digits rest e some all =
    record { field = digits; front = e; some = some; all = digits-plain digits all; minus = refl; after = refl }
field-in-front Signed text [] rest e some all = absurd (omega (arith, some))
field-in-front Signed [] (d ∷ digits) rest e some all = cc e
field-in-front Signed (x ∷ text) (d ∷ digits) rest e some all = by (x == 45) refl e
  where
    by : (b : Bool) → (x == 45) ≡ b → (if b then text else x ∷ text) ≡ d ∷ digits ++ rest → FieldInFront Signed (x ∷ text) (d ∷ digits) rest
    by true is same =
        let pass = digits-plain (d ∷ digits) all in
        let plain : is_plain x ≡ true = rw (eqb-true x 45 is) refl in
        record {
          field = x ∷ d ∷ digits;
          front = ap (λ t. x ∷ t) same;
          some = omega arith;
          all = rw plain pass;
          minus = refl;
          after = rw is refl;
        }
    by false is same =
        let other : (d == 45) ≡ false = let range = digit-range d (both-left (is_ascii_digit d) _ all) in ne_eqb d 45 (λ f. omega (arith, range.0, f)) in
        record {
          field = d ∷ digits;
          front = same;
          some = some;
          all = digits-plain (d ∷ digits) all;
          minus = other ∙ sym is;
          after = rw other refl;
        }

-- the digits of a number are a number alone
number-of-digits : (form : Form) (n : Number) (text rest : List ℕ) (h : HasNumber form text n rest) (f : FieldInFront form text (take h.count (after_minus form text)) rest)
    → written form f.field ≡ Some (number_value n)
number-of-digits form n text rest h f =
    let digits : List ℕ = take h.count (after_minus form text) in
    let within = prefix_len-le-length is_ascii_digit (after_minus form text) in
    let size : length (take h.count (after_minus form text)) ≡ h.count = length-take-le h.count (after_minus form text) (omega (arith, h.all, within)) in
    let count : prefix_len is_ascii_digit (take h.count (after_minus form text)) ≡ h.count =
    prefix_len_is is_ascii_digit (take h.count (after_minus form text)) h.count 0 (omega (arith, size))
    (λ k d. rw (get_or-take h.count (after_minus form text) k 0 d) (prefix_len_passes is_ascii_digit (after_minus form text) k 0 (omega (arith, d, h.all))))
    (λ d. absurd (omega (arith, size, d))) in
    number-alone form f.field [] n (record {
      count = h.count;
      some = h.some;
      few = h.few;
      all = sym count ∙ ap (prefix_len is_ascii_digit) (sym f.after);
      sign = h.sign ∙ sym f.minus;
      size = h.size ∙ ap (digits_value 10) (sym (take_all h.count (take h.count (after_minus form text)) (omega (arith, size))))
          ∙ ap (λ t. digits_value 10 (take h.count t)) (sym f.after);
      left = sym (drop_all h.count (take h.count (after_minus form text)) (omega (arith, size))) ∙ ap (drop h.count) (sym f.after);
    }) refl

pub adds-number : (form : Form) (n : Number) (word : ℕ) (text rest old new : List ℕ) → HasNumber form text n rest → word_in form n ≡ Some word
    → new ≡ old ++ spread form (word ∷ []) → AddsNumber form text rest old new
adds-number form n word text rest old new h is push =
    let within = prefix_len-le-length is_ascii_digit (after_minus form text) in
    let size : length (take h.count (after_minus form text)) ≡ h.count = length-take-le h.count (after_minus form text) (omega (arith, h.all, within)) in
    let of = field-in-front form text (take h.count (after_minus form text)) rest
    (sym (take-append-drop h.count (after_minus form text)) ∙ ap (λ t. take h.count (after_minus form text) ++ t) (sym h.left))
    (omega (arith, size, h.some)) (digits-pass (after_minus form text) h.count h.all) in
    record {
      field = of.field;
      word = word;
      front = of.front;
      some = of.some;
      all = of.all;
      writes = λ row place. word-is form row place of.field n (number-of-digits form n text rest h of) ∙ ap (or_too_big row place) is;
      at_end = push;
    }

-- a list by its first byte, where that is not what stands for a byte past the end
pub front-is : (xs : List ℕ) (b : ℕ) → get_or xs 0 0 ≡ b → 0 < b → xs ≡ b ∷ take (length xs - 1) (drop 1 xs)
front-is [] b e some = absurd (omega arith)
front-is (x ∷ xs) b e some =
    let all : take (length (x ∷ xs) - 1) xs ≡ xs = take_all (length (x ∷ xs) - 1) xs (omega arith) in
    ap (λ k. k ∷ xs) e ∙ ap (λ t. b ∷ t) (sym all)

-- what is known after some fields of the first line, at the start of the next one
pub record BeforeField (form : Form) (text rest old new : List ℕ) : Type 0 where
  pub state : State
  pub takes : TakesPlain state
  pub fields : List (List ℕ)
  pub words : List ℕ
  pub plain : (text ≡ rest) ⊎ (is_plain (get_or text 0 0) ≡ true)
  pub read : next_record default_config st.StartRecord [] [] text ≡ next_record default_config state fields [] rest
  pub writes : (row : ℕ) → each_from (word_of form row) 1 fields ≡ Ok words
  pub at_end : new ≡ old ++ spread form words

pub no-field : (form : Form) (text numbers : List ℕ) → BeforeField form text text numbers numbers
unfolding each_from
no-field form text numbers =
    record {
      state = st.StartRecord;
      takes = start-record;
      fields = [];
      words = [];
      plain = inl refl;
      read = refl;
      writes = λ row. refl;
      at_end = sym (ap (λ t. numbers ++ t) (spread-none form) ∙ append-nil numbers);
    }

-- the same after a field's bytes
record AfterNumber (form : Form) (text rest old new : List ℕ) : Type 0 where
  pub fields : List (List ℕ)
  pub field : List ℕ
  pub words : List ℕ
  pub plain : is_plain (get_or text 0 0) ≡ true
  pub read : next_record default_config st.StartRecord [] [] text ≡ next_record default_config st.InField fields field rest
  pub writes : (row : ℕ) → each_from (word_of form row) 1 (fields ++ field ∷ []) ≡ Ok words
  pub at_end : new ≡ old ++ spread form words

first-plain : (field text rest : List ℕ) → text ≡ field ++ rest → 0 < length field → list_all is_plain field ≡ true → is_plain (get_or text 0 0) ≡ true
first-plain [] text rest e some all = absurd (omega arith)
first-plain (c ∷ field) text rest e some all = rw e (both-left (is_plain c) _ all)

after-number : (form : Form) (text rest after old now new : List ℕ) → BeforeField form text rest old now → AddsNumber form rest after now new → AfterNumber form text after old new
after-number form text rest after old now new before number =
    record {
      fields = before.fields;
      field = number.field;
      words = before.words ++ number.word ∷ [];
      plain = ⊎_elim (λ same. first-plain number.field text after (same ∙ number.front) number.some number.all) (λ plain. plain) before.plain;
      read = before.read ∙ ap (λ t. next_record default_config before.state before.fields [] t) number.front
          ∙ some-plain number.field before.state before.fields [] after before.takes number.some number.all;
      writes = λ row. each-more (word_of form row) 1 before.fields number.field before.words number.word (before.writes row)
          (number.writes row (1 + length before.fields));
      at_end = number.at_end ∙ ap (λ t. t ++ spread form (number.word ∷ [])) before.at_end
          ∙ append_assoc old (spread form before.words) (spread form (number.word ∷ []))
          ∙ ap (λ t. old ++ t) (sym (spread-more form before.words number.word));
    }

-- after a number a comma, LF, CRLF or the end
pub then-comma : (form : Form) (text rest after more old now new : List ℕ) → BeforeField form text rest old now → AddsNumber form rest after now new
    → after ≡ 44 ∷ more → BeforeField form text more old new
unfolding next_record
then-comma form text rest after more old now new before number is =
    let line = after-number form text rest after old now new before number in
    record {
      state = st.StartField;
      takes = start-field;
      fields = line.fields ++ line.field ∷ [];
      words = line.words;
      plain = inr line.plain;
      read = line.read ∙ ap (λ t. next_record default_config st.InField line.fields line.field t) is;
      writes = line.writes;
      at_end = line.at_end;
    }

line-ends : (form : Form) (text rest more old new : List ℕ) (s : State) (left : List ℕ) → (line : AfterNumber form text rest old new)
    → next_record default_config st.InField line.fields line.field rest ≡ Some (line.fields ++ line.field ∷ [], s, left) → rows_from s left ≡ records default_config more
    → AddsFirstLine form text more old new
line-ends form text rest more old new s left line e same =
    record {
      fields = line.fields ++ line.field ∷ [];
      words = line.words;
      plain = line.plain;
      first = rows-some st.StartRecord text (line.fields ++ line.field ∷ [], s, left) tt (line.read ∙ e)
          ∙ ap (λ (t : List (List (List ℕ))). (line.fields ++ line.field ∷ []) ∷ t) same;
      writes = line.writes;
      at_end = line.at_end;
    }

pub then-line_feed : (form : Form) (text rest after more old now new : List ℕ) → BeforeField form text rest old now → AddsNumber form rest after now new
    → after ≡ 10 ∷ more → AddsFirstLine form text more old new
unfolding next_record
then-line_feed form text rest after more old now new before number is =
    let line = after-number form text rest after old now new before number in
    line-ends form text after more old new st.StartRecord more line (ap (λ t. next_record default_config st.InField line.fields line.field t) is) refl

skip-line_feed : (n : ℕ) (more : List ℕ) → records_from default_config (suc n) st.AfterCr (10 ∷ more) ≡ records_from default_config (suc n) st.StartRecord more
unfolding next_record records_from
skip-line_feed n more = refl

after-return : (more : List ℕ) → rows_from st.AfterCr (10 ∷ more) ≡ records default_config more
after-return more =
    let size : length (10 ∷ more) + 1 ≡ suc (length more + 1) = omega arith in
    ap (λ n. records_from default_config n st.AfterCr (10 ∷ more)) size
    ∙ skip-line_feed (length more + 1) more
    ∙ same-rows (suc (length more + 1)) (length more + 1) st.StartRecord more tt (omega arith) (omega arith)

pub then-return : (form : Form) (text rest after more old now new : List ℕ) → BeforeField form text rest old now → AddsNumber form rest after now new
    → after ≡ 13 ∷ 10 ∷ more → AddsFirstLine form text more old new
unfolding next_record
then-return form text rest after more old now new before number is =
    let line = after-number form text rest after old now new before number in
    line-ends form text after more old new st.AfterCr (10 ∷ more) line (ap (λ t. next_record default_config st.InField line.fields line.field t) is)
    (after-return more)

pub then-end : (form : Form) (text rest after old now new : List ℕ) → BeforeField form text rest old now → AddsNumber form rest after now new
    → after ≡ [] → AddsFirstLine form text after old new
unfolding next_record
then-end form text rest after old now new before number is =
    let line = after-number form text rest after old now new before number in
    line-ends form text after after old new st.StartRecord [] line (ap (λ t. next_record default_config st.InField line.fields line.field t) is)
    (ap (λ t. records default_config t) (sym is))

-- what is known after some lines
pub record AfterLines (form : Form) (slots lines : ℕ) (bytes rest numbers : List ℕ) : Type 0 where
  pub first : List (List ℕ)
  pub later : List (List (List ℕ))
  pub size : slots_in form (length first) ≡ slots
  pub count : length later + 1 ≡ lines
  pub plain : is_plain (get_or bytes 0 0) ≡ true
  pub rows : records default_config bytes ≡ (first ∷ later) ++ records default_config rest
  pub read : AreRead form (length first) (first ∷ later) numbers

pub one-line : (form : Form) (slots : ℕ) (bytes rest old numbers : List ℕ) → old ≡ [] → AddsFirstLine form bytes rest old numbers → length numbers ≡ slots
    → AfterLines form slots 1 bytes rest numbers
one-line form slots bytes rest old numbers none line size =
    let same = each-length (word_of form 1) 1 line.fields line.words (line.writes 1) in
    let all : numbers ≡ spread form line.words = line.at_end ∙ ap (λ t. t ++ spread form line.words) none in
    record {
      first = line.fields;
      later = [];
      size = ap (slots_in form) (sym same) ∙ sym (spread-length form line.words) ∙ ap length (sym all) ∙ size;
      count = refl;
      plain = line.plain;
      rows = line.first;
      read = AreRead-more form (length line.fields) 1 [] line.fields old numbers (spread form line.words) refl (AreRead-none form (length line.fields) old none)
          (line_of-words form (length line.fields) 1 line.fields line.words refl (line.writes 1)) line.at_end;
    }

pub more-lines : (form : Form) (slots lines : ℕ) (bytes rest more old new : List ℕ) → AfterLines form slots lines bytes rest old → AddsFirstLine form rest more old new
    → length new - length old ≡ slots → AfterLines form slots (lines + 1) bytes more new
more-lines form slots lines bytes rest more old new before line grown =
    let same = each-length (word_of form (lines + 1)) 1 line.fields line.words (line.writes (lines + 1)) in
    let longer : length new ≡ length old + length (spread form line.words) = ap length line.at_end ∙ length-append old (spread form line.words) in
    let added : length (spread form line.words) ≡ slots = omega (arith, longer, grown) in
    let even : length line.fields ≡ length before.first =
    slots_in-one form (length line.fields) (length before.first)
    (ap (slots_in form) (sym same) ∙ sym (spread-length form line.words) ∙ added ∙ sym before.size) in
    let place : length (before.first ∷ before.later) + 1 ≡ lines + 1 = let c = before.count in omega arith in
    record {
      first = before.first;
      later = before.later ++ line.fields ∷ [];
      size = before.size;
      count = let c = before.count in simp length-append (omega arith);
      plain = before.plain;
      rows = before.rows ∙ ap (λ t. (before.first ∷ before.later) ++ t) line.first
          ∙ sym (append_assoc (before.first ∷ before.later) (line.fields ∷ []) (records default_config more));
      read = AreRead-more form (length before.first) (lines + 1) (before.first ∷ before.later) line.fields old new (spread form line.words) place before.read
          (line_of-words form (length before.first) (lines + 1) line.fields line.words even (line.writes (lines + 1))) line.at_end;
    }

-- a text that begins with a plain byte has no byte order mark
no-bom : (bytes : List ℕ) → is_plain (get_or bytes 0 0) ≡ true → strip_bom bytes ≡ bytes
unfolding strip_bom
no-bom [] h = refl
no-bom (a ∷ []) h = refl
no-bom (a ∷ b ∷ []) h = refl
no-bom (a ∷ b ∷ c ∷ rest) h =
    let high : a ≤ 57 = (plain-range a h).1 in
    let other : (a == 239) ≡ false = ne_eqb a 239 (λ e. omega arith) in
    else-is (is_bom a b c) _ _ (rw other refl)

no-rows : records default_config [] ≡ []
unfolding next_record
no-rows = rows-none st.StartRecord [] refl

-- the count of fields, by that of slots
few-fields : (form : Form) (fields slots : ℕ) → slots_in form fields ≡ slots → slots_in form 2 ≤ slots → slots ≤ 1024 → (2 ≤ fields) × (fields ≤ most_fields form)
few-fields (Unsigned width) fields slots e low high = (omega arith, omega arith)
few-fields Signed fields slots e low high = (omega arith, omega arith)

pub all-lines : (form : Form) (slots lines : ℕ) (bytes rest numbers : List ℕ) → AfterLines form slots lines bytes rest numbers → rest ≡ []
    → slots_in form 2 ≤ slots → slots ≤ 1024 → trace_of form bytes ≡ Ok (pieces slots lines numbers)
all-lines form slots lines bytes rest numbers known none low high =
    let few = few-fields form (length known.first) slots known.size low high in
    let count : length (known.first ∷ known.later) ≡ lines = let c = known.count in omega arith in
    let rows : csv_rows bytes ≡ known.first ∷ known.later =
    ap (λ t. records default_config t) (no-bom bytes known.plain) ∙ known.rows
    ∙ ap (λ t. (known.first ∷ known.later) ++ t) (ap (λ t. records default_config t) none ∙ no-rows)
    ∙ append-nil (known.first ∷ known.later) in
    ap (λ t. lines_of form t) rows
    ∙ lines_of-even form known.first known.later few.0 few.1
    ∙ known.read.lines
    ∙ ap (λ k. Ok (pieces k (length (known.first ∷ known.later)) numbers)) known.size
    ∙ ap (λ k. Ok (pieces slots k numbers)) count
