-- How many bytes of its text the lines of a trace take: at least two for each number, but for the last line's end.
use Rattle.std.proofs.Common.{◌≡◌, ◌≤◌, ◌<◌, ◌+◌, ◌-◌, ◌*◌, ◌++◌, ◌∷◌, ℕ, zero, suc, List, [], length, Bool, true, false, Option, Some, None, Result, Ok, Err, refl, ap, arith, subst, length-append, length-drop}
use Rattle.std.proofs.lemmas.Bool.{leb-true}
use Rattle.std.proofs.lemmas.List.{length-take}
use Rattle.std.proofs.lemmas.List.Elements.{All-weaker}
use Rattle.std.proofs.lemmas.List.Sums.{sum_by-cons, sum_by_push}
use Rattle.std.specs.Prelude.{if◌then◌else◌, ◌&&◌, ◌^◌, nat_le, nat_lt, All, ℤ, option_map, drop}
use Rattle.std.specs.Char.{is_ascii_digit}
use Rattle.std.specs.List.{list_all, prefix_len, suffix_len, sum_by}
use Rattle.std.specs.Str.Parse.{digits_value}
use Rattle.csv.specs.Machine.{Read, ends_at_end, field_after, fields_after, is_end, next_record, step}
use Rattle.csv.specs.Reading.{default_config, records_from, records_next, strip_bom}
use Rattle.csv.specs.declared.parser.State.{State}
use Rattle.csv.specs.declared.parser.State.TheVariants as st
use Rattle.csv.specs.declared.parser.Action.{Action}
use Rattle.csv.specs.declared.parser.Action.TheVariants as act
use Rattle.std.specs.Int.{cast_unsigned, w32}
use Rattle.trace_csv.specs.Fields.{after_spaces, before_spaces, digits_number, has_minus, is_space, number, with_sign, written}
use Rattle.trace_csv.specs.Signed.{is_signed}
use Rattle.trace_csv.specs.Words.{slots_in, word_of}
use Rattle.trace_csv.specs.Rows.{IsBetween, csv_rows}
use Rattle.trace_csv.specs.Trace.{Form, Signed, Unsigned, each_from, in_range, line_of, put_first, signed_at, trace_of}
use Rattle.trace_csv.specs.declared.refusal.TraceError.TheVariants.{TooBig}
use Rattle.trace_csv.proofs.EachLemmas.{each-all}
use Rattle.trace_csv.proofs.FewLines.{few_stripped}
use Rattle.trace_csv.proofs.RowLemmas.{leaves, not-empty}
use Rattle.trace_csv.proofs.TraceLemmas.{length-line_of, lines-of, ok-of, words-of}

-- a field's bytes, and the one after it
abbrev field_bytes : List ℕ → ℕ
field_bytes field = length field + 1

abbrev row_bytes : List (List ℕ) → ℕ
row_bytes fields = sum_by field_bytes fields

-- what a record takes of a text, where some of it was taken before; at the text's end its last byte may be missing
record Takes (before : ℕ) (xs : List ℕ) (p : Read) : Type 0 where
  pub whole : row_bytes p.0 + length p.2 ≤ before + length xs + 1
  pub ended : 0 < length p.2 → row_bytes p.0 + length p.2 ≤ before + length xs

-- a byte adds one to a field at most, or ends it
grown : (a : Action) (c : ℕ) (f : List (List ℕ)) (d : List ℕ) → row_bytes (fields_after a f d) + length (field_after a c d) ≤ row_bytes f + length d + 1
grown act.Skip c f d = omega arith
grown act.Copy c f d = simp length-append (omega arith)
grown act.EndField c f d = let push = sum_by_push field_bytes f d in omega (arith, push)
grown act.EndRecord c f d = let push = sum_by_push field_bytes f d in omega (arith, push)

takes : (xs : List ℕ) (s : State) (f : List (List ℕ)) (d : List ℕ) (p : Read) → next_record default_config s f d xs ≡ Some p → Takes (row_bytes f + length d) xs p
unfolding next_record
takes [] s f d p h = by (ends_at_end s) h
  where
    by : (b : Bool) → (if b then Some (f ++ (d ∷ []), st.StartRecord, []) else None) ≡ Some p → Takes (row_bytes f + length d) [] p
    by true e =
        let same : (f ++ (d ∷ []), st.StartRecord, []) ≡ p = cc e in
        let push = sum_by_push field_bytes f d in
        subst (λ (x : Read). Takes (row_bytes f + length d) [] x) same (record { whole = omega (arith, push); ended = λ some. absurd (omega arith) })
    by false e = cc e
takes (c ∷ rest) s f d p h = by (is_end (step default_config s c).1) h (takes rest (step default_config s c).0 _ _ p)
  where
    by : (b : Bool)
        → (if b then Some (fields_after (step default_config s c).1 f d, (step default_config s c).0, rest)
        else next_record default_config (step default_config s c).0 (fields_after (step default_config s c).1 f d) (field_after (step default_config s c).1 c d) rest) ≡ Some p
        → (next_record default_config (step default_config s c).0 (fields_after (step default_config s c).1 f d) (field_after (step default_config s c).1 c d) rest ≡ Some p
        → Takes (row_bytes (fields_after (step default_config s c).1 f d) + length (field_after (step default_config s c).1 c d)) rest p)
        → Takes (row_bytes f + length d) (c ∷ rest) p
    by true q more =
        let same : (fields_after (step default_config s c).1 f d, (step default_config s c).0, rest) ≡ p = cc q in
        let one = grown (step default_config s c).1 c f d in
        subst (λ (x : Read). Takes (row_bytes f + length d) (c ∷ rest) x) same (record { whole = omega (arith, one); ended = λ some. omega (arith, one) })
    by false q more =
        let one = grown (step default_config s c).1 c f d in
        let later = more q in
        record { whole = let w = later.whole in omega (arith, one, w); ended = λ some. let e = later.ended some in omega (arith, one, e) }

-- all records of a text take no more than it has, and a byte at its end
record TakeAll (rows : List (List (List ℕ))) (xs : List ℕ) : Type 0 where
  pub all : sum_by row_bytes rows ≤ length xs + 1
  pub none : length xs ≡ 0 → sum_by row_bytes rows ≡ 0

take-more : (one left size later : ℕ) → one + left ≤ size + 1 → (0 < left → one + left ≤ size) → later ≤ left + 1 → (left ≡ 0 → later ≡ 0) → one + later ≤ size + 1
take-more one zero size later whole ended few none = let no : later ≡ 0 = none refl in omega arith
take-more one (suc left) size later whole ended few none = let some : one + suc left ≤ size = ended (omega arith) in omega arith

take-all : (n : ℕ) (s : State) (xs : List ℕ) → IsBetween s → TakeAll (records_from default_config n s xs) xs
unfolding records_from
take-all zero s xs b = record { all = omega arith; none = λ h. refl }
take-all (suc n) s xs b = by (next_record default_config s [] [] xs) refl (λ t ys h. take-all n t ys h)
  where
    by : (o : Option Read) → next_record default_config s [] [] xs ≡ o → ((t : State) (ys : List ℕ) → IsBetween t → TakeAll (records_from default_config n t ys) ys)
        → TakeAll (records_next (records_from default_config n) o) xs
    by None e more = record { all = omega arith; none = λ h. refl }
    by (Some p) e more =
        let left = leaves xs s [] [] p e in
        let some = not-empty s xs p b e in
        let one = takes xs s [] [] p e in
        let later = more p.1 p.2 left.rest in
        let whole : row_bytes p.0 + length p.2 ≤ length xs + 1 = let w = one.whole in omega (arith, w) in
        let ended : 0 < length p.2 → row_bytes p.0 + length p.2 ≤ length xs = λ h. let e = one.ended h in omega (arith, e) in
        let sum = sum_by-cons row_bytes p.0 (records_from default_config n p.1 p.2) in
        record {
          all = rw sum (take-more (row_bytes p.0) (length p.2) (length xs) _ whole ended later.all later.none);
          none = λ h. absurd (omega (arith, some));
        }

-- where each item that is answered is of some size at least, so many are in all
put-least : {B E : Type 0} (r : Result B E) (more : Result (List B) E) (ys : List B) (least size total : ℕ) → ((y : B) → r ≡ Ok y → least ≤ size)
    → ((zs : List B) → more ≡ Ok zs → least * length zs ≤ total) → put_first r more ≡ Ok ys → least * length ys ≤ size + total
put-least (Ok y) (Ok zs) ys least size total h t e =
    let same : y ∷ zs ≡ ys = cc e in
    let one = h y refl in
    let rest = t zs refl in
    subst (λ (l : List _). least * length l ≤ size + total) same (omega (arith, one, rest))
put-least (Ok y) (Err w) ys least size total h t e = cc e
put-least (Err w) more ys least size total h t e = cc e

each-least : {A B E : Type 0} (f : ℕ → A → Result B E) (size : A → ℕ) (least : ℕ) → ((k : ℕ) (x : A) (y : B) → f k x ≡ Ok y → least ≤ size x)
    → (n : ℕ) (xs : List A) (ys : List B) → each_from f n xs ≡ Ok ys → least * length ys ≤ sum_by size xs
unfolding each_from
each-least {B = B} f size least h n [] ys e = let same : [] ≡ ys = cc e in subst (λ (l : List B). least * length l ≤ 0) same (omega arith)
each-least f size least h n (x ∷ xs) ys e =
    rw (sum_by-cons size x xs) (put-least (f n x) (each_from f (n + 1) xs) ys least (size x) (sum_by size xs) (λ y. h n x y) (λ zs. each-least f size least h (n + 1) xs zs) e)

-- a field that writes a number isn't empty
some-digits : (t : List ℕ) (n : ℕ) → digits_number t ≡ Some n → 1 ≤ length t
some-digits t n h = by (nat_le 1 (length t)) refl h
  where
    by : (b : Bool) → nat_le 1 (length t) ≡ b → (if b && (nat_le (length t) 10 && list_all is_ascii_digit t) then Some (digits_value 10 t) else None) ≡ Some n → 1 ≤ length t
    by true e q = leb-true 1 (length t) e
    by false e q = cc q

some-field : (field : List ℕ) (n : ℕ) → number field ≡ Some n → 1 ≤ length field
some-field field n h =
    let some = some-digits (before_spaces (after_spaces field)) n h in
    let front = length-take (length (after_spaces field) - suffix_len is_space (after_spaces field)) (after_spaces field) in
    let back = length-drop (prefix_len is_space field) field in
    omega (arith, some, front, back)

in_range-some : {A : Type 0} (test : A → Bool) (row k : ℕ) (o : Option A) (y : A) → in_range test row k o ≡ Ok y → o ≡ Some y
in_range-some test row k None y e = cc e
in_range-some test row k (Some x) y e = by (test x) e
  where
    by : (b : Bool) → (if b then Ok x else Err (TooBig row k)) ≡ Ok y → Some x ≡ Some y
    by true q = let same : x ≡ y = cc q in ap (λ t. Some t) same
    by false q = cc q

map-some : {A B : Type 0} (f : A → B) (o : Option A) (y : B) → option_map f o ≡ Some y → (x : A) × (o ≡ Some x)
map-some f None y e = cc e
map-some f (Some x) y e = (x, refl)

some-signed : (field : List ℕ) (z : ℤ) → written Signed field ≡ Some z → 1 ≤ length field
some-signed field z h = by (has_minus Signed text) h
  where
    text : List ℕ
    text = before_spaces (after_spaces field)

    front : length text ≤ length field
    front = let one = length-take (length (after_spaces field) - suffix_len is_space (after_spaces field)) (after_spaces field) in
        let two = length-drop (prefix_len is_space field) field in omega (arith, one, two)

    by : (b : Bool) → option_map (with_sign b) (digits_number (if b then drop 1 text else text)) ≡ Some z → 1 ≤ length field
    by true e = let is = map-some (with_sign true) (digits_number (drop 1 text)) z e in
        let some = some-digits (drop 1 text) is.0 is.1 in let less = length-drop 1 text in omega (arith, some, less, front)
    by false e = let is = map-some (with_sign false) (digits_number text) z e in
        let some = some-digits text is.0 is.1 in omega (arith, some, front)

word-bytes : (form : Form) (row k : ℕ) (field : List ℕ) (n : ℕ) → word_of form row k field ≡ Ok n → 2 ≤ field_bytes field
word-bytes (Unsigned width) row k field n h =
    let some = some-field field n (in_range-some (λ m. nat_lt m (2 ^ width)) row k (number field) n h) in omega (arith, some)
word-bytes Signed row k field n h =
    let is = ok-of (cast_unsigned w32) (signed_at row k field) n h in
    let some = some-signed field is.0 (in_range-some is_signed row k (written Signed field) is.0 is.1) in omega (arith, some)

line-bytes : (form : Form) (first row : ℕ) (fields : List (List ℕ)) (line : List ℕ) → line_of form first row fields ≡ Ok line → 2 * first ≤ row_bytes fields
line-bytes form first row fields line h =
    let of = words-of form first row fields line h in
    let some = each-least (word_of form row) field_bytes 2 (λ k field n. word-bytes form row k field n) 1 fields of.words of.read in
    omega (arith, of.count, some)

-- the lines of a text take two bytes for each field, but for the last line's end
pub record TakeBytes (form : Form) (bytes : List ℕ) (trace : List (List ℕ)) : Type 0 where
  pub fields : ℕ
  pub least : 2 ≤ fields
  pub even : All (λ line. length line ≡ slots_in form fields) trace
  pub short : 2 * fields * length trace ≤ length bytes + 1

pub lines-bytes : (form : Form) (bytes : List ℕ) (trace : List (List ℕ)) → trace_of form bytes ≡ Ok trace → TakeBytes form bytes trace
lines-bytes form bytes trace h =
    let of = lines-of form (csv_rows bytes) trace h in
    let few = (take-all (length (strip_bom bytes) + 1) st.StartRecord (strip_bom bytes) tt).all in
    let least = each-least (line_of form of.fields) row_bytes (2 * of.fields) (λ k fields line. line-bytes form of.fields k fields line) 1 (csv_rows bytes) trace of.read in
    record {
      fields = of.fields;
      least = of.least;
      even = each-all (λ line. length line ≡ slots_in form of.fields) (line_of form of.fields) 1 (csv_rows bytes) trace (λ k fields line. length-line_of form of.fields k fields line) of.read;
      short = omega (arith, few, least, few_stripped bytes);
    }

pub unsigned-bytes : (width : ℕ) (bytes : List ℕ) (trace : List (List ℕ)) → trace_of (Unsigned width) bytes ≡ Ok trace
    → All (λ line. 2 * length line * length trace ≤ length bytes + 1) trace
unsigned-bytes width bytes trace h =
    let take = lines-bytes (Unsigned width) bytes trace h in
    All-weaker (λ line. length line ≡ take.fields) (λ line. 2 * length line * length trace ≤ length bytes + 1) (λ line size. rw size take.short) trace take.even

pub signed-bytes : (bytes : List ℕ) (trace : List (List ℕ)) → trace_of Signed bytes ≡ Ok trace → All (λ line. length line * length trace ≤ length bytes + 1) trace
signed-bytes bytes trace h =
    let take = lines-bytes Signed bytes trace h in
    All-weaker (λ line. length line ≡ 2 * take.fields) (λ line. length line * length trace ≤ length bytes + 1) (λ line size. rw size take.short) trace take.even

pub signed-least : (bytes : List ℕ) (trace : List (List ℕ)) → trace_of Signed bytes ≡ Ok trace → All (λ line. 4 ≤ length line) trace
signed-least bytes trace h =
    let take = lines-bytes Signed bytes trace h in
    All-weaker (λ line. length line ≡ 2 * take.fields) (λ line. 4 ≤ length line) (λ line size. omega (arith, size, take.least)) trace take.even
