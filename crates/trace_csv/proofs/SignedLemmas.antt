-- Signed vectors and their halves.
use Rattle.std.proofs.Common.{◌≡◌, ◌≤◌, ◌<◌, ◌+◌, ◌-◌, ◌*◌, ◌/◌, ◌%◌, ◌^◌, ℕ, ℤ, pos, negsuc, List, [], ◌∷◌, length, Bool, true, false, Option, Some, None, Ok, Err, refl, sym, ap, subst, arith, ◌∙◌}
use Rattle.std.proofs.Math.Facts.{sfits_to_z}
use Rattle.std.proofs.lemmas.Bool.{le-leb, leb-true}
use Rattle.std.proofs.lemmas.Int.{of_z-to_z, to_z-of_z}
use Rattle.std.proofs.lemmas.List.Elements.{All-cons, All-head, All-tail, All-weaker}
use Rattle.std.proofs.lemmas.List.Sums.{list_all-from_AllPass}
use Rattle.std.specs.Prelude.{if◌then◌else◌, ◌==◌, ◌&&◌, nat_le, int_le, All, FitsSigned}
use Rattle.std.specs.Int.{cast_signed, cast_unsigned, w32}
use Rattle.std.specs.List.{list_all}
use Rattle.trace_csv.specs.Fields.{written}
use Rattle.trace_csv.specs.Rows.{csv_rows}
use Rattle.trace_csv.specs.Signed.{AreHalves, HalvesOfTold, OneSignedVector, halves, is_signed, signed_of}
use Rattle.trace_csv.specs.Trace.{Signed, each_from, in_range, line_of, map_ok, signed_at, slots_of, trace_of}
use Rattle.trace_csv.specs.declared.refusal.TraceError.TheVariants.{Ragged, TooBig}
use Rattle.trace_csv.proofs.EachLemmas.{each-all}
use Rattle.trace_csv.proofs.FieldLemmas.{both-left, both-right}
use Rattle.trace_csv.proofs.TraceLemmas.{lines-of, ok-of}

-- the magnitude of a signed number
pos-low : (n : ℕ) → is_signed (pos n) ≡ true → n ≤ 2147483647
pos-low n h = leb-true n 2147483647 (both-right true (nat_le n 2147483647) h)

negsuc-low : (n : ℕ) → is_signed (negsuc n) ≡ true → n ≤ 2147483647
negsuc-low n h = leb-true n 2147483647 (both-left (nat_le n 2147483647) true h)

word-below : (z : ℤ) → is_signed z ≡ true → cast_unsigned w32 z < 4294967296
word-below (pos n) h = let low = pos-low n h in omega (arith, low)
word-below (negsuc n) h = omega arith

fits : (z : ℤ) → is_signed z ≡ true → FitsSigned w32 z
fits (pos n) h = let low = pos-low n h in record { sfits = omega (arith, low) }
fits (negsuc n) h = let low = negsuc-low n h in record { sfits = omega (arith, low) }

-- different signed numbers have different words
one-word : (y z : ℤ) → is_signed y ≡ true → is_signed z ≡ true → cast_unsigned w32 y ≡ cast_unsigned w32 z → y ≡ z
one-word y z h k e = sym (to_z-of_z w32 y (fits y h)) ∙ ap (cast_signed w32) e ∙ to_z-of_z w32 z (fits z k)

word-of-halves : (m n : ℕ) → m / 65536 ≡ n / 65536 → m % 65536 ≡ n % 65536 → m ≡ n
word-of-halves m n high low = omega (arith, high, low)

pub one-signed-vector : OneSignedVector
one-signed-vector [] [] h k e = refl
one-signed-vector [] (z ∷ w) h k e = cc e
one-signed-vector (y ∷ v) [] h k e = cc e
one-signed-vector (y ∷ v) (z ∷ w) h k e =
    let high : cast_unsigned w32 y / 65536 ≡ cast_unsigned w32 z / 65536 = cc e in
    let low : cast_unsigned w32 y % 65536 ≡ cast_unsigned w32 z % 65536 = cc e in
    let rest : halves v ≡ halves w = cc e in
    let first = one-word y z (both-left (is_signed y) _ h) (both-left (is_signed z) _ k) (word-of-halves (cast_unsigned w32 y) (cast_unsigned w32 z) high low) in
    ap (λ x. x ∷ v) first ∙ ap (λ t. z ∷ t) (one-signed-vector v w (both-right (is_signed y) _ h) (both-right (is_signed z) _ k) rest)

-- the halves of a signed vector tell it
pub signed_of-halves : (v : List ℤ) → list_all is_signed v ≡ true → signed_of (halves v) ≡ v
unfolding signed_of
signed_of-halves [] h = refl
signed_of-halves (z ∷ v) h =
    let whole : cast_unsigned w32 z / 65536 * 65536 + cast_unsigned w32 z % 65536 ≡ cast_unsigned w32 z = omega arith in
    let first = to_z-of_z w32 z (fits z (both-left (is_signed z) _ h)) in
    ap (λ n. cast_signed w32 n ∷ signed_of (halves v)) whole ∙ ap (λ x. x ∷ signed_of (halves v)) first
    ∙ ap (λ t. z ∷ t) (signed_of-halves v (both-right (is_signed z) _ h))

-- a signed word is a signed number
signed-fits : (z : ℤ) → FitsSigned w32 z → is_signed z ≡ true
signed-fits (pos n) f = le-leb n 2147483647 (let low = f.sfits in omega (arith, low))
signed-fits (negsuc n) f = both-true (nat_le n 2147483647) (le-leb n 2147483647 (let low = f.sfits in omega (arith, low)))
  where
    both-true : (b : Bool) → b ≡ true → (b && true) ≡ true
    both-true b e = rw e refl

-- and the signed vector that slots of 16 bits tell, two for each number, has these halves
pub halves-signed_of : HalvesOfTold
unfolding signed_of
halves-signed_of [] even small = (refl, refl)
halves-signed_of (a ∷ []) even small = absurd (omega (arith, even))
halves-signed_of (a ∷ b ∷ slots) even small =
    let high : a < 65536 = All-head (λ n. n < 65536) a (b ∷ slots) small in
    let others = All-tail (λ n. n < 65536) a (b ∷ slots) small in
    let low : b < 65536 = All-head (λ n. n < 65536) b slots others in
    let rest = halves-signed_of slots (omega (arith, even)) (All-tail (λ n. n < 65536) b slots others) in
    let word : a * 65536 + b < 2 ^ 32 = omega (arith, high, low) in
    let back : cast_unsigned w32 (cast_signed w32 (a * 65536 + b)) ≡ a * 65536 + b = of_z-to_z w32 (a * 65536 + b) word in
    let first : (a * 65536 + b) / 65536 ≡ a = omega (arith, low) in
    let second : (a * 65536 + b) % 65536 ≡ b = omega (arith, low) in
    let signed : is_signed (cast_signed w32 (a * 65536 + b)) ≡ true = signed-fits (cast_signed w32 (a * 65536 + b)) (sfits_to_z {w = w32} {n = a * 65536 + b} (record { fits = word })) in (
      ap (λ n. n / 65536 ∷ n % 65536 ∷ halves (signed_of slots)) back ∙ (λ i. first i ∷ second i ∷ rest.0 i),
      rw signed rest.1,
    )

-- halves have 16 bits
halves-below : (v : List ℤ) → list_all is_signed v ≡ true → All (λ n. n < 2 ^ 16) (halves v)
halves-below [] h = λ k d few. absurd (omega arith)
halves-below (z ∷ v) h =
    let below = word-below z (both-left (is_signed z) _ h) in
    All-cons (λ n. n < 2 ^ 16) (cast_unsigned w32 z / 65536) (cast_unsigned w32 z % 65536 ∷ halves v) (omega (arith, below))
    (All-cons (λ n. n < 2 ^ 16) (cast_unsigned w32 z % 65536) (halves v) (omega arith) (halves-below v (both-right (is_signed z) _ h)))

pub are-below : (line : List ℕ) → AreHalves line → All (λ n. n < 2 ^ 16) line
are-below line h = subst (All (λ n. n < 2 ^ 16)) (sym h.is) (halves-below h.vector h.signed)

-- the lines of a signed trace are halves
signed_at-is : (row k : ℕ) (o : Option ℤ) (z : ℤ) → in_range is_signed row k o ≡ Ok z → is_signed z ≡ true
signed_at-is row k None z e = cc e
signed_at-is row k (Some y) z e = by (is_signed y) refl e
  where
    by : (b : Bool) → is_signed y ≡ b → (if b then Ok y else Err (TooBig row k)) ≡ Ok z → is_signed z ≡ true
    by true h q = let same : y ≡ z = cc q in rw (← same) h
    by false h q = cc q

line_of-halves : (first row : ℕ) (fields : List (List ℕ)) (line : List ℕ) → line_of Signed first row fields ≡ Ok line → AreHalves line
line_of-halves first row fields line h = by (length fields == first) h
  where
    by : (b : Bool) → (if b then slots_of Signed row fields else Err (Ragged row (length fields) first)) ≡ Ok line → AreHalves line
    by true q =
        let of = ok-of halves (each_from (signed_at row) 1 fields) line q in
        record {
          vector = of.0;
          signed = list_all-from_AllPass is_signed of.0 (each-all (λ z. is_signed z ≡ true) (signed_at row) 1 fields of.0 (λ k text z. signed_at-is row k (written Signed text) z) of.1);
          is = of.2;
        }
    by false q = cc q

pub trace-halves : (bytes : List ℕ) (trace : List (List ℕ)) → trace_of Signed bytes ≡ Ok trace → All AreHalves trace
trace-halves bytes trace h =
    let of = lines-of Signed (csv_rows bytes) trace h in
    each-all AreHalves (line_of Signed of.fields) 1 (csv_rows bytes) trace (λ k fields line. line_of-halves of.fields k fields line) of.read

pub trace-below : (bytes : List ℕ) (trace : List (List ℕ)) → trace_of Signed bytes ≡ Ok trace → All (λ line. All (λ n. n < 2 ^ 16) line) trace
trace-below bytes trace h = All-weaker AreHalves (λ line. All (λ n. n < 2 ^ 16) line) are-below trace (trace-halves bytes trace h)
