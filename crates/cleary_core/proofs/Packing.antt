-- Cells and the words' bits.
use Rattle.std.proofs.Common.{◌≡◌, ◌≢◌, ◌⊎◌, ℕ, suc, ◌+◌, ◌-◌, ◌*◌, ◌/◌, ◌%◌, ◌^◌, ◌<◌, ◌≤◌, Bool, true, false, eqb, List, [], ◌∷◌, get_or, refl, subst, sym, ap, ◌∙◌, inl, inr, ⊎_elim, arith}
use Rattle.std.proofs.lemmas.Bool.{cases_lt}
use Rattle.std.proofs.Math.Nat.{mul-le-mul_right, pow-le-pow_right}
use Rattle.std.specs.Int.{bit_at}
use Rattle.std.specs.Int.RustNames.{bit_or}
use lib.Bits.{bit_and}
use Rattle.std.proofs.lemmas.Nat.{pow-add, pow_pos, mul-add-lt, mod_low, mod_below, shr_high, shr_below, shl_whole, or_shifted, one_shl, and_mask}
use Rattle.packed_word.specs.Slice.{bit, field}
use Rattle.packed_word.proofs.FieldBits.{field_same, field_is, field_below, field_bit, field_part, bit_place}
use Rattle.cleary_core.specs.declared.cells.Cell.{Cell}
use Rattle.cleary_core.specs.declared.cells.Sizes.{Sizes}
use Rattle.cleary_core.specs.declared.cells.CellMarks.{CellMarks}
use Rattle.cleary_core.specs.Cells.{width, IsRegion, Small, mark_of, packed, unpacked, cell_marks, marks_in, cell_at, sizes_of, word_count}

pub same_cell : (a b : Cell) → a.occupied ≡ b.occupied → a.virgin ≡ b.virgin → a.change ≡ b.change → a.flags ≡ b.flags → a.quotient ≡ b.quotient → a ≡ b
same_cell a b o v c f q =
    ap (λ x. let y : Cell = record { occupied = x; virgin = a.virgin; change = a.change; flags = a.flags; quotient = a.quotient } in y) o
    ∙ ap (λ x. let y : Cell = record { occupied = b.occupied; virgin = x; change = a.change; flags = a.flags; quotient = a.quotient } in y) v
    ∙ ap (λ x. let y : Cell = record { occupied = b.occupied; virgin = b.virgin; change = x; flags = a.flags; quotient = a.quotient } in y) c
    ∙ ap (λ x. let y : Cell = record { occupied = b.occupied; virgin = b.virgin; change = b.change; flags = x; quotient = a.quotient } in y) f
    ∙ ap (λ x. let y : Cell = record { occupied = b.occupied; virgin = b.virgin; change = b.change; flags = b.flags; quotient = x } in y) q

-- a cell from its number
mark_below : (b : Bool) → mark_of b < 2
mark_below true = omega arith
mark_below false = omega arith

low_mark : (b : Bool) (m : ℕ) → eqb ((mark_of b + 2 * m) % 2) 1 ≡ b
low_mark true m = let e : (1 + 2 * m) % 2 ≡ 1 = omega arith in ap (λ n. eqb n 1) e
low_mark false m = let e : (0 + 2 * m) % 2 ≡ 0 = omega arith in ap (λ n. eqb n 1) e

half : (o m : ℕ) → o < 2 → (o + 2 * m) / 2 ≡ m
half o m h = omega arith

quarter : (o v m : ℕ) → o < 2 → v < 2 → (o + 2 * (v + 2 * m)) / 4 ≡ m
quarter o v m h k = omega arith

eighth : (o v c m : ℕ) → o < 2 → v < 2 → c < 2 → (o + 2 * (v + 2 * (c + 2 * m))) / 8 ≡ m
eighth o v c m h k l = omega arith

pub unpacked_packed : (z : Sizes) (c : Cell) → Small z c → unpacked z (packed z c) ≡ c
unpacked_packed z c small =
    let x : ℕ = c.quotient * 2 ^ z.flags + c.flags in
    let o : ℕ = mark_of c.occupied in
    let v : ℕ = mark_of c.virgin in
    let h : ℕ = mark_of c.change in
    let bo : mark_of c.occupied < 2 = mark_below c.occupied in
    let bv : mark_of c.virgin < 2 = mark_below c.virgin in
    let bh : mark_of c.change < 2 = mark_below c.change in
    let e : packed z c / 8 ≡ x = eighth o v h x bo bv bh in
    same_cell (unpacked z (packed z c)) c
    (low_mark c.occupied (v + 2 * (h + 2 * x)))
    (ap (λ n. eqb (n % 2) 1) (half o (v + 2 * (h + 2 * x)) bo) ∙ low_mark c.virgin (h + 2 * x))
    (ap (λ n. eqb (n % 2) 1) (quarter o v (h + 2 * x) bo bv) ∙ low_mark c.change x)
    (ap (λ n. n % 2 ^ z.flags) e ∙ mod_low c.quotient z.flags c.flags small.flags)
    (ap (λ n. n / 2 ^ z.flags) e ∙ shr_high c.quotient z.flags c.flags small.flags)

-- the flags and the quotient as one number
pub joined : (f q flags quotient : ℕ) → flags < 2 ^ f → quotient < 2 ^ q → quotient * 2 ^ f + flags < 2 ^ (f + q)
joined f q flags quotient h k = rw (pow-add 2 f q) (mul-add-lt quotient (2 ^ f) flags (2 ^ q) k h)

eight : (f q : ℕ) → 2 ^ (3 + f + q) ≡ 8 * 2 ^ (f + q)
eight f q = ap (λ n. 2 ^ n) (omega arith) ∙ pow-add 2 3 (f + q)

pub packed_below : (z : Sizes) (c : Cell) → Small z c → packed z c < 2 ^ width z
packed_below z c small =
    let x = joined z.flags z.quotient c.flags c.quotient small.flags small.quotient in
    let o = mark_below c.occupied in
    let v = mark_below c.virgin in
    let h = mark_below c.change in
    omega (arith, eight z.flags z.quotient)

pub unpacked_small : (z : Sizes) (w : ℕ) → w < 2 ^ width z → Small z (unpacked z w)
unpacked_small z w h =
    let e : w < 2 ^ (z.flags + z.quotient + 3) = subst (λ (n : ℕ). w < 2 ^ n) (omega arith) h in
    let r : w / 8 < 2 ^ (z.flags + z.quotient) = shr_below w (z.flags + z.quotient) 3 e in
    record {
      flags = mod_below (w / 8) (2 ^ z.flags) (pow_pos z.flags);
      quotient = shr_below (w / 8) z.quotient z.flags (subst (λ (n : ℕ). w / 8 < 2 ^ n) (omega arith) r);
    }

pub cell_small : (z : Sizes) (words : List ℕ) (i : ℕ) → Small z (cell_at z words i)
unfolding cell_at
cell_small z words i = unpacked_small z (field words (i * width z) (width z)) (field_below words (i * width z) (width z))

pub unpacked_as : (z : Sizes) (w : ℕ) → z.flags < 64 → ◌≡◌ {A = Cell} record { occupied = eqb (w % 2) 1; virgin = eqb (w / 2 % 2) 1; change = eqb (w / 4 % 2) 1; flags = bit_and (w / 8) (1 * 2 ^ z.flags % 2 ^ 64 - 1); quotient = w / 8 / 2 ^ z.flags } (unpacked z w)
unpacked_as z w h =
    same_cell record { occupied = eqb (w % 2) 1; virgin = eqb (w / 2 % 2) 1; change = eqb (w / 4 % 2) 1; flags = bit_and (w / 8) (1 * 2 ^ z.flags % 2 ^ 64 - 1); quotient = w / 8 / 2 ^ z.flags } (unpacked z w)
    refl refl refl (ap (λ n. bit_and (w / 8) (n - 1)) (one_shl z.flags 64 h) ∙ and_mask (w / 8) z.flags) refl

pub join_as : (f q flags quotient : ℕ) → f + q ≤ 60 → flags < 2 ^ f → quotient < 2 ^ q → bit_or (quotient * 2 ^ f % 2 ^ 64) flags ≡ quotient * 2 ^ f + flags
join_as f q flags quotient few h k = ap (λ n. bit_or n flags) (shl_whole quotient q f 64 k (omega arith)) ∙ or_shifted quotient f flags h

pub read_as : (z : Sizes) (words : List ℕ) (i at w : ℕ) → at ≡ i * width z → w ≡ field words at (width z) → unpacked z w ≡ cell_at z words i
unfolding cell_at
read_as z words i at w e f = ap (λ n. unpacked z n) (f ∙ ap (λ n. field words n (width z)) e)

pub written_as : (z : Sizes) (words : List ℕ) (i at w : ℕ) (c : Cell) → Small z c → at ≡ i * width z → w ≡ packed z c → field words at (width z) ≡ w → cell_at z words i ≡ c
unfolding cell_at
written_as z words i at w c small e p f = ap (λ n. unpacked z n) (ap (λ n. field words n (width z)) (sym e) ∙ f ∙ p) ∙ unpacked_packed z c small

pub cell_same : (z : Sizes) (words other : List ℕ) (i : ℕ) → ((t : ℕ) → i * width z ≤ t → t < i * width z + width z → bit other t ≡ bit words t) → cell_at z other i ≡ cell_at z words i
unfolding cell_at
cell_same z words other i same = ap (λ n. unpacked z n) (field_same words other (i * width z) (width z) same)

-- two cells have no bit in common
pub apart : (i j w : ℕ) → j ≢ i → (j * w + w ≤ i * w) ⊎ (i * w + w ≤ j * w)
apart i j w h = ⊎_elim
    (λ (less : j < i). let k : suc j * w ≤ i * w = mul-le-mul_right w (omega arith) in inl (omega arith))
    (λ (from : i ≤ j). let k : suc i * w ≤ j * w = mul-le-mul_right w (omega arith) in inr (omega arith))
    (cases_lt j i)

pub other_cell : (z : Sizes) (words other : List ℕ) (i at : ℕ) → at ≡ i * width z → ((t : ℕ) → t < at → bit other t ≡ bit words t) → ((t : ℕ) → at + width z ≤ t → bit other t ≡ bit words t)
    → (j : ℕ) → j ≢ i → cell_at z other j ≡ cell_at z words j
other_cell z words other i at e before after j h = cell_same z words other j (λ t low high. ⊎_elim
    (λ (less : j * width z + width z ≤ i * width z). before t (omega arith))
    (λ (more : i * width z + width z ≤ j * width z). after t (omega arith))
    (apart i j (width z) h))

product : (a b c : ℕ) → a * (b * c) ≡ a * b * c
product a b c = omega arith

-- a cell's end is in the words
pub cell_inside : (z : Sizes) (i at : ℕ) → IsRegion z → i < z.cells → at ≡ i * width z → at + width z ≤ 64 * word_count z
cell_inside z i at region h e =
    let k : suc i * width z ≤ z.cells * width z = mul-le-mul_right (width z) (omega arith) in
    let whole : z.cells ≡ 64 * (z.cells / 64) = omega (arith, region.whole) in
    let w : z.cells * width z ≡ 64 * (z.cells / 64 * width z) = ap (λ n. n * width z) whole ∙ sym (product 64 (z.cells / 64) (width z)) in
    omega arith

-- the sizes of a region of a table
pub region_of : (W F r s : ℕ) → (6 ≤ s) × (s ≤ 12) × (s ≤ r) × (r ≤ 24) → (r < 2 * W) × (1 ≤ F) × (2 * W + F ≤ 63) → IsRegion (sizes_of W F r s) × (word_count (sizes_of W F r s) ≡ 2 ^ (s - 6) * (2 * W - r + 3 + F))
region_of W F r s a b =
    let d : 2 ^ s ≡ 64 * 2 ^ (s - 6) = ap (λ n. 2 ^ n) (omega (arith, a.0)) ∙ pow-add 2 6 (s - 6) in
    let most : 2 ^ s ≤ 2 ^ 12 = pow-le-pow_right {n = 2} (omega arith) a.1 in
    let some : 1 ≤ 2 ^ (s - 6) = pow_pos (s - 6) in
    let part : 2 ^ s / 64 ≡ 2 ^ (s - 6) = omega arith in
    let region : IsRegion (sizes_of W F r s) = record {
      some = (b.1, omega (arith, b.0));
      few = omega (arith, a.0, a.2, b.2);
      cells = (omega arith, omega arith);
      whole = omega arith;
    } in
    (region, ap (λ n. n * width (sizes_of W F r s)) part ∙ ap (λ n. 2 ^ (s - 6) * n) (omega arith))

-- a field whose bits are those of other words
pub window : (words part : List ℕ) (at first width : ℕ) → ((t : ℕ) → t < width → bit part (first + t) ≡ bit words (at + t)) → field part first width ≡ field words at width
window words part at first width same = field_is words at width (field part first width) (field_below part first width) (λ t h. field_bit part first width t h ∙ same t h)

-- a field within one word
pub field_in_one : (words : List ℕ) (at width low : ℕ) → at % 64 + width ≤ 64 → get_or words (at / 64) 0 ≡ low → field (low ∷ []) (at % 64) width ≡ field words at width
field_in_one words at width low fits is =
    let offset : ℕ = at % 64 in
    window words (low ∷ []) at offset width (λ t h.
    bit_place (low ∷ []) (offset + t) 0 (offset + t) (omega arith) (omega arith) ∙ ap (λ m. bit_at m (offset + t)) (sym is) ∙ sym (bit_place words (at + t) (at / 64) (offset + t) (omega arith) (omega arith)))

-- a field across two words
pub field_in_two : (words : List ℕ) (at width low high : ℕ) → width ≤ 64 → get_or words (at / 64) 0 ≡ low → get_or words (at / 64 + 1) 0 ≡ high → field (low ∷ high ∷ []) (at % 64) width ≡ field words at width
field_in_two words at width low high fits is more =
    let offset : ℕ = at % 64 in
    window words (low ∷ high ∷ []) at offset width (λ t h. ⊎_elim
    (λ (less : offset + t < 64). bit_place (low ∷ high ∷ []) (offset + t) 0 (offset + t) (omega arith) less ∙ ap (λ m. bit_at m (offset + t)) (sym is) ∙ sym (bit_place words (at + t) (at / 64) (offset + t) (omega arith) less))
    (λ (past : 64 ≤ offset + t). bit_place (low ∷ high ∷ []) (offset + t) 1 (offset + t - 64) (omega arith) (omega arith) ∙ ap (λ m. bit_at m (offset + t - 64)) (sym more) ∙ sym (bit_place words (at + t) (at / 64 + 1) (offset + t - 64) (omega arith) (omega arith)))
    (cases_lt (offset + t) 64))

-- a cell within one word
pub in_one : (z : Sizes) (words : List ℕ) (i at low : ℕ) → at ≡ i * width z → at % 64 + width z ≤ 64 → get_or words (at / 64) 0 ≡ low → cell_at z words i ≡ unpacked z (field (low ∷ []) (at % 64) (width z))
unfolding cell_at
in_one z words i at low e fits is = ap (λ n. unpacked z n) (ap (λ n. field words n (width z)) (sym e) ∙ sym (field_in_one words at (width z) low fits is))

-- a cell across two words
pub in_two : (z : Sizes) (words : List ℕ) (i at low high : ℕ) → at ≡ i * width z → width z ≤ 64 → get_or words (at / 64) 0 ≡ low → get_or words (at / 64 + 1) 0 ≡ high → cell_at z words i ≡ unpacked z (field (low ∷ high ∷ []) (at % 64) (width z))
unfolding cell_at
in_two z words i at low high e fits is more = ap (λ n. unpacked z n) (ap (λ n. field words n (width z)) (sym e) ∙ sym (field_in_two words at (width z) low high fits is more))

-- the marks are the three lowest bits
same_marks : (a b : CellMarks) → a.occupied ≡ b.occupied → a.virgin ≡ b.virgin → a.change ≡ b.change → a ≡ b
same_marks a b o v c =
    ap (λ x. let y : CellMarks = record { occupied = x; virgin = a.virgin; change = a.change } in y) o
    ∙ ap (λ x. let y : CellMarks = record { occupied = b.occupied; virgin = x; change = a.change } in y) v
    ∙ ap (λ x. let y : CellMarks = record { occupied = b.occupied; virgin = b.virgin; change = x } in y) c

marks_low : (w m : ℕ) → m ≡ w % 8 → marks_in w ≡ marks_in m
marks_low w m e =
    let o : w % 2 ≡ m % 2 = omega arith in
    let v : w / 2 % 2 ≡ m / 2 % 2 = omega arith in
    let c : w / 4 % 2 ≡ m / 4 % 2 = omega arith in
    same_marks (marks_in w) (marks_in m) (ap (λ n. eqb n 1) o) (ap (λ n. eqb n 1) v) (ap (λ n. eqb n 1) c)

pub marks_as : (z : Sizes) (words : List ℕ) (i at m : ℕ) → at ≡ i * width z → m ≡ field words at 3 → cell_marks (cell_at z words i) ≡ marks_in m
unfolding cell_at
marks_as z words i at m e is =
    let w : ℕ = field words (i * width z) (width z) in
    let low : w / 2 ^ 0 % 2 ^ 3 ≡ field words (i * width z + 0) 3 = field_part words (i * width z) (width z) 0 3 (omega arith) in
    marks_low w m (is ∙ ap (λ n. field words n 3) (omega arith) ∙ sym low ∙ omega arith)
