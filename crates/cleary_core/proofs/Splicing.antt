-- A cell written by way of the one or two words that have it.
use Rattle.std.proofs.Common.{◌≡◌, ◌≢◌, ◌⊎◌, ℕ, ◌+◌, ◌-◌, ◌*◌, ◌/◌, ◌%◌, ◌^◌, ◌<◌, ◌≤◌, true, eqb, subst, List, length, get_or, set, length-set, sym, ap, ◌∙◌, inl, inr, ⊎_elim, arith, get_or-set_same, get_or-set_other, refl}
use Rattle.std.specs.Int.{bit_at}
use Rattle.std.proofs.lemmas.Bool.{cases_lt}
use Rattle.packed_word.specs.Slice.{bit, field}
use Rattle.std.proofs.lemmas.Nat.{shr_below}
use Rattle.std.proofs.Math.Nat.{mod-eq_of_lt}
use Rattle.packed_word.proofs.FieldBits.{bit_place, field_part, field_same, field_below}
use Rattle.cleary_core.specs.declared.cells.Cell.{Cell}
use Rattle.cleary_core.specs.declared.cells.Sizes.{Sizes}
use Rattle.cleary_core.specs.Cells.{width, Small, packed, unpacked, carried, cell_at}
use Rattle.cleary_core.specs.Change.{BitsPut}
use Rattle.cleary_core.proofs.Packing.{window, written_as, other_cell, same_cell}

-- a cell whose bits are as they were but for the mark of a home, which is set
virgin_set : (z : Sizes) (words new : List ℕ) (i at : ℕ) → at ≡ i * width z → BitsPut words new (at + 1) 1 1 → cell_at z new i ≡ carried true (cell_at z words i)
unfolding cell_at
virgin_set z words new i at e put =
    let m : ℕ = field new (i * width z) (width z) in
    let n : ℕ = field words (i * width z) (width z) in
    let same : (a b : ℕ) → (a + b ≤ 1) ⊎ (2 ≤ a) → a + b ≤ width z → m / 2 ^ a % 2 ^ b ≡ n / 2 ^ a % 2 ^ b = λ a b away fits.
    field_part new (i * width z) (width z) a b fits
    ∙ field_same words new (i * width z + a) b (λ t low high. ⊎_elim
    (λ (less : a + b ≤ 1). put.before t (omega arith))
    (λ (more : 2 ≤ a). put.after t (omega arith)) away)
    ∙ sym (field_part words (i * width z) (width z) a b fits) in
    let occupied : m / 2 ^ 0 % 2 ^ 1 ≡ n / 2 ^ 0 % 2 ^ 1 = same 0 1 (inl (omega arith)) (omega arith) in
    let virgin : m / 2 ^ 1 % 2 ^ 1 ≡ 1 = field_part new (i * width z) (width z) 1 1 (omega arith) ∙ ap (λ t. field new t 1) (omega arith) ∙ put.value in
    let change : m / 2 ^ 2 % 2 ^ 1 ≡ n / 2 ^ 2 % 2 ^ 1 = same 2 1 (inr (omega arith)) (omega arith) in
    let rest : m / 2 ^ 3 % 2 ^ (z.flags + z.quotient) ≡ n / 2 ^ 3 % 2 ^ (z.flags + z.quotient) = same 3 (z.flags + z.quotient) (inr (omega arith)) (omega arith) in
    let whole : m / 8 ≡ n / 8 = sym (high z new (i * width z)) ∙ rest ∙ high z words (i * width z) in
    same_cell (unpacked z m) (carried true (unpacked z n))
    (ap (λ x. eqb x 1) (let o : m % 2 ≡ n % 2 = omega (arith, occupied) in o))
    (ap (λ x. eqb x 1) (let v : m / 2 % 2 ≡ 1 = omega (arith, virgin) in v))
    (ap (λ x. eqb x 1) (let c : m / 4 % 2 ≡ n / 4 % 2 = omega (arith, change) in c))
    (ap (λ x. x % 2 ^ z.flags) whole) (ap (λ x. x / 2 ^ z.flags) whole)
  where
    high : (z : Sizes) (words : List ℕ) (at : ℕ) → field words at (width z) / 2 ^ 3 % 2 ^ (z.flags + z.quotient) ≡ field words at (width z) / 8
    high z words at =
        let n : ℕ = field words at (width z) in
        let fits : n < 2 ^ (z.flags + z.quotient + 3) = subst (λ (k : ℕ). n < 2 ^ k) (omega arith) (field_below words at (width z)) in
        mod-eq_of_lt (shr_below n (z.flags + z.quotient) 3 fits)

-- a word that two lists share
bits_of : (words part : List ℕ) (p q : ℕ) → get_or words p 0 ≡ get_or part q 0 → (t : ℕ) → 64 * p ≤ t → t < 64 * p + 64 → bit words t ≡ bit part (t - 64 * p + 64 * q)
bits_of words part p q e t a b =
    bit_place words t p (t - 64 * p) (omega arith) (omega arith) ∙ ap (λ n. bit_at n (t - 64 * p)) e ∙ sym (bit_place part (t - 64 * p + 64 * q) q (t - 64 * p) (omega arith) (omega arith))

bits_else : (words : List ℕ) (p r t : ℕ) → t / 64 ≢ p → bit (set words p r) t ≡ bit words t
unfolding bit
bits_else words p r t h = ap (λ n. bit_at n (t % 64)) (get_or-set_other words p (t / 64) r 0 h)

-- what a write of cell i does
pub record Wrote (z : Sizes) (words new : List ℕ) (i : ℕ) (cell : Cell) : Type 0 where
  pub here : cell_at z new i ≡ cell
  pub others : (j : ℕ) → j ≢ i → cell_at z new j ≡ cell_at z words j

-- all bits of a cell
pub wrote : (z : Sizes) (words new : List ℕ) (i at number : ℕ) (cell : Cell) → Small z cell → at ≡ i * width z → number ≡ packed z cell → BitsPut words new at (width z) number → Wrote z words new i cell
wrote z words new i at number cell small e is put = record {
  here = written_as z new i at number cell small e is put.value;
  others = other_cell z words new i at e put.before put.after;
}

-- one bit of a cell
pub marked : (z : Sizes) (words new : List ℕ) (i at : ℕ) → at ≡ i * width z → BitsPut words new (at + 1) 1 1 → Wrote z words new i (carried true (cell_at z words i))
marked z words new i at e put = record {
  here = virgin_set z words new i at e put;
  others = other_cell z words new i at e (λ t h. put.before t (omega arith)) (λ t h. put.after t (omega arith));
}

module _ (words : List ℕ) (at bits number : ℕ) (part after : List ℕ) (value : field after (at % 64) bits ≡ number)
    (low : (t : ℕ) → t < at % 64 → bit after t ≡ bit part t) (high : (t : ℕ) → at % 64 + bits ≤ t → bit after t ≡ bit part t) where
  put_by : (new : List ℕ) (first span : ℕ) → first ≡ 64 * (at / 64) → at % 64 + bits ≤ span
      → ((t : ℕ) → first ≤ t → t < first + span → bit new t ≡ bit after (t - first)) → ((t : ℕ) → first ≤ t → t < first + span → bit words t ≡ bit part (t - first))
      → ((t : ℕ) → (t < first) ⊎ (first + span ≤ t) → bit new t ≡ bit words t) → BitsPut words new at bits number
  put_by new first span f fits now was rest = record {
    value = sym (window new after at (at % 64) bits (λ t h. ap (λ m. bit after m) (omega arith) ∙ sym (now (at + t) (omega arith) (omega arith)))) ∙ value;
    before = λ t h. ⊎_elim
        (λ (less : t < first). rest t (inl less))
        (λ (from : first ≤ t). now t from (omega arith) ∙ low (t - first) (omega arith) ∙ sym (was t from (omega arith)))
        (cases_lt t first);
    after = λ t h. ⊎_elim
        (λ (less : t < first + span). now t (omega arith) less ∙ high (t - first) (omega arith) ∙ sym (was t (omega arith) less))
        (λ (from : first + span ≤ t). rest t (inr from))
        (cases_lt t (first + span));
  }

  pub put_one : at % 64 + bits ≤ 64 → at / 64 < length words → get_or words (at / 64) 0 ≡ get_or part 0 0 → BitsPut words (set words (at / 64) (get_or after 0 0)) at bits number
  put_one fits inside same =
      let p : ℕ = at / 64 in
      let new : List ℕ = set words (at / 64) (get_or after 0 0) in
      put_by new (64 * p) 64 refl fits
      (λ t a b. bits_of new after p 0 (get_or-set_same words p (get_or after 0 0) 0 inside) t a b ∙ ap (λ m. bit after m) (omega arith))
      (λ t a b. bits_of words part p 0 same t a b ∙ ap (λ m. bit part m) (omega arith))
      (λ t away. bits_else words p (get_or after 0 0) t (⊎_elim (λ (less : t < 64 * p). λ at_p. omega arith) (λ (from : 64 * p + 64 ≤ t). λ at_p. omega arith) away))

  pub put_two : bits ≤ 64 → at / 64 + 1 < length words → get_or words (at / 64) 0 ≡ get_or part 0 0 → get_or words (at / 64 + 1) 0 ≡ get_or part 1 0
      → BitsPut words (set (set words (at / 64) (get_or after 0 0)) (at / 64 + 1) (get_or after 1 0)) at bits number
  put_two fits inside same more =
      let p : ℕ = at / 64 in
      let mid : List ℕ = set words (at / 64) (get_or after 0 0) in
      let new : List ℕ = set (set words (at / 64) (get_or after 0 0)) (at / 64 + 1) (get_or after 1 0) in
      let long : length (set words (at / 64) (get_or after 0 0)) ≡ length words = length-set words p (get_or after 0 0) in
      put_by new (64 * p) 128 refl (omega arith)
      (λ t a b. ⊎_elim
      (λ (less : t < 64 * p + 64). bits_of new after p 0 (get_or-set_other mid (p + 1) p (get_or after 1 0) 0 (λ same. omega arith) ∙ get_or-set_same words p (get_or after 0 0) 0 (omega arith)) t a less ∙ ap (λ m. bit after m) (omega arith))
      (λ (from : 64 * p + 64 ≤ t). bits_of new after (p + 1) 1 (get_or-set_same mid (p + 1) (get_or after 1 0) 0 (omega arith)) t (omega arith) (omega arith) ∙ ap (λ m. bit after m) (omega arith))
      (cases_lt t (64 * p + 64)))
      (λ t a b. ⊎_elim
      (λ (less : t < 64 * p + 64). bits_of words part p 0 same t a less ∙ ap (λ m. bit part m) (omega arith))
      (λ (from : 64 * p + 64 ≤ t). bits_of words part (p + 1) 1 more t (omega arith) (omega arith) ∙ ap (λ m. bit part m) (omega arith))
      (cases_lt t (64 * p + 64)))
      (λ t away. bits_else mid (p + 1) (get_or after 1 0) t (⊎_elim (λ (less : t < 64 * p). λ at_p. omega arith) (λ (from : 64 * p + 128 ≤ t). λ at_p. omega arith) away)
      ∙ bits_else words p (get_or after 0 0) t (⊎_elim (λ (less : t < 64 * p). λ at_p. omega arith) (λ (from : 64 * p + 128 ≤ t). λ at_p. omega arith) away))
