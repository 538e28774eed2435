-- Words that are all 0 keep the empty map.
use Rattle.std.proofs.Common.{◌≡◌, ℕ, zero, suc, ◌+◌, ◌*◌, ◌/◌, ◌%◌, ◌≤◌, Bool, true, false, List, [], length, get_or, Some, None, refl, sym, ap, ◌∙◌, arith, ◌^◌}
use Rattle.std.specs.Int.{bit_at}
use Rattle.std.proofs.lemmas.Nat.{mod_low, shr_high, pow_pos}
use Rattle.std.proofs.lemmas.Nat.Bits.{bit_at-zero}
use Rattle.packed_word.specs.Slice.{bit, field}
use Rattle.cleary_core.specs.declared.cells.Cell.{Cell}
use Rattle.cleary_core.specs.declared.cells.Sizes.{Sizes}
use Rattle.cleary_core.specs.Cells.{mark_of, width, unpacked, cell_at}
use Rattle.cleary_core.specs.Map.{Key, Has, Keeps, empty_cell, occupied_count}
use Rattle.cleary_core.proofs.Slots.{none_some, same_key, clash}
use Rattle.cleary_core.proofs.Packing.{same_cell}

module _ (words : List ℕ) (zeros : (i : ℕ) → get_or words i 0 ≡ 0) where
  no_bit : (t : ℕ) → bit words t ≡ 0
  unfolding bit
  no_bit t = ap (λ n. bit_at n (t % 64)) (zeros (t / 64)) ∙ bit_at-zero (t % 64)

  no_field : (at width : ℕ) → field words at width ≡ 0
  unfolding field
  no_field at zero = refl
  no_field at (suc width) = let a = no_bit at in let b = no_field (suc at) width in omega arith

  no_cell : (z : Sizes) (i : ℕ) → cell_at z words i ≡ empty_cell
  unfolding cell_at
  no_cell z i =
      let zero_is : 0 ≡ 0 * 2 ^ z.flags + 0 = omega arith in
      ap (λ n. unpacked z n) (no_field (i * width z) (width z)) ∙ same_cell (unpacked z 0) empty_cell refl refl refl
      (ap (λ n. n % 2 ^ z.flags) zero_is ∙ mod_low 0 z.flags 0 (pow_pos z.flags))
      (ap (λ n. n / 2 ^ z.flags) zero_is ∙ shr_high 0 z.flags 0 (pow_pos z.flags))

  no_count : (z : Sizes) (n : ℕ) → occupied_count (cell_at z words) n ≡ 0
  no_count z zero = refl
  no_count z (suc n) = let a = no_count z n in let b : mark_of (cell_at z words n).occupied ≡ 0 = ap (λ (c : Cell). mark_of c.occupied) (no_cell z n) in omega arith

  pub keeps_nothing : (z : Sizes) (n : ℕ) → Keeps n (cell_at z words) []
  keeps_nothing z n =
      let no : (k : Key) → None ≡ Some k → ⊥ = (λ k e. none_some None k refl e) in
      record {
        slots = λ i. None;
        laid = record {
          past = λ i k e. absurd (no k e);
          once = λ i j k l e f h q. absurd (no k e);
          rising = λ i j k l h e f. absurd (no k e);
          run_up = λ i j k e a b. absurd (no k e);
          run_down = λ i j k e a b. absurd (no k e);
        };
        drawn = record {
          empty = λ i h e. no_cell z i;
          occupied = λ i k e. absurd (no k e);
          quotient = λ i k e. absurd (no k e);
          flags = λ i k e. absurd (no k e);
          virgin = λ i h t. absurd (clash (cell_at z words i).virgin (ap (λ (c : Cell). c.virgin) (no_cell z i)) t);
          home = λ j k e. absurd (no k e);
          change = λ i k e t. absurd (no k e);
          last = λ i k e n. absurd (no k e);
        };
        holds = record {
          map = tt;
          number = no_count z n;
          all = λ k has. absurd has;
          only = λ i k e. absurd (no k e);
        };
      }

-- the list of keys is a map: two entries of one key are one
pub one_entry : (n : ℕ) (cells : ℕ → Cell) (keys : List Key) → Keeps n cells keys → (k l : Key) → Has k keys → Has l keys → k.home ≡ l.home → k.quotient ≡ l.quotient → k ≡ l
one_entry n cells keys kept k l a b h q =
    let i = kept.holds.all k a in
    let j = kept.holds.all l b in
    same_key (kept.slots j.0) k l (ap kept.slots (sym (kept.laid.once i.0 j.0 k l i.1 j.1 h q)) ∙ i.1) j.1

one_most : (b : Bool) → mark_of b ≤ 1
one_most true = omega arith
one_most false = omega arith

count_most : (cells : ℕ → Cell) (n : ℕ) → occupied_count cells n ≤ n
count_most cells zero = omega arith
count_most cells (suc n) = let h = count_most cells n in let b = one_most (cells n).occupied in omega arith

-- a region has no more keys than cells
pub few_keys : (n : ℕ) (cells : ℕ → Cell) (keys : List Key) → Keeps n cells keys → length keys ≤ n
few_keys n cells keys kept = let h = count_most cells n in omega (arith, kept.holds.number)
