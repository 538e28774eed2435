-- The lines that a worker still has to take.
use Rattle.std.specs.Prelude.{◌≡◌, ℕ, ◌+◌, ◌-◌, ◌%◌, ◌^◌, ◌<◌, ◌≤◌, Bool, nat_lt, List, [], ◌++◌, All, filter, length}
use Rattle.std.specs.List.{range_with_len}
use Rattle.std.proofs.Common.{append_assoc, refl, sym, ap, ◌∙◌}
use Rattle.work_run.specs.Giving.{Giving, AddsUp}

-- rounds begin at `start`, and i is one of the first `block` lines of its round
abbrev pub is_dealt : ℕ → ℕ → ℕ → ℕ → Bool
is_dealt start block round i = nat_lt ((i - start) % round) block

-- the lines from `next` on that are dealt, where a block ends at `block_end` and the next one begins after
-- the gap
unfoldable pub lines_to_come : ℕ → ℕ → ℕ → ℕ → ℕ → List ℕ
lines_to_come lines block gap next block_end =
    filter (is_dealt (block_end - block) block (block + gap)) (range_with_len next (lines - next))

-- the next line stands in a block, and all numbers are small
pub record AreUnderway (lines block gap next block_end : ℕ) : Type 0 where
  pub few : lines ≤ 2 ^ 32
  pub small : block ≤ 65536
  pub gap_small : gap ≤ 2 ^ 32
  pub whole : block ≤ block_end
  pub begun : block_end ≤ next + block
  pub unfinished : next < block_end

-- the lines that are dealt to a worker are given from the first on
abbrev pub dealt_lines : Giving (List ℕ)
dealt_lines = record {
  gives = λ old lines new. old ≡ lines ++ new;
  is_over = λ left. left ≡ [];
  left = λ left. length left;
  within = λ lines left. All (λ i. i < lines) left;
}

pub dealt_lines_add_up : AddsUp dealt_lines
dealt_lines_add_up = record {
  none = λ s. refl;
  more = λ s t u first next one two. one ∙ (ap (λ (xs : List ℕ). first ++ xs) two ∙ sym (append_assoc first next u));
}
