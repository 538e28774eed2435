-- The generated trace: each line is the one before it with one slot set anew.
use Rattle.std.specs.Prelude.{ℕ, zero, suc, ◌-◌, ◌/◌, ◌%◌, List, [], ◌∷◌, replicate, slice_set}
use Rattle.rand_core.specs.Pcg32Seed.{pcg32_seed}
use Rattle.rand_pcg.specs.Lcg.{Lcg}
use Rattle.rand_pcg.specs.Pcg.{pcg64, pcg64_of_seed}

-- the generator that a number starts
abbrev pub seeded : ℕ → Lcg
seeded seed = pcg64_of_seed (pcg32_seed 32 seed)

-- the line after a line, where w was drawn for it
abbrev pub moved : ℕ → ℕ → ℕ → List ℕ → List ℕ
moved slots values w line = slice_set line (w % slots) (w / slots % values)

-- so many lines after a line, with a number drawn for each
unfoldable pub lines_after : ℕ → ℕ → ℕ → Lcg → List ℕ → List (List ℕ)
lines_after slots values zero random line = []
lines_after slots values (suc count) random line =
    let next = moved slots values (pcg64 random).0 line in
    next ∷ lines_after slots values count (pcg64 random).1 next

-- all lines: the first one is zeros
abbrev pub walk : ℕ → ℕ → ℕ → ℕ → List (List ℕ)
walk lines slots values seed =
    replicate slots 0 ∷ lines_after slots values (lines - 1) (seeded seed) (replicate slots 0)
