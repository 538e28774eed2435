-- The lines of a trace: without repeats, and dealt out to workers.
use Rattle.std.specs.Prelude.{◌==◌, ◌<◌, ◌/◌, ◌%◌, ℕ, List, [], ◌∷◌, filter, not, map, slice_get}
use Rattle.std.specs.List.{filter_map, range_with_len}
use Rattle.tdb_base.specs.History.{Vector, History, is_fresh, same}

-- the vectors without repeats, in the order in which they first occur
unfoldable pub distinct : List Vector → List Vector
distinct [] = []
distinct (v ∷ rest) = v ∷ filter (λ w. not (same v w)) (distinct rest)

-- the vectors that have a name, each once
abbrev pub named : History → List Vector
named h = distinct (map (λ e. e.vector) (filter (λ e. is_fresh e.act) h))

-- the numbers, from 0, of the lines of one worker, in order, where this says whose each line is
abbrev pub owned : ℕ → (ℕ → ℕ) → ℕ → List ℕ
owned lines owner worker = filter (λ i. owner i == worker) (range_with_len 0 lines)

-- each of so many lines is that of one of so many workers
abbrev pub AreShared : (lines workers : ℕ) → (ℕ → ℕ) → Type 0
AreShared lines workers owner = (i : ℕ) → i < lines → owner i < workers

-- whose a line is where blocks of `block` lines are dealt out in turn
abbrev pub dealt_to : ℕ → ℕ → ℕ → ℕ
dealt_to workers block i = i / block % workers

-- the lines of one of so many workers to whom they are dealt out so
abbrev pub mine : ℕ → ℕ → ℕ → ℕ → List ℕ
mine lines workers block worker = owned lines (dealt_to workers block) worker

-- the elements at these places
abbrev pub picked : {A : Type 0} → List A → List ℕ → List A
picked xs places = filter_map (slice_get xs) places
