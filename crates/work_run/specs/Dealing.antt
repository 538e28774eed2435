-- The laws of dealing a trace's lines out to workers.
use Rattle.std.specs.Prelude.{◌≡◌, ◌<◌, ◌≤◌, ◌^◌, ◌/◌, ◌%◌, ℕ, Some, Contains}
use Rattle.std.specs.List.{range_with_len, slice_get}
use Rattle.tdb_base.specs.Lines.{mine}

-- a worker's lines are lines of the trace
abbrev pub WithinTheTrace : Type 0
WithinTheTrace = (lines workers block worker i : ℕ) → Contains (mine lines workers block worker) i → i < lines

-- no line is the line of two workers
abbrev pub OneWorkerEach : Type 0
OneWorkerEach =
    (lines workers block one other i : ℕ) → Contains (mine lines workers block one) i
    → Contains (mine lines workers block other) i
    → one ≡ other

-- no worker has a line twice
abbrev pub OneTurnEach : Type 0
OneTurnEach =
    (lines workers block worker n m i : ℕ) → slice_get (mine lines workers block worker) n ≡ Some i
    → slice_get (mine lines workers block worker) m ≡ Some i → n ≡ m

-- each line is a worker's: the blocks' numbers go round over the workers
abbrev pub EachHasAWorker : Type 0
EachHasAWorker =
    (lines workers block i : ℕ) → 0 < workers → i < lines
    → (i / block % workers < workers) × Contains (mine lines workers block (i / block % workers)) i

-- a worker alone has all lines, in order
abbrev pub OneWorkerHasAll : Type 0
OneWorkerHasAll = (lines block : ℕ) → mine lines 1 block 0 ≡ range_with_len 0 lines

-- the numbers of a trace that is dealt out are in their ranges
pub record IsDealt (lines workers block : ℕ) : Type 0 where
  pub few_lines : lines ≤ 2 ^ 32
  pub some_workers : 1 ≤ workers
  pub few_workers : workers ≤ 64
  pub some_block : 1 ≤ block
  pub small_block : block ≤ 65536
