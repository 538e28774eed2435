-- The probe path of a packed pair in a table of 2 ^ d buckets, which stand in lines of 8. A part of the pair
-- has w bits.
use Rattle.std.specs.Prelude.{◌≡◌, ℕ, ◌+◌, ◌-◌, ◌*◌, ◌/◌, ◌%◌, ◌^◌, ◌<◌, ◌≤◌, min}
use Rattle.mix_hash.specs.Hash.{mix_of}

-- how many lines the table has
abbrev pub table_lines : ℕ → ℕ
table_lines d = 2 ^ (d - 3)

-- the bucket that is looked at first
unfoldable pub first_bucket : ℕ → ℕ → ℕ → ℕ
first_bucket w d pair = mix_of w pair % 2 ^ d

-- how many lines on the next line is: an odd number
unfoldable pub stride : ℕ → ℕ → ℕ → ℕ
stride w d pair = 2 * (mix_of w pair / 2 ^ d % table_lines d) + 1

-- the line that is walked when j others have been passed
unfoldable pub line_at : ℕ → ℕ → ℕ → ℕ → ℕ
line_at w d pair j = (first_bucket w d pair / 8 + j * stride w d pair) % table_lines d

-- the bucket of a step: in each line the walk begins at the first bucket's place in its line, and goes around
unfoldable pub bucket_at : ℕ → ℕ → ℕ → ℕ → ℕ
bucket_at w d pair step = 8 * line_at w d pair (step / 8) + (first_bucket w d pair % 8 + step % 8) % 8

-- how many lines are walked, where at most so many may be
abbrev pub walked_lines : ℕ → ℕ → ℕ
walked_lines d lines = min lines (table_lines d)

-- how many steps a path has
abbrev pub path_length : ℕ → ℕ → ℕ
path_length d lines = 8 * walked_lines d lines

-- what a path is for: a pair, a table of 2 ^ d buckets, and how many lines are walked
pub record Course : Type 0 where
  pub pair : ℕ
  pub d : ℕ
  pub lines : ℕ

-- how far a walk along a path has come: so many lines have been passed
pub record Progress : Type 0 where
  pub course : Course
  pub passed : ℕ

-- a course that a path may have
pub record IsCourse (w : ℕ) (course : Course) : Type 0 where
  pub pair : course.pair < 2 ^ (2 * w)
  pub smallest : 3 ≤ course.d
  pub largest : course.d ≤ 25
  pub walked : course.lines ≤ table_lines course.d

-- what the steps of a path share
pub record IsPrepared (w : ℕ) (course : Course) (first_line offset step mask : ℕ) : Type 0 where
  pub course_fits : IsCourse w course
  pub first_line_is : first_line ≡ first_bucket w course.d course.pair / 8
  pub offset_is : offset ≡ first_bucket w course.d course.pair % 8
  pub stride_is : step ≡ stride w course.d course.pair
  pub mask_is : mask ≡ table_lines course.d - 1

-- what a walk keeps
pub record IsUnderway (w : ℕ) (course : Course) (passed line : ℕ) : Type 0 where
  pub course_fits : IsCourse w course
  pub line_is : line ≡ line_at w course.d course.pair passed
  pub within : passed ≤ course.lines

-- no two of the first `count` steps have one bucket
abbrev pub BucketsDiffer : ℕ → ℕ → ℕ → ℕ → Type 0
BucketsDiffer w d pair count =
    (i j : ℕ) → i < count → j < count → bucket_at w d pair i ≡ bucket_at w d pair j → i ≡ j

-- each bucket of the table is the bucket of one of the first `count` steps
abbrev pub MeetsEachBucket : ℕ → ℕ → ℕ → ℕ → Type 0
MeetsEachBucket w d pair count =
    (b : ℕ) → b < 2 ^ d → (i : ℕ) × (i < count) × (bucket_at w d pair i ≡ b)
