-- What replies that agree with a history tell a user, in plain sentences.
use Rattle.std.specs.Prelude.{◌≡◌, ◌&&◌, ℕ, false, List, Option, Some, Contains, length, slice_get, count_by}
use Rattle.std.specs.Prelude.{option_and_then}
use Rattle.std.specs.List.{list_any, zip}
use Rattle.tdb_base.specs.Replies.{is_new, is_full, id_of}
use Rattle.tdb_base.specs.History.{Vector, History, same}
use Rattle.tdb_base.specs.Lines.{distinct, named}
use Rattle.tdb_base.specs.declared.reply.Reply.{Reply}

-- the identifier that a line was answered
abbrev pub id_at : List Reply → ℕ → Option ℕ
id_at replies i = option_and_then id_of (slice_get replies i)

-- equal lines are answered equal identifiers
abbrev pub EqualLinesEqualIds : List Vector → List Reply → Type 0
EqualLinesEqualIds trace replies = (i k : ℕ) (v : Vector) (a b : ℕ) → slice_get trace i ≡ Some v
    → slice_get trace k ≡ Some v
    → id_at replies i ≡ Some a → id_at replies k ≡ Some b → a ≡ b

-- lines with equal identifiers are equal, so different lines have different ones
abbrev pub DifferentLinesDifferentIds : List Vector → List Reply → Type 0
DifferentLinesDifferentIds trace replies = (i k : ℕ) (v w : Vector) (a : ℕ) → slice_get trace i ≡ Some v
    → slice_get trace k ≡ Some w
    → id_at replies i ≡ Some a → id_at replies k ≡ Some a → v ≡ w

-- so many lines are answered new as there are names
abbrev pub CountsNames : List Reply → History → Type 0
CountsNames replies h = count_by is_new replies ≡ length (named h)

-- where no line is answered full, each vector of the trace is answered new by one of its lines, and by no
-- second
abbrev pub EachNewOnce : List Vector → List Reply → Type 0
EachNewOnce trace replies = list_any is_full replies ≡ false → (v : Vector) → Contains trace v
    → count_by (λ line. is_new line.1 && same line.0 v) (zip trace replies) ≡ 1

-- where no line is answered full, so many are answered new as there are different lines
abbrev pub CountsDistinct : List Vector → List Reply → Type 0
CountsDistinct trace replies = list_any is_full replies ≡ false
    → count_by is_new replies ≡ length (distinct trace)
