-- What marks on lines tell, where those reached are marked one after another.
use Rattle.std.specs.Prelude.{◌≡◌, ◌<◌, ℕ, Bool, true, false, List, length, get_or}
use Rattle.tdb_base.specs.History.{Vector}
use Rattle.tdb_base.specs.declared.reply.Reply.{Reply}
use Rattle.tdb_base.specs.declared.reply.Reply.TheVariants as r
use Rattle.run_check.specs.Reached.{Line, Reached, is_seen, owner}

-- the line is marked
abbrev pub HasMark : List Bool → ℕ → Type 0
HasMark marks k = get_or marks k false ≡ true

-- some line with this vector is answered new and has a mark
abbrev pub NewHasMark : List Vector → List Reply → List Bool → Vector → Type 0
NewHasMark trace replies marks v = (m id : ℕ) × Line trace replies m v (r.New id) × HasMark marks m

-- all earlier lines of the line's worker are marked, and it isn't answered seen, or some line with its vector
-- that is answered new is marked
pub record MayMark (trace : List Vector) (replies : List Reply) (workers block : ℕ) (marks : List Bool) (i : ℕ)
    : Type 0 where
  pub vector : Vector
  pub reply : Reply
  pub line : Line trace replies i vector reply
  pub earlier : (k : ℕ) → k < i → owner workers block k ≡ owner workers block i → HasMark marks k
  pub known : is_seen reply ≡ true → NewHasMark trace replies marks vector

-- it may be marked, and isn't
abbrev pub IsToMark : List Vector → List Reply → ℕ → ℕ → List Bool → ℕ → Type 0
IsToMark trace replies workers block marks i =
    (get_or marks i false ≡ false) × MayMark trace replies workers block marks i

-- each line has a mark or none, and those marked are reached
pub record AreSound (trace : List Vector) (replies : List Reply) (workers block : ℕ) (marks : List Bool)
    : Type 0 where
  pub count : length marks ≡ length trace
  pub reached : (k : ℕ) → HasMark marks k → Reached trace replies workers block k

-- and all that are reached are marked
pub record AreReached (trace : List Vector) (replies : List Reply) (workers block : ℕ) (marks : List Bool)
    : Type 0 where
  pub sound : AreSound trace replies workers block marks
  pub all : (k : ℕ) → Reached trace replies workers block k → HasMark marks k
