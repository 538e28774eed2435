-- What is found at the front of a text, where one of some words is to stand.
use Rattle.std.specs.Prelude.{◌≡◌, ◌≤◌, ◌<◌, ◌+◌, ◌^◌, ℕ, Bool, List, [], ◌∷◌, ◌++◌, if◌then◌else◌}
use Rattle.std.specs.Prelude.{Ok, Err, Result, Option, MatchOption}
use Rattle.std.specs.Borrow.{Bor}
use Rattle.std.specs.Fmt.{decimal}
use Rattle.run_check.specs.declared.word.Fault.{Fault}
use Rattle.run_check.specs.declared.word.Fault.TheVariants as f

-- the text ends within the word
abbrev pub EndsWithin : List ℕ → List ℕ → Type 0
EndsWithin text word = (b : ℕ) × (more : List ℕ) × (word ≡ text ++ b ∷ more)

-- neither the text nor the word begins as the other goes
abbrev pub Differs : List ℕ → List ℕ → Type 0
Differs text word = (x y : List ℕ) → text ++ x ≡ word ++ y → ⊥

-- why no word of some values stands at the front: the text ends within one of them, or differs from all
abbrev pub Misses : {A : Type 0} → (A → List ℕ) → (A → Type 0) → List ℕ → Fault → Type 0
Misses {A} word fits text f.Short = (a : A) × fits a × EndsWithin text (word a)
Misses {A} word fits text f.Wrong = (a : A) → fits a → Differs text (word a)

-- the word of a value stands at the front, and the rest follows; or the word of none does
abbrev pub Reads : {A : Type 0} → (A → List ℕ) → (A → Type 0) → List ℕ → Result (A × Bor (List ℕ)) Fault
    → Type 0
Reads word fits text (Ok r) = fits r.0 × (text ≡ word r.0 ++ r.1.now)
Reads word fits text (Err fault) = Misses word fits text fault

-- the same of one word
abbrev pub ReadsWord : List ℕ → List ℕ → Result (Bor (List ℕ)) Fault → Type 0
ReadsWord word text (Ok rest) = text ≡ word ++ rest.now
ReadsWord word text (Err f.Short) = EndsWithin text word
ReadsWord word text (Err f.Wrong) = Differs text word

-- a number of 64 bits
abbrev pub IsReplyWord : ℕ → Type 0
IsReplyWord n = n < 2 ^ 64

-- each value has a word
abbrev pub Always : {A : Type 0} → A → Type 0
Always a = Unit {0}

-- the first of two words, or the second
abbrev pub one_of : List ℕ → List ℕ → Bool → List ℕ
one_of first second is_first = if is_first then first else second

-- the number, if it has 64 bits
abbrev pub IsCapped : Option ℕ → ℕ → Type 0
IsCapped o n = MatchOption o (2 ^ 64 ≤ n) (λ m. (m ≡ n) × (n < 2 ^ 64))

-- a number and the byte after it
abbrev pub number_to : ℕ → ℕ → List ℕ
number_to stop n = decimal n ++ stop ∷ []

-- the number of the text line that is wrong, where the line with this number begins such a text
abbrev pub wrong_line : ℕ → List ℕ → Fault → ℕ
wrong_line line text f.Wrong = line
wrong_line line [] f.Short = line
wrong_line line (b ∷ rest) f.Short = line + 1
