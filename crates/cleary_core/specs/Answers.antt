-- What the calls on a region answer.
use Rattle.std.specs.Prelude.{◌≡◌, ℕ, Bool, List, [], ◌∷◌, length, Result, MatchResult, MatchBool, ◌==◌, ◌&&◌}
use Rattle.std.specs.Prelude.{if◌then◌else◌}
use Rattle.cleary_core.specs.declared.cells.Sizes.{Sizes}
use Rattle.cleary_core.specs.declared.insertion.RegionFull.{RegionFull}
use Rattle.cleary_core.specs.Access.{HasReached}
use Rattle.cleary_core.specs.Cells.{word_count}
use Rattle.cleary_core.specs.Map.{Key, Has, KeepsMap}

abbrev pub Present : List Key → ℕ → ℕ → Type 0
Present keys home quotient = (k : Key) × Has k keys × (k.home ≡ home) × (k.quotient ≡ quotient)

-- an answer says whether the map has the key
abbrev pub Tells : Bool → List Key → ℕ → ℕ → Type 0
Tells answer keys home quotient =
    MatchBool answer (Present keys home quotient) (Present keys home quotient → ⊥)

-- these are the flags of the key, if the map has it
abbrev pub TellsFlags : ℕ → List Key → ℕ → ℕ → Type 0
TellsFlags flags keys home quotient = (k : Key) → Has k keys → k.home ≡ home → k.quotient ≡ quotient
    → flags ≡ k.flags

-- what was reached decides the answer: whatever words of a region agree with it and keep some map, the answer
-- is true of that map
abbrev pub Decides : Sizes → (ℕ → ℕ → Type 0) → ℕ → ℕ → Bool → Type 0
Decides z reached home quotient answer = (words : List ℕ) (keys : List Key) → length words ≡ word_count z
    → HasReached reached words → KeepsMap z words keys → Tells answer keys home quotient

abbrev pub DecidesFlags : Sizes → (ℕ → ℕ → Type 0) → ℕ → ℕ → ℕ → Type 0
DecidesFlags z reached home quotient flags = (words : List ℕ) (keys : List Key) → length words ≡ word_count z
    → HasReached reached words → KeepsMap z words keys → TellsFlags flags keys home quotient

abbrev pub new_key : ℕ → ℕ → Key
new_key home quotient = record { home = home; quotient = quotient; flags = 0 }

-- what an insertion into words that keep the map answers and leaves
abbrev pub Answered : Result Bool RegionFull → Sizes → List Key → ℕ → ℕ → List ℕ → Type 0
Answered result z keys home quotient new = MatchResult result
    (λ fresh. MatchBool fresh
    ((Present keys home quotient → ⊥) × KeepsMap z new (new_key home quotient ∷ keys))
    (Present keys home quotient × KeepsMap z new keys))
    (λ _. (Present keys home quotient → ⊥) × (length keys ≡ z.cells) × KeepsMap z new keys)

-- a map with one key's flags set
abbrev pub flag : ℕ → ℕ → ℕ → Key → Key
flag home quotient value k =
    record k { flags = (if (k.home == home) && (k.quotient == quotient) then value else k.flags) }

abbrev pub flagged : ℕ → ℕ → ℕ → List Key → List Key
flagged home quotient value [] = []
flagged home quotient value (k ∷ keys) = flag home quotient value k ∷ flagged home quotient value keys

-- where the words keep a map without the key, they stay
pub record StayWithout (z : Sizes) (old new : List ℕ) (home quotient : ℕ) : Type 0 where
  pub stay : (keys : List Key) → KeepsMap z old keys → (Present keys home quotient → ⊥) → new ≡ old
