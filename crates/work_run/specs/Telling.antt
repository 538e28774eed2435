-- What the answers to a worker's lines tell of.
use Rattle.std.specs.Prelude.{◌≡◌, ℕ, List, [], ◌∷◌, Bool, true, false, Option, Some, ⊤, flat_map}
use Rattle.std.specs.Prelude.{option_to_list, slice_get}
use Rattle.std.specs.List.{zip}
use Rattle.tdb_base.specs.Agrees.{entry_of}
use Rattle.tdb_base.specs.History.{Vector, Set, Entry, History}
use Rattle.tdb_base.specs.Replies.{is_full}
use Rattle.tdb_base.specs.declared.reply.Reply.{Reply}

-- what an answer to a line tells
pub record Telling (A : Type 0) : Type 1 where
  -- the reply to the line
  pub reply : A → Reply
  -- the calls of the history that a caller made for it
  pub entries : ℕ → Vector → A → History
  -- what is so of each answer
  pub proper : A → Type 0

module _ {A : Type 0} (telling : Telling A) where
  -- the calls that a caller made for some vectors, which were answered so
  abbrev pub told_entries : ℕ → List Vector → List A → History
  told_entries caller vectors answers =
      flat_map (λ line. telling.entries caller line.0 line.1) (zip vectors answers)

  abbrev pub entries_of_both : ℕ → Option Vector → Option A → History
  entries_of_both caller (Some v) (Some answer) = telling.entries caller v answer
  entries_of_both caller _ _ = []

  -- those for the line with this number
  abbrev pub entries_at : List Vector → List A → ℕ → ℕ → History
  entries_at trace answers caller i = entries_of_both caller (slice_get trace i) (slice_get answers i)

-- an insertion is answered by its reply, which tells of one call, or of none if it is full
abbrev pub insertion : Telling Reply
insertion = record {
  reply = λ reply. reply;
  entries = λ caller v reply. option_to_list (entry_of caller v reply);
  proper = λ reply. ⊤;
}

-- after an entry its caller set the flag of the same vector, which was clear, or was not
abbrev pub then_set : ℕ → Bool → Entry → History
then_set flag first e = e ∷ record e { act = Set flag first } ∷ []

-- A mark is answered by the reply to the insertion and whether the flag was clear, which tell of both calls,
-- or of none if the reply is full. Then the flag is not said to have been clear.
abbrev pub marking : ℕ → Telling (Reply × Bool)
marking flag = record {
  reply = λ a. a.0;
  entries = λ caller v a. flat_map (then_set flag a.1) (insertion.entries caller v a.0);
  proper = λ a. is_full a.0 ≡ true → a.1 ≡ false;
}
