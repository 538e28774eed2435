-- What was read back from a store: vectors that stand one after the other, and their numbers.
use Rattle.std.specs.Prelude.{◌≡◌, ◌≢◌, ◌+◌, ◌*◌, ◌%◌, ◌^◌, ◌≤◌, ◌↔◌, ℕ, List, [], ◌∷◌, ◌++◌, All, Option}
use Rattle.std.specs.Prelude.{Some, None, Contains, IsPermutation, length, map, vec_capacity, ⊤}
use Rattle.std.specs.List.{AllPairs, filter_map, range_with_len}
use Rattle.std.specs.List.Sorted.{IsSorted}
use Rattle.tdb_base.specs.History.{Vector, History, name_of}
use Rattle.tdb_base.specs.Lines.{named}
use Rattle.tdb_base.specs.declared.reply.Reply.{Reply}
use Rattle.tdb_base.specs.declared.reply.Reply.TheVariants as r
use Rattle.trace_csv.specs.Signed.{AreHalves, signed_of}
use Rattle.trace_csv.specs.declared.form.Form.{Form}
use Rattle.trace_csv.specs.declared.form.Form.TheVariants.{Unsigned, Signed}
use Rattle.trace_csv.specs.Vectors.{signed_text, vectors_of, vectors_text}
use Rattle.command_line.specs.declared.outcome.Job.{Job}
use Rattle.command_line.specs.declared.outcome.Job.TheVariants.{Insert, Distinct, Bench, Check, Mark}
use Rattle.treedb.specs.Listing.{form_order}
use Rattle.treedb.specs.declared.distinct.ReadBack.{ReadBack}

-- the vectors, in the order of the numbers
abbrev pub vectors : ReadBack → List Vector
vectors back = vectors_of back.slots back.flat.items back.order.items

-- there is room for so many more vectors and their numbers
pub record HasRoomFor (more : ℕ) (back : ReadBack) : Type 0 where
  pub flat : (length back.order.items + more) * back.slots ≤ length back.flat.items
  pub order : length back.order.items + more ≤ vec_capacity back.order
  pub few : length back.order.items + more ≤ 2 ^ 32

-- there is room for the vectors of so many lines of so many slots, and none stands there
pub record AwaitsLines (slots lines : ℕ) (back : ReadBack) : Type 0 where
  pub slots_are : back.slots ≡ slots
  pub range : (2 ≤ slots) × (slots ≤ 1024)
  pub empty : back.order.items ≡ []
  pub room : HasRoomFor lines back

-- no room is lost
pub record KeepsRoom (old new : ReadBack) : Type 0 where
  pub slots : new.slots ≡ old.slots
  pub flat : length new.flat.items ≡ length old.flat.items
  pub order : vec_capacity old.order ≤ vec_capacity new.order

-- the numbers are those from 0 in their order
abbrev pub IsCounted : ReadBack → Type 0
IsCounted back = back.order.items ≡ range_with_len 0 (length back.order.items)

-- the identifier that a reply gives for the first time
abbrev pub new_id : Reply → Option ℕ
new_id (r.New id) = Some id
new_id (r.Seen id) = None
new_id r.FullNodes = None
new_id r.FullRoots = None

-- the identifiers of the replies that are new
abbrev pub new_ids : List Reply → List ℕ
new_ids replies = filter_map new_id replies

-- one vector more, that has this name; none where there is no name
abbrev pub Adds : History → Option ℕ → (old new : List Vector) → Type 0
Adds h None old new = new ≡ old
Adds h (Some id) old new = (v : Vector) × (name_of h v ≡ Some id) × (new ≡ old ++ v ∷ [])

-- each number names a vector that stands there
pub record AreThere (back : ReadBack) : Type 0 where
  pub least : 2 ≤ back.slots
  pub there : All (λ number. (number + 1) * back.slots ≤ length back.flat.items) back.order.items

-- what was read back by these identifiers: vectors of so many slots that have them as names, in their order
pub record IsReadBy (form : Form) (slots : ℕ) (h : History) (ids : List ℕ) (back : ReadBack) : Type 0 where
  pub are_there : AreThere back
  pub slots_are : back.slots ≡ slots
  pub read : List Vector
  pub names : map (name_of h) read ≡ map Some ids
  pub moved : IsPermutation read (vectors back)
  pub order : IsSorted (form_order form) (vectors back)

-- what is read back of a history: its named vectors, each once, in their order
pub record IsReadBack (form : Form) (h : History) (back : ReadBack) : Type 0 where
  pub are_there : AreThere back
  pub once : AllPairs (λ u v. u ≢ v) (vectors back)
  pub same : (v : Vector) → Contains (vectors back) v ↔ Contains (named h) v
  pub order : IsSorted (form_order form) (vectors back)

-- it is of the lines of a trace
pub record IsOfLines (trace : List Vector) (back : ReadBack) : Type 0 where
  pub slots : All (λ v. length v ≡ back.slots) trace
  pub among : (v : Vector) → Contains (vectors back) v → Contains trace v

-- vectors of signed numbers
pub record AreSigned (back : ReadBack) : Type 0 where
  pub least : 4 ≤ back.slots
  pub even : back.slots % 2 ≡ 0
  pub halves : All AreHalves (vectors back)

abbrev pub AreVectorsOf : Form → ReadBack → Type 0
AreVectorsOf (Unsigned width) back = ⊤
AreVectorsOf Signed back = AreSigned back

-- their text
abbrev pub listed : Form → ReadBack → List ℕ
listed (Unsigned width) back = vectors_text (vectors back)
listed Signed back = signed_text (map signed_of (vectors back))

-- where there is room the vectors of these identifiers were read back, and where there is none none were
abbrev pub ReadsInto : Form → ℕ → History → List ℕ → (room result : Option ReadBack) → Type 0
ReadsInto form slots h ids (Some room) (Some back) = IsReadBy form slots h ids back
ReadsInto form slots h ids (Some room) None = ⊥
ReadsInto form slots h ids None (Some back) = ⊥
ReadsInto form slots h ids None None = ⊤

-- this is told of what was read back where the job prints vectors, and for no other job anything is read back
abbrev pub IfPrinted : Job → Option ReadBack → (ReadBack → Type 0) → Type 0
IfPrinted Distinct (Some back) Fact = Fact back
IfPrinted Distinct None Fact = ⊥
IfPrinted Insert (Some back) Fact = ⊥
IfPrinted Insert None Fact = ⊤
IfPrinted Bench (Some back) Fact = ⊥
IfPrinted Bench None Fact = ⊤
IfPrinted Check (Some back) Fact = ⊥
IfPrinted Check None Fact = ⊤
IfPrinted Mark (Some back) Fact = ⊥
IfPrinted Mark None Fact = ⊤
