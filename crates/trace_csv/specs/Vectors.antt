-- The text of vectors: a line for each, its numbers joined by commas.
use Rattle.std.specs.Prelude.{◌≡◌, ◌<◌, ◌*◌, ℕ, ℤ, List, ◌++◌, take, drop, map, codes, All, ⊤}
use Rattle.std.specs.Fmt.{decimal, signed_decimal}
use Rattle.std.specs.List.{flat_map, join_by}
use Rattle.trace_csv.specs.Signed.{signed_of}
use Rattle.trace_csv.specs.declared.form.Form.{Form}
use Rattle.trace_csv.specs.declared.form.Form.TheVariants.{Unsigned, Signed}

abbrev pub vector_line : List ℕ → List ℕ
vector_line vector = join_by decimal (codes ",") vector ++ codes "\n"

abbrev pub vectors_text : List (List ℕ) → List ℕ
vectors_text vectors = flat_map vector_line vectors

-- the same of signed vectors, with a minus before the digits of negative numbers
abbrev pub signed_line : List ℤ → List ℕ
signed_line vector = join_by signed_decimal (codes ",") vector ++ codes "\n"

abbrev pub signed_text : List (List ℤ) → List ℕ
signed_text vectors = flat_map signed_line vectors

-- the vector of a number among vectors of so many slots that stand one after the other
abbrev pub vector_at : ℕ → List ℕ → ℕ → List ℕ
vector_at slots flat number = take slots (drop (number * slots) flat)

-- the vectors that some numbers name, in their order
abbrev pub vectors_of : ℕ → List ℕ → List ℕ → List (List ℕ)
vectors_of slots flat order = map (vector_at slots flat) order

-- the signed vectors that some numbers name, in their order
abbrev pub signed_vectors_of : ℕ → List ℕ → List ℕ → List (List ℤ)
signed_vectors_of slots flat order = map signed_of (vectors_of slots flat order)

-- the text of the numbers that some slots keep, the line of these, and the text of such lines
abbrev pub texts : Form → List ℕ → List (List ℕ)
texts (Unsigned width) vector = map decimal vector
texts Signed vector = map signed_decimal (signed_of vector)

abbrev pub line_of_texts : List (List ℕ) → List ℕ
line_of_texts numbers = join_by (λ text. text) (codes ",") numbers ++ codes "\n"

abbrev pub form_line : Form → List ℕ → List ℕ
form_line form vector = line_of_texts (texts form vector)

abbrev pub form_text : Form → List (List ℕ) → List ℕ
form_text form vectors = flat_map (form_line form) vectors

-- slots of the form: those of a signed number are halves
abbrev pub AreSlots : Form → List ℕ → Type 0
AreSlots (Unsigned width) vector = ⊤
AreSlots Signed vector = All (λ n. n < 65536) vector
