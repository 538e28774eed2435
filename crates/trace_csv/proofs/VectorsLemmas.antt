-- The text of vectors, one number and one line after the other.
use Rattle.std.proofs.Common.{◌≡◌, ◌≤◌, ◌<◌, ◌+◌, ◌*◌, ◌/◌, ℕ, ℤ, pos, zero, suc, List, [], ◌∷◌, ◌++◌, length, map, take, drop, get_or, refl, sym, ap, arith, ◌∙◌, append_assoc, add-one}
use Rattle.std.proofs.lemmas.List.{append-nil, flat_map_more, get_or-map, length-map, map-append, take-append-drop, take_more}
use Rattle.std.proofs.lemmas.List.Concat.{flat_map-append}
use Rattle.std.proofs.lemmas.List.Elements.{All-drop, All-take}
use Rattle.std.specs.Fmt.{decimal, signed_decimal}
use Rattle.std.specs.Int.{cast_signed, w32}
use Rattle.std.specs.List.{flat_map, join_by}
use Rattle.std.specs.Prelude.{codes, All}
use Rattle.trace_csv.specs.Signed.{signed_of}
use Rattle.trace_csv.specs.Trace.{Form, Signed, Unsigned}
use Rattle.trace_csv.specs.Vectors.{AreSlots, form_line, form_text, line_of_texts, signed_line, signed_text, texts, vector_at, vector_line, vectors_of, vectors_text}
use Rattle.trace_csv.specs.Words.{fields_in}

-- the texts before a place, joined by commas
abbrev pub joined : List (List ℕ) → List ℕ
joined xs = join_by (λ (t : List ℕ). t) (codes ",") xs

-- a text with the comma before it
abbrev pub next_text : List ℕ → List ℕ
next_text t = codes "," ++ t

-- one text more
pub texts-more : (xs : List (List ℕ)) (i : ℕ) → 1 ≤ i → i < length xs
    → joined (take (i + 1) xs) ≡ (joined (take i xs) ++ codes ",") ++ get_or xs i []
texts-more [] i low h = absurd (omega arith)
texts-more (x ∷ xs) zero low h = absurd (omega arith)
texts-more (x ∷ xs) (suc i) low h =
    let inside : i < length xs = omega arith in
    let longer : take (suc i) xs ≡ take i xs ++ get_or xs i [] ∷ [] = rw add-one at (take_more xs i [] inside) in
    rw add-one
    (ap (λ t. x ++ flat_map next_text t) longer ∙ sym (flat_map_more next_text x (take i xs) (get_or xs i []))
    ∙ sym (append_assoc (x ++ flat_map next_text (take i xs)) (codes ",") (get_or xs i [])))

-- the texts before a place, and the rest of the line
pub texts-split : (xs : List (List ℕ)) (i : ℕ) → 1 ≤ i → i ≤ length xs
    → line_of_texts xs ≡ joined (take i xs) ++ (flat_map next_text (drop i xs) ++ codes "\n")
texts-split [] i low h = absurd (omega arith)
texts-split (x ∷ xs) zero low h = absurd (omega arith)
texts-split (x ∷ xs) (suc i) low h =
    ap (λ t. (x ++ flat_map next_text t) ++ codes "\n") (sym (take-append-drop i xs))
    ∙ ap (λ t. (x ++ t) ++ codes "\n") (flat_map-append next_text (take i xs) (drop i xs))
    ∙ ap (λ t. t ++ codes "\n") (sym (append_assoc x (flat_map next_text (take i xs)) (flat_map next_text (drop i xs))))
    ∙ append_assoc (x ++ flat_map next_text (take i xs)) (flat_map next_text (drop i xs)) (codes "\n")

-- how many numbers some slots keep, and the text of each
signed-count : (v : List ℕ) → length (signed_of v) ≡ length v / 2
unfolding signed_of
signed-count [] = refl
signed-count (a ∷ []) = refl
signed-count (a ∷ b ∷ v) = let rest = signed-count v in omega (arith, rest)

pub texts-count : (form : Form) (v : List ℕ) → length (texts form v) ≡ fields_in form (length v)
texts-count (Unsigned width) v = length-map v decimal
texts-count Signed v = length-map (signed_of v) signed_decimal ∙ signed-count v

pub unsigned-at : (width : ℕ) (v : List ℕ) (i : ℕ) → i < length v → get_or (texts (Unsigned width) v) i [] ≡ decimal (get_or v i 0)
unsigned-at width v i h = get_or-map decimal v i 0 [] h

signed-number : (v : List ℕ) (i : ℕ) → i < length v / 2 → get_or (signed_of v) i (pos 0) ≡ cast_signed w32 (get_or v (2 * i) 0 * 65536 + get_or v (2 * i + 1) 0)
unfolding signed_of
signed-number [] i h = absurd (omega arith)
signed-number (a ∷ []) i h = absurd (omega arith)
signed-number (a ∷ b ∷ v) zero h = refl
signed-number (a ∷ b ∷ v) (suc i) h =
    let one : 2 * suc i ≡ suc (suc (2 * i)) = omega arith in
    let two : 2 * suc i + 1 ≡ suc (suc (2 * i + 1)) = omega arith in
    rw (two, one) (signed-number v i (omega arith))

pub signed-at : (v : List ℕ) (i : ℕ) → i < length v / 2 → get_or (texts Signed v) i [] ≡ signed_decimal (cast_signed w32 (get_or v (2 * i) 0 * 65536 + get_or v (2 * i + 1) 0))
signed-at v i h =
    let count = signed-count v in
    get_or-map signed_decimal (signed_of v) i (pos 0) [] (omega (arith, count, h)) ∙ ap signed_decimal (signed-number v i h)

-- a part of some slots
pub part-slots : (form : Form) (flat : List ℕ) (at slots : ℕ) → AreSlots form flat → AreSlots form (take slots (drop at flat))
part-slots (Unsigned width) flat at slots h = h
part-slots Signed flat at slots h = All-take (λ n. n < 65536) slots (drop at flat) (All-drop (λ n. n < 65536) at flat h)

-- the lines before a place, and the others
text-append : (form : Form) (slots : ℕ) (flat xs ys : List ℕ)
    → form_text form (vectors_of slots flat (xs ++ ys)) ≡ form_text form (vectors_of slots flat xs) ++ form_text form (vectors_of slots flat ys)
text-append form slots flat xs ys =
    ap (flat_map (form_line form)) (map-append (vector_at slots flat) xs ys) ∙ flat_map-append (form_line form) (vectors_of slots flat xs) (vectors_of slots flat ys)

pub vectors-split : (form : Form) (slots : ℕ) (flat order : List ℕ) (i : ℕ)
    → form_text form (vectors_of slots flat order) ≡ form_text form (vectors_of slots flat (take i order)) ++ form_text form (vectors_of slots flat (drop i order))
vectors-split form slots flat order i =
    ap (λ t. form_text form (vectors_of slots flat t)) (sym (take-append-drop i order)) ∙ text-append form slots flat (take i order) (drop i order)

-- one line more
pub vectors-more : (form : Form) (slots : ℕ) (flat order : List ℕ) (i : ℕ) → i < length order
    → form_text form (vectors_of slots flat (take (i + 1) order)) ≡ form_text form (vectors_of slots flat (take i order)) ++ form_line form (vector_at slots flat (get_or order i 0))
vectors-more form slots flat order i h =
    ap (λ t. form_text form (vectors_of slots flat t)) (take_more order i 0 h) ∙ text-append form slots flat (take i order) (get_or order i 0 ∷ [])
    ∙ ap (λ t. form_text form (vectors_of slots flat (take i order)) ++ t) (append-nil (form_line form (vector_at slots flat (get_or order i 0))))

-- the text by the numbers
rest-by : {A : Type 0} (f : A → List ℕ) (xs : List A) → flat_map next_text (map f xs) ≡ flat_map (λ x. codes "," ++ f x) xs
rest-by f [] = refl
rest-by f (x ∷ xs) = ap (λ t. next_text (f x) ++ t) (rest-by f xs)

line-by : {A : Type 0} (f : A → List ℕ) (xs : List A) → line_of_texts (map f xs) ≡ join_by f (codes ",") xs ++ codes "\n"
line-by f [] = refl
line-by f (x ∷ xs) = ap (λ t. (f x ++ t) ++ codes "\n") (rest-by f xs)

pub unsigned-text : (width : ℕ) (vectors : List (List ℕ)) → form_text (Unsigned width) vectors ≡ vectors_text vectors
unsigned-text width [] = refl
unsigned-text width (v ∷ vectors) =
    ap (λ t. t ++ form_text (Unsigned width) vectors) (line-by decimal v) ∙ ap (λ t. vector_line v ++ t) (unsigned-text width vectors)

pub signed-text : (vectors : List (List ℕ)) → form_text Signed vectors ≡ signed_text (map signed_of vectors)
signed-text [] = refl
signed-text (v ∷ vectors) =
    ap (λ t. t ++ form_text Signed vectors) (line-by signed_decimal (signed_of v)) ∙ ap (λ t. signed_line (signed_of v) ++ t) (signed-text vectors)
