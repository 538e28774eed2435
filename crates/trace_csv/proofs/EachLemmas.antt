-- What a function makes of each item in turn, up to the first refusal.
use Rattle.std.proofs.Common.{◌≡◌, ◌<◌, ◌+◌, ℕ, zero, suc, List, [], ◌∷◌, ◌++◌, length, take, drop, Some, None, Result, Ok, Err, refl, sym, ap, arith, ◌∙◌, add-one, subst}
use Rattle.std.proofs.lemmas.List.{length-take, take-append-drop}
use Rattle.std.proofs.lemmas.List.Elements.{All-cons}
use Rattle.std.specs.Prelude.{All}
use Rattle.csv.specs.Records.{field_at}
use Rattle.trace_csv.specs.Trace.{each_from, put_first}

-- the items before some others
abbrev joined : {B E : Type 0} → Result (List B) E → Result (List B) E → Result (List B) E
joined (Ok xs) (Ok ys) = Ok (xs ++ ys)
joined (Ok xs) (Err e) = Err e
joined (Err e) rest = Err e

joined-none : {B E : Type 0} (r : Result (List B) E) → r ≡ joined (Ok []) r
joined-none (Ok ys) = refl
joined-none (Err e) = refl

put-joined : {B E : Type 0} (r : Result B E) (a b : Result (List B) E) → put_first r (joined a b) ≡ joined (put_first r a) b
put-joined (Ok x) (Ok a) (Ok b) = refl
put-joined (Ok x) (Ok a) (Err e) = refl
put-joined (Ok x) (Err e) b = refl
put-joined (Err e) a b = refl

each-append : {A B E : Type 0} (f : ℕ → A → Result B E) (n : ℕ) (xs ys : List A)
    → each_from f n (xs ++ ys) ≡ joined (each_from f n xs) (each_from f (n + length xs) ys)
unfolding each_from
each-append f n [] ys = joined-none (each_from f n ys) ∙ ap (λ k. joined (Ok []) (each_from f k ys)) (let e : n ≡ n + 0 = omega arith in e)
each-append f n (x ∷ xs) ys =
    ap (put_first (f n x)) (each-append f (n + 1) xs ys)
    ∙ put-joined (f n x) (each_from f (n + 1) xs) (each_from f ((n + 1) + length xs) ys)
    ∙ ap (λ k. joined (put_first (f n x) (each_from f (n + 1) xs)) (each_from f k ys)) (let e : (n + 1) + length xs ≡ n + suc (length xs) = omega arith in e)

-- one more item
pub each-more : {A B E : Type 0} (f : ℕ → A → Result B E) (n : ℕ) (xs : List A) (x : A) (ys : List B) (y : B)
    → each_from f n xs ≡ Ok ys → f (n + length xs) x ≡ Ok y → each_from f n (xs ++ x ∷ []) ≡ Ok (ys ++ y ∷ [])
unfolding each_from
each-more f n xs x ys y e h = each-append f n xs (x ∷ []) ∙ rw (e, h) refl

-- an item that is refused
pub each-stop : {A B E : Type 0} (f : ℕ → A → Result B E) (n : ℕ) (xs : List A) (x : A) (rest : List A) (ys : List B) (why : E)
    → each_from f n xs ≡ Ok ys → f (n + length xs) x ≡ Err why → each_from f n (xs ++ x ∷ rest) ≡ Err why
unfolding each_from
each-stop f n xs x rest ys why e h = each-append f n xs (x ∷ rest) ∙ rw (e, h) refl

put-length : {B E : Type 0} (r : Result B E) (more : Result (List B) E) (ys : List B) (n : ℕ) → ((zs : List B) → more ≡ Ok zs → length zs ≡ n) → put_first r more ≡ Ok ys → length ys ≡ suc n
put-length (Ok y) (Ok zs) ys n h e = let same : y ∷ zs ≡ ys = cc e in rw (← same) (ap suc (h zs refl))
put-length (Ok y) (Err w) ys n h e = cc e
put-length (Err w) more ys n h e = cc e

-- as many answers as items
pub each-length : {A B E : Type 0} (f : ℕ → A → Result B E) (n : ℕ) (xs : List A) (ys : List B) → each_from f n xs ≡ Ok ys → length ys ≡ length xs
unfolding each_from
each-length f n [] ys e = let same : [] ≡ ys = cc e in rw (← same) refl
each-length f n (x ∷ xs) ys e = put-length (f n x) (each_from f (n + 1) xs) ys (length xs) (λ zs h. each-length f (n + 1) xs zs h) e

-- the field at a place, and those before and after it
pub drop-field : (fields : List (List ℕ)) (i : ℕ) (text : List ℕ) → field_at fields i ≡ Some text → drop i fields ≡ text ∷ drop (i + 1) fields
unfolding field_at
drop-field [] i text e = cc e
drop-field (f ∷ fs) zero text e = let same : f ≡ text = cc e in ap (λ t. t ∷ fs) same
drop-field (f ∷ fs) (suc i) text e = rw add-one (let later = drop-field fs i text e in rw add-one at later)

pub take-field : (fields : List (List ℕ)) (i : ℕ) (text : List ℕ) → field_at fields i ≡ Some text → take (i + 1) fields ≡ take i fields ++ text ∷ []
unfolding field_at
take-field [] i text e = cc e
take-field (f ∷ fs) zero text e = let same : f ≡ text = cc e in ap (λ t. t ∷ []) same
take-field (f ∷ fs) (suc i) text e = rw add-one (ap (λ t. f ∷ t) (let later = take-field fs i text e in rw add-one at later))

pub field-there : (fields : List (List ℕ)) (i : ℕ) → i < length fields → field_at fields i ≡ None → ⊥
unfolding field_at
field-there [] i h e = omega arith
field-there (f ∷ fs) zero h e = cc e
field-there (f ∷ fs) (suc i) h e = field-there fs i (omega arith) e

-- the answers up to a field, and then the field's
pub field-more : {B E : Type 0} (f : ℕ → List ℕ → Result B E) (fields : List (List ℕ)) (i : ℕ) (text : List ℕ) (ys : List B) (y : B)
    → i < length fields → field_at fields i ≡ Some text → each_from f 1 (take i fields) ≡ Ok ys → f (i + 1) text ≡ Ok y
    → each_from f 1 (take (i + 1) fields) ≡ Ok (ys ++ y ∷ [])
field-more f fields i text ys y h there e this =
    let place : 1 + length (take i fields) ≡ i + 1 = simp length-take (omega arith) in
    ap (each_from f 1) (take-field fields i text there)
    ∙ each-more f 1 (take i fields) text ys y e (ap (λ k. f k text) place ∙ this)

pub field-stop : {B E : Type 0} (f : ℕ → List ℕ → Result B E) (fields : List (List ℕ)) (i : ℕ) (text : List ℕ) (ys : List B) (why : E)
    → i < length fields → field_at fields i ≡ Some text → each_from f 1 (take i fields) ≡ Ok ys → f (i + 1) text ≡ Err why
    → each_from f 1 fields ≡ Err why
field-stop f fields i text ys why h there e this =
    let place : 1 + length (take i fields) ≡ i + 1 = simp length-take (omega arith) in
    let cut : fields ≡ take i fields ++ text ∷ drop (i + 1) fields = sym (take-append-drop i fields) ∙ ap (λ t. take i fields ++ t) (drop-field fields i text there) in
    ap (each_from f 1) cut
    ∙ each-stop f 1 (take i fields) text (drop (i + 1) fields) ys why e (ap (λ k. f k text) place ∙ this)

-- what holds of each answer of the function holds of all answers
put-all : {B E : Type 0} (P : B → Type 0) (r : Result B E) (more : Result (List B) E) (ys : List B)
    → ((y : B) → r ≡ Ok y → P y) → ((zs : List B) → more ≡ Ok zs → All P zs) → put_first r more ≡ Ok ys → All P ys
put-all P (Ok y) (Ok zs) ys h t e = let same : y ∷ zs ≡ ys = cc e in subst (All P) same (All-cons P y zs (h y refl) (t zs refl))
put-all P (Ok y) (Err w) ys h t e = cc e
put-all P (Err w) more ys h t e = cc e

pub each-all : {A B E : Type 0} (P : B → Type 0) (f : ℕ → A → Result B E) (n : ℕ) (xs : List A) (ys : List B)
    → ((k : ℕ) (x : A) (y : B) → f k x ≡ Ok y → P y) → each_from f n xs ≡ Ok ys → All P ys
unfolding each_from
each-all P f n [] ys h e = let same : [] ≡ ys = cc e in subst (All P) same (λ k d few. absurd (omega arith))
each-all P f n (x ∷ xs) ys h e =
    put-all P (f n x) (each_from f (n + 1) xs) ys (λ y. h n x y) (λ zs. each-all P f (n + 1) xs zs h) e
