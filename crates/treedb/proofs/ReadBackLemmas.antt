-- Vectors that stand one after the other, with one more.
use Rattle.std.proofs.Common.{◌≡◌, ◌≤◌, ◌<◌, ◌+◌, ◌*◌, ℕ, zero, suc, List, [], ◌∷◌, ◌++◌, length, take, drop, refl, sym, ap, subst, arith, ◌∙◌, length-append, append-nil, Option, Some, None}
use Rattle.std.proofs.Math.Nat.{add-mul, mul-le-mul_right, suc-mul}
use Rattle.std.proofs.lemmas.List.{drop-append-le, drop_at, length-take-le, length-drop, map-append, take-append-drop, take-append-le, take_at, take_more}
use Rattle.std.specs.Prelude.{All, IfSome, get_or, map}
use Rattle.std.specs.List.{cons_option, range_with_len}
use Rattle.std.proofs.lemmas.List.FromFn.{get_or-range_with_len, length-range_with_len}
use Rattle.std.proofs.lemmas.List.Elements.{filter_map-append}
use Rattle.tdb_base.specs.History.{Vector, History, name_of}
use Rattle.tdb_base.specs.Legal.{Extends, IsLegal}
use Rattle.tdb_base.specs.declared.reply.Reply.{Reply}
use Rattle.tdb_base.proofs.NameLemmas.{keeps-names, names-differ}
use Rattle.treedb.specs.ReadBack.{Adds, HasRoomFor, KeepsRoom, new_id, new_ids}
use Rattle.treedb.specs.declared.distinct.ReadBack.{ReadBack}
use Rattle.trace_csv.specs.Vectors.{vector_at, vectors_of}

-- the numbers from some number on, with one more
pub range-push : (from n : ℕ) → range_with_len from (suc n) ≡ range_with_len from n ++ (from + n) ∷ []
range-push from zero = let same : from ≡ from + 0 = omega arith in ap (λ (x : ℕ). x ∷ []) same
range-push from (suc n) =
    let same : (from + 1) + n ≡ from + suc n = omega arith in
    ap (λ (t : List ℕ). from ∷ t) (range-push (from + 1) n ∙ ap (λ (x : ℕ). range_with_len (from + 1) n ++ x ∷ []) same)

-- functions that are the same on the numbers before some number
pub range-same : (f g : ℕ → List ℕ) (from n : ℕ) → ((k : ℕ) → k < from + n → f k ≡ g k) → map f (range_with_len from n) ≡ map g (range_with_len from n)
range-same f g from zero h = refl
range-same f g from (suc n) h = (λ i. h from (omega arith) i ∷ range-same f g (from + 1) n (λ k lt. h k (omega (arith, lt))) i)

-- a vector that stands before a place is the same whatever is written from there on
front-same : (slots k at : ℕ) (front rest : List ℕ) → k * slots + slots ≤ length front → vector_at slots (front ++ rest) k ≡ take slots (drop (k * slots) front)
front-same slots k at front rest h =
    ap (take slots) (drop-append-le (k * slots) front rest (omega arith))
    ∙ take-append-le slots (drop (k * slots) front) rest (let long = length-drop (k * slots) front in omega (arith, long))

pub vector-kept : (slots k at : ℕ) (flat rest : List ℕ) → at ≤ length flat → k * slots + slots ≤ at → vector_at slots (take at flat ++ rest) k ≡ vector_at slots flat k
vector-kept slots k at flat rest inside before =
    let long : k * slots + slots ≤ length (take at flat) = (let n = length-take-le at flat inside in omega (arith, n)) in
    front-same slots k at (take at flat) rest long
    ∙ sym (front-same slots k at (take at flat) (drop at flat) long)
    ∙ ap (λ (t : List ℕ). vector_at slots t k) (take-append-drop at flat)

-- and the one that is written there is read there
pub vector-there : (slots k at : ℕ) (flat v rest : List ℕ) → at ≡ k * slots → at ≤ length flat → length v ≡ slots → vector_at slots (take at flat ++ (v ++ rest)) k ≡ v
vector-there slots k at flat v rest is inside long =
    ap (take slots) (drop_at (take at flat) (v ++ rest) (k * slots) (let n = length-take-le at flat inside in omega (arith, n, is)))
    ∙ take_at v rest slots long

-- what is written into a list leaves its length
pub written-length : (at slots : ℕ) (flat v : List ℕ) → at + slots ≤ length flat → length v ≡ slots → length (take at flat ++ (v ++ drop (at + slots) flat)) ≡ length flat
written-length at slots flat v inside long =
    let whole = length-append (take at flat) (v ++ drop (at + slots) flat) in
    let back = length-append v (drop (at + slots) flat) in
    let front = length-take-le at flat (omega (arith, inside)) in
    let rest = length-drop (at + slots) flat in
    omega (arith, whole, back, front, rest, inside, long)

-- the next number at the end
pub counted-push : (xs : List ℕ) (n : ℕ) → xs ≡ range_with_len 0 (length xs) → n ≡ length xs → (xs ++ n ∷ []) ≡ range_with_len 0 (length (xs ++ n ∷ []))
counted-push xs n counted is =
    let same : 0 + length xs ≡ n = omega (arith, is) in
    let long = length-append xs (n ∷ []) in
    let longer : suc (length xs) ≡ length (xs ++ n ∷ []) = omega (arith, long) in
    (λ i. counted i ++ sym same i ∷ []) ∙ sym (range-push 0 (length xs)) ∙ ap (λ (x : ℕ). range_with_len 0 x) longer

-- the vectors with one more
pub vectors-push : (slots n at : ℕ) (flat order v rest : List ℕ) → order ≡ range_with_len 0 (length order) → n ≡ length order → at ≡ n * slots → at ≤ length flat → length v ≡ slots
    → vectors_of slots (take at flat ++ (v ++ rest)) (order ++ n ∷ []) ≡ vectors_of slots flat order ++ v ∷ []
vectors-push slots n at flat order v rest counted is place inside long =
    let new = vector_at slots (take at flat ++ (v ++ rest)) in
    let old = vector_at slots flat in
    let kept : map new order ≡ map old order = subst (λ (xs : List ℕ). map new xs ≡ map old xs) (sym counted)
    (range-same new old 0 (length order) (λ k lt. vector-kept slots k at flat (v ++ rest) inside
    (let most = mul-le-mul_right {m = suc k} {n = n} slots (omega (arith, lt, is)) in let one = suc-mul k slots in omega (arith, most, place, one)))) in
    map-append new order (n ∷ []) ∙ (λ i. kept i ++ vector-there slots n at flat v rest place inside long i ∷ [])

-- room for one more, by the number that it gets
pub room-there : (n m slots long : ℕ) → n ≡ m → (m + 1) * slots ≤ long → n * slots + slots ≤ long
room-there n m slots long is room =
    let both = add-mul m 1 slots in
    let same = ap (λ (x : ℕ). x * slots) is in
    omega (arith, both, same, room)

-- there is room for fewer, and after one more was added
pub room-less : (more fewer : ℕ) (back : ReadBack) → HasRoomFor more back → fewer ≤ more → HasRoomFor fewer back
room-less more fewer back room le = record {
  flat = (let most = mul-le-mul_right {m = length back.order.items + fewer} {n = length back.order.items + more} back.slots (omega (arith, le)) in omega (arith, most, room.flat));
  order = omega (arith, room.order, le);
  few = omega (arith, room.few, le);
}

pub room-next : (more : ℕ) (old new : ReadBack) → HasRoomFor (more + 1) old → KeepsRoom old new → length new.order.items ≤ length old.order.items + 1 → HasRoomFor more new
room-next more old new room keeps le = record {
  flat = (let most = mul-le-mul_right {m = length new.order.items + more} {n = length old.order.items + (more + 1)} old.slots (omega (arith, le)) in
      let same = ap (λ (x : ℕ). (length new.order.items + more) * x) keeps.slots in
      omega (arith, most, same, room.flat, keeps.flat));
  order = omega (arith, room.order, keeps.order, le);
  few = omega (arith, room.few, le);
}

-- an identifier that names a vector still does so later
pub named-later : (count : ℕ) (h k : History) (o : Option ℕ) → IsLegal count k → Extends h k
    → IfSome o (λ id. (v : Vector) × (name_of h v ≡ Some id)) → IfSome o (λ id. (v : Vector) × (name_of k v ≡ Some id))
named-later count h k None legal later named = named
named-later count h k (Some id) legal later named = (named.0, keeps-names count h k legal later named.0 id named.1)

-- one vector more has one identifier more as its name, also before
pub adds-names : (count : ℕ) (h k : History) (o : Option ℕ) (old new : List Vector) (ids : List ℕ) → IsLegal count k → Extends h k
    → IfSome o (λ id. (v : Vector) × (name_of h v ≡ Some id)) → Adds k o old new → map (name_of h) old ≡ map Some ids → map (name_of h) new ≡ map Some (ids ++ cons_option o [])
adds-names count h k None old new ids legal later named added names =
    ap (λ (x : List Vector). map (name_of h) x) added ∙ names ∙ ap (λ (x : List ℕ). map Some x) (sym (append-nil ids))
adds-names count h k (Some id) old new ids legal later named added names =
    let kept = keeps-names count h k legal later named.0 id named.1 in
    let same : named.0 ≡ added.0 = names-differ count k legal named.0 added.0 id kept added.1 in
    let here : name_of h added.0 ≡ Some id = subst (λ (x : Vector). name_of h x ≡ Some id) same named.1 in
    ap (λ (x : List Vector). map (name_of h) x) added.2 ∙ map-append (name_of h) old (added.0 ∷ []) ∙ (λ i. names i ++ here i ∷ []) ∙ sym (map-append Some ids (id ∷ []))

-- the new identifiers of the replies before a place, and of one more
pub new_ids-more : (replies : List Reply) (i : ℕ) (d : Reply) → i < length replies → new_ids (take (i + 1) replies) ≡ new_ids (take i replies) ++ cons_option (new_id (get_or replies i d)) []
new_ids-more replies i d h = ap new_ids (take_more replies i d h) ∙ filter_map-append new_id (take i replies) (get_or replies i d ∷ [])

-- each of the numbers before some number has its place
pub range-there : (slots long n : ℕ) → n * slots ≤ long → All (λ number. (number + 1) * slots ≤ long) (range_with_len 0 n)
range-there slots long n h = λ k d lt.
    let within : k < n = omega (arith, lt, length-range_with_len 0 n) in
    let is : get_or (range_with_len 0 n) k d ≡ k = get_or-range_with_len 0 n k d within ∙ omega arith in
    let most = mul-le-mul_right {m = k + 1} {n = n} slots (omega (arith, within)) in
    subst (λ (x : ℕ). (x + 1) * slots ≤ long) (sym is) (omega (arith, most, h))
