-- Different vectors in their order rise, also as the signed vectors whose halves they are.
use Rattle.std.proofs.Common.{◌≡◌, ◌≢◌, ◌<◌, ◌≤◌, ◌%◌, ◌+◌, ◌-◌, ◌*◌, ℕ, take, drop, of_z, to_z, w32, ℤ, List, [], ◌∷◌, length, get_or, map, true, false, Ordering, Less, Equal, Greater, refl, sym, ap, ◌∙◌, subst, arith}
use Rattle.std.specs.Cmp.{IsStrictWeakOrder, IsTotalOrder}
use Rattle.std.proofs.lemmas.List.MinMax.{ranks_by}
use Rattle.std.specs.Cmp.Lexicographic.{bytes_decides, nat_list_eq_equiv, pointwise}
use Rattle.std.specs.List.{AllPairs, Contains, list_all}
use Rattle.std.specs.List.Sorted.{IsPermutation, IsSorted, IsSortedByKey, IsStrictlySortedBy}
use Rattle.std.specs.Ordering.{is_lt, int_cmp, ordering_reverse, ordering_then}
use Rattle.std.specs.Prelude.{◌↔◌, All, nat_eq}
use Rattle.std.proofs.Math.Seq.{take-length}
use Rattle.std.proofs.lemmas.Int.{of_z-to_z}
use Rattle.std.proofs.lemmas.Cmp.{int_cmp_total, lists_total, nat_list_cmp_total}
use Rattle.std.proofs.lemmas.List.{get_or-map, length-map}
use Rattle.std.proofs.lemmas.List.Elements.{All-contains, All-head, All-tail, All-weaker}
use Rattle.std.proofs.lemmas.Map.Keys.{IsDistinct-IsPermutation, sorted_from_all_adjacent}
use Rattle.std.proofs.lemmas.Map.Lookups.{CmpEqualImpliesEq, exact_bytes, exact_signed}
use Rattle.std.proofs.lemmas.Map.Made.{AllPairs-from_IsDistinct, IsDistinct-from_AllPairs}
use Rattle.tdb_base.specs.History.{Vector}
use Rattle.tdb_base.proofs.DistinctLemmas.{at-map, map-at}
use Rattle.tdb_base.proofs.ListLemmas.{at-contained}
use Rattle.tdb_base.proofs.TallyLemmas.{contained-at}
use Rattle.trace_csv.specs.Signed.{AreHalves, halves, is_signed, signed_of}
use Rattle.trace_csv.specs.Sorted.{IsSortedText, list_order}
use Rattle.trace_csv.specs.declared.form.Form.{Form}
use Rattle.trace_csv.specs.declared.form.Form.TheVariants.{Unsigned, Signed}
use Rattle.trace_csv.specs.Vectors.{AreSlots, signed_text, vectors_text}
use Rattle.trace_csv.proofs.SignedLemmas.{are-below, signed_of-halves}
use Rattle.tdb_base.specs.History.{History}
use Rattle.tdb_base.specs.Lines.{named}
use Rattle.treedb.specs.Listing.{IsListing, IsSignedText, form_order, signed_in, signed_order}
use Rattle.treedb.specs.ReadBack.{AreVectorsOf, IsReadBack, listed, vectors}
use Rattle.treedb.specs.declared.distinct.ReadBack.{ReadBack}

-- an order of the elements of a list, by which only equal ones are equal
module _ {K : Type 0} {R : K → K → Ordering} (total : IsTotalOrder R) (exact : CmpEqualImpliesEq R) where
  -- what is not after and not the same is before
  less-left : (x y : K) → is_lt (R y x) ≡ false → x ≢ y → R x y ≡ Less
  less-left x y up apart = by (R x y) refl
    where
      by : (r : Ordering) → R x y ≡ r → R x y ≡ Less
      by Less e = e
      by Equal e = absurd (apart (exact x y e))
      by Greater e =
          let turned : R y x ≡ Less = total.antisymm y x ∙ ap ordering_reverse e in
          let t = rw turned at up in
          cc t

  -- sorted and different elements rise
  pub rising : (ks : List K) → IsSorted R ks → AllPairs (λ u v. u ≢ v) ks → IsStrictlySortedBy R ks
  unfolding IsStrictlySortedBy
  rising [] sorted differ = tt
  rising (x ∷ ks) sorted differ = sorted_from_all_adjacent total (x ∷ ks) x
      (λ k h. less-left (get_or (x ∷ ks) k x) (get_or (x ∷ ks) (k + 1) x) (sorted k x (omega arith) (omega (arith, h))) (differ k (k + 1) x (omega arith) (omega (arith, h))))

-- what is sorted by a key has sorted keys
pub sorted-keys : {X K : Type 0} (R : K → K → Ordering) (key : X → K) (xs : List X) → IsSortedByKey key R xs → IsSorted R (map key xs)
sorted-keys R key [] sorted = λ k d least most. absurd (omega (arith, most))
sorted-keys R key (x ∷ xs) sorted = λ k d least most.
    let long : length (map key (x ∷ xs)) ≡ length (x ∷ xs) = length-map (x ∷ xs) key in
    let here = get_or-map key (x ∷ xs) k x d (omega (arith, most, long)) in
    let next = get_or-map key (x ∷ xs) (k + 1) x d (omega (arith, most, long)) in
    rw (here, next) (sorted k x least (omega (arith, most, long)))

-- the order of a form is one
pub ranks : (form : Form) (key : ℕ → Vector) → IsStrictWeakOrder (λ x y. is_lt (form_order form (key x) (key y)))
ranks (Unsigned width) key = ranks_by nat_list_cmp_total key
ranks Signed key = ranks_by (lists_total int_cmp_total) (λ (x : ℕ). signed_in (key x))

-- a list keeps its different elements in any order
pub differ-moved : (xs ys : List Vector) → IsPermutation xs ys → AllPairs (λ u v. u ≢ v) xs → AllPairs (λ u v. u ≢ v) ys
differ-moved xs ys moved differ = AllPairs-from_IsDistinct bytes_decides ys
    (IsDistinct-IsPermutation (pointwise nat_eq) nat_list_eq_equiv.symm xs ys moved (IsDistinct-from_AllPairs bytes_decides xs differ))

-- different vectors in rising order
module _ (found others : List Vector) (differ : AllPairs (λ u v. u ≢ v) found) (same : (v : Vector) → Contains found v ↔ Contains others v) where
  unsigned-listing : IsSorted list_order found → IsSortedText others (vectors_text found)
  unsigned-listing sorted = record {
    sorted = found;
    set = record { rising = rising nat_list_cmp_total exact_bytes found sorted differ; same = same };
    written = refl;
  }

-- the signed numbers of halves
mod-same : (v : List ℕ) → All (λ n. n < 65536) v → map (λ n. n % 65536) v ≡ v
mod-same [] small = refl
mod-same (n ∷ v) small =
    let head : n < 65536 = All-head (λ n. n < 65536) n v small in
    let here : n % 65536 ≡ n = omega (arith, head) in
    let rest = mod-same v (All-tail (λ n. n < 65536) n v small) in
    (λ i. here i ∷ rest i)

signed-in : (v : Vector) → AreHalves v → signed_of (map (λ n. n % 65536) v) ≡ signed_of v
signed-in v are = ap signed_of (mod-same v (are-below v are))

signed-told : (v : Vector) (are : AreHalves v) → signed_in v ≡ are.vector
signed-told v are = signed-in v are ∙ ap signed_of are.is ∙ signed_of-halves are.vector are.signed

halves-told : (v : Vector) → AreHalves v → halves (signed_in v) ≡ v
halves-told v are = ap halves (signed-told v are) ∙ sym are.is

told-signed : (v : Vector) → AreHalves v → list_all is_signed (signed_in v) ≡ true
told-signed v are = ap (list_all is_signed) (signed-told v are) ∙ are.signed

pub halves-slots : (xs : List Vector) → All AreHalves xs → All (AreSlots Signed) xs
halves-slots xs are = All-weaker AreHalves (AreSlots Signed) are-below xs are

told-all : (xs : List Vector) → All AreHalves xs → map signed_in xs ≡ map signed_of xs
told-all [] are = refl
told-all (v ∷ xs) are =
    let here = signed-in v (All-head AreHalves v xs are) in
    let rest = told-all xs (All-tail AreHalves v xs are) in
    (λ i. here i ∷ rest i)

-- the signed numbers of some slots, one by one
pub none-signed : (slots : List ℕ) → length slots < 2 → signed_in slots ≡ []
unfolding signed_of
none-signed [] few = refl
none-signed (a ∷ []) few = refl
none-signed (a ∷ b ∷ slots) few = absurd (omega (arith, few))

pub next-signed : (slots : List ℕ) (z : ℤ) → 2 ≤ length slots → z ≡ to_z w32 (get_or slots 0 0 % 65536 * 65536 + get_or slots 1 0 % 65536)
    → signed_in slots ≡ to_z w32 (of_z w32 z) ∷ signed_in (take (length slots - 2) (drop 2 slots))
unfolding signed_of
next-signed [] z some is = absurd (omega (arith, some))
next-signed (a ∷ []) z some is = absurd (omega (arith, some))
next-signed (a ∷ b ∷ slots) z some is =
    let word = a % 65536 * 65536 + b % 65536 in
    let back : to_z w32 (of_z w32 z) ≡ to_z w32 word = ap (λ (x : ℤ). to_z w32 (of_z w32 x)) is ∙ ap (to_z w32) (of_z-to_z w32 word (omega arith)) in
    let long : length (a ∷ b ∷ slots) - 2 ≡ length slots = omega arith in
    let rest : take (length (a ∷ b ∷ slots) - 2) slots ≡ slots = ap (λ (n : ℕ). take n slots) long ∙ take-length slots in
    (λ i. sym back i ∷ signed_in (sym rest i))

-- lists of signed numbers that are equal by their order are the same
same-next : (x y : ℤ) (xs ys : List ℤ) (r : Ordering) → int_cmp x y ≡ r → (signed_order xs ys ≡ Equal → xs ≡ ys) → ordering_then r (signed_order xs ys) ≡ Equal → x ∷ xs ≡ y ∷ ys
same-next x y xs ys Less t rest e = cc e
same-next x y xs ys Equal t rest e =
    let first : x ≡ y = exact_signed x y t in
    let others = rest e in
    (λ i. first i ∷ others i)
same-next x y xs ys Greater t rest e = cc e

exact-lists : CmpEqualImpliesEq signed_order
exact-lists [] [] e = refl
exact-lists [] (y ∷ ys) e = cc e
exact-lists (x ∷ xs) [] e = cc e
exact-lists (x ∷ xs) (y ∷ ys) e = same-next x y xs ys (int_cmp x y) refl (exact-lists xs ys) e

-- different halves in rising order of their signed vectors
module _ (found others : List Vector) (differ : AllPairs (λ u v. u ≢ v) found) (same : (v : Vector) → Contains found v ↔ Contains others v) (are : All AreHalves found) where
  differ-signed : AllPairs (λ u v. u ≢ v) (map signed_in found)
  differ-signed i j d less long =
      let size : length (map signed_in found) ≡ length found = length-map found signed_in in
      let here = get_or-map signed_in found i [] d (omega (arith, less, long, size)) in
      let there = get_or-map signed_in found j [] d (omega (arith, long, size)) in
      let first : AreHalves (get_or found i []) = are i [] (omega (arith, less, long, size)) in
      let second : AreHalves (get_or found j []) = are j [] (omega (arith, long, size)) in
      λ e. differ i j [] less (omega (arith, long, size))
      (sym (halves-told (get_or found i []) first) ∙ ap halves (sym here ∙ e ∙ there) ∙ halves-told (get_or found j []) second)

  same-signed : (v : List ℤ) → Contains (map signed_in found) v ↔ ((list_all is_signed v ≡ true) × Contains others (halves v))
  same-signed v = (there, back)
    where
      there : Contains (map signed_in found) v → (list_all is_signed v ≡ true) × Contains others (halves v)
      there has =
          let at = at-contained (map signed_in found) v has in
          let of = map-at signed_in found v at.0 at.1 in
          let inside : Contains found of.0 = contained-at found of.0 (at.0, of.1) in
          let half : AreHalves of.0 = All-contains AreHalves found of.0 are inside in (
            ap (list_all is_signed) (sym of.2) ∙ told-signed of.0 half,
            subst (λ (x : Vector). Contains others x) (sym (halves-told of.0 half) ∙ ap halves of.2) ((same of.0).0 inside),
          )

      back : (list_all is_signed v ≡ true) × Contains others (halves v) → Contains (map signed_in found) v
      back has =
          let half : AreHalves (halves v) = record { vector = v; signed = has.0; is = refl } in
          let at = at-contained found (halves v) ((same (halves v)).1 has.1) in
          subst (λ (x : List ℤ). Contains (map signed_in found) x) (signed-told (halves v) half)
          (contained-at (map signed_in found) (signed_in (halves v)) (at.0, at-map signed_in found (halves v) at.0 at.1))

  signed-listing : IsSorted (form_order Signed) found → IsSignedText others (signed_text (map signed_of found))
  signed-listing sorted = record {
    sorted = map signed_in found;
    set = record {
      rising = rising (lists_total int_cmp_total) exact-lists (map signed_in found) (sorted-keys signed_order signed_in found sorted) differ-signed;
      same = same-signed;
      whole = λ v has. All-contains AreHalves found v are ((same v).1 has);
    };
    written = ap signed_text (sym (told-all found are));
  }

-- what was read back of a history lists its named vectors
pub lists-named : (form : Form) (h : History) (back : ReadBack) → IsReadBack form h back → AreVectorsOf form back → IsListing form (named h) (listed form back)
lists-named (Unsigned width) h back read are = unsigned-listing (vectors back) (named h) read.once read.same read.order
lists-named Signed h back read are = signed-listing (vectors back) (named h) read.once read.same are.halves read.order

-- lists with the same vectors have the same listings
pub listing-same : (form : Form) (found others : List Vector) (text : List ℕ) → ((v : Vector) → Contains found v ↔ Contains others v) → IsListing form found text → IsListing form others text
listing-same (Unsigned width) found others text same listing = record {
  sorted = listing.sorted;
  set = record {
    rising = listing.set.rising;
    same = λ v. ((λ has. (same v).0 ((listing.set.same v).0 has)), (λ has. (listing.set.same v).1 ((same v).1 has)));
  };
  written = listing.written;
}
listing-same Signed found others text same listing = record {
  sorted = listing.sorted;
  set = record {
    rising = listing.set.rising;
    same = λ v. (
      (λ has. let told = (listing.set.same v).0 has in (told.0, (same (halves v)).0 told.1)),
      (λ has. (listing.set.same v).1 (has.0, (same (halves v)).1 has.1)),
    );
    whole = λ v has. listing.set.whole v ((same v).1 has);
  };
  written = listing.written;
}
