-- A step on the root word of a named vector that changes nothing there but flags, and calls on the vector.
use Rattle.std.proofs.Common.{◌≡◌, ◌≢◌, ℕ, suc, ◌+◌, ◌^◌, ◌<◌, List, [], ◌∷◌, ◌++◌, length, set, get_or, Bool, true, false, Some, refl, sym, ap, ◌∙◌, subst, ⊎_elim, arith, length-set, get_or-set_same, get_or-set_other}
use mathlib.Core.Option.{some}
use mathlib.Core.Logic.{dite}
use native.Mathlib.Decide.{ℕ_discrete}
use lib.ListN.{get_elem?}
use Rattle.atomic_table.specs.Table.{State}
use Rattle.tdb_base.specs.History.{Vector, Act, Entry, History, is_fresh, same, name_of, flags_after}
use Rattle.tdb_base.specs.Legal.{IsLegal, Allows}
use Rattle.tdb_base.proofs.NameLemmas.{same-equal, same-refl, names-differ, legal-push}
use Rattle.packed_word.specs.Word.{word_of}
use Rattle.pair_rule.specs.declared.view.View.{View}
use Rattle.pair_rule.specs.declared.sizes.About.{About}
use Rattle.pair_nodes.specs.Roots.{deed}
use Rattle.pair_rule.specs.Paths.{root_buckets, size}
use Rattle.pair_rule.specs.Plays.{Caught}
use Rattle.pair_rule.specs.Rule.{Filled}
use Rattle.pair_rule.proofs.Advance.{SameNodes, catches}
use Rattle.pair_rule.proofs.Buckets.{filled_same}
use Rattle.pair_rule.proofs.Lists.{has_back}
use Rattle.pair_rule.proofs.Names.{other_flags}
use Rattle.root_plain.proofs.Acted.{other_names, acted_flags, named_alike}
use Rattle.root_plain.specs.declared.root.Roots.{Roots}
use Rattle.root_plain.specs.Plain.{HoldsRoot, IsRoot, root_at, HasFlags, Plain, plain}
use Rattle.root_plain.specs.Words.{root_one, root_used}
use Rattle.root_plain.specs.Laws.{plain_sounds, plain_houses}
use Rattle.root_plain.proofs.RootSteps.{Rule, behind, behind_at, first, plain_after, root_room, IsName, name_is, both, both_named, both_there, caught}

abbrev V : Type 0
V = View Roots

module _ (S : Type 0) (about : About) (s : State S V) (r : Rule S about s) (id : ℕ) (v : V) (e : get_elem? s.views id ≡ some v) (live : v.live ≡ true) (i word : ℕ) (u : Vector) (is : first S about + i ≡ word)
    (name : name_of r.log u ≡ Some i) where
  abbrev pub bucket_of : IsName S about s r id v e live u i
  bucket_of = name_is S about s r id v e live u i name

  module _ (act : Act) (value : ℕ) (old_one : is_fresh act ≡ false) (few : value < 2 ^ about.flags) (after : flags_after act (Some (bucket_of.flags)) ≡ Some value) (allowed : Allows about.flags r.log u i act) where
    abbrev pair : ℕ
    pair = bucket_of.pair

    abbrev made : Entry
    made = deed v.number act u i

    abbrev log : History
    log = r.log ++ made ∷ []

    abbrev words : List ℕ
    words = set s.words word (word_of about.width value pair)

    abbrev old : ℕ → ℕ
    old = root_at (behind S about s.words)

    abbrev now : ℕ → ℕ
    now = root_at (behind S about words)

    others : (k : ℕ) → k ≢ i → now k ≡ old k
    others k n = behind_at S about words k ∙ (get_or-set_other s.words word (first S about + k) (word_of about.width value pair) 0 (λ z. n (omega arith)) ∙ sym (behind_at S about s.words k))

    holds_old : IsRoot about (old i) pair
    holds_old = (bucket_of.flags, bucket_of.holds)

    holds_now : HoldsRoot about (now i) pair value
    holds_now =
        let room = root_room about r.rooted.is_about in
        let inside = bucket_of.inside in
        let in_words : word < length s.words = omega (arith, r.wide, room, inside) in
        record {
          is_pair = bucket_of.holds.is_pair;
          few = few;
          word_is = behind_at S about words i ∙ (ap (λ (m : ℕ). get_or words m 0) is ∙ get_or-set_same s.words word (word_of about.width value pair) 0 in_words);
        }

    stay : (k x : ℕ) → IsRoot about (old k) x → IsRoot about (now k) x
    stay k x a = dite (ℕ_discrete k i)
        (λ z.
        let one : x ≡ pair = root_one about (old i) x pair (subst (λ (m : ℕ). IsRoot about (old m) x) z a) holds_old in
        subst (λ (q : ℕ × ℕ). IsRoot about (now q.0) q.1) (λ c. (sym z c, sym one c)) (value, holds_now))
        (λ n. subst (λ (m : ℕ). IsRoot about m x) (sym (others k n)) a)

    blank : (k : ℕ) → old k ≡ 0 → now k ≡ 0
    blank k z = dite (ℕ_discrete k i)
        (λ t. absurd (root_used about pair (subst (λ (m : ℕ). IsRoot about m pair) (ap old (sym t) ∙ z) holds_old)))
        (λ n. others k n ∙ z)

    same_name : (c : Vector) → name_of log c ≡ name_of r.log c
    same_name c = other_names r.log made old_one c

    legal_now : IsLegal about.flags log
    legal_now = legal-push about.flags r.log made r.legal allowed

    one_vector : (c : Vector) → name_of r.log c ≡ Some i → u ≡ c
    one_vector c n = names-differ about.flags r.log r.legal u c i name n

    names_now : (c : Vector) (k : ℕ) → name_of log c ≡ Some k → (k < size (root_buckets about)) × HasFlags about log c (now k)
    names_now c k n = by (same u c) refl (sym (same_name c) ∙ n)
      where
        by : (b : Bool) → same u c ≡ b → name_of r.log c ≡ Some k → (k < size (root_buckets about)) × HasFlags about log c (now k)
        by true t m =
            let vectors : u ≡ c = same-equal u c t in
            let again : name_of r.log c ≡ Some i = ap (λ (w : Vector). name_of r.log w) (sym vectors) ∙ name in
            let ids : i ≡ k = cc (again, m) in
            subst (λ (z : Vector × ℕ). (z.1 < size (root_buckets about)) × HasFlags about log z.0 (now z.1)) (λ c. (vectors c, ids c))
            (bucket_of.inside, record { pair = pair; flags = value; flags_are = acted_flags r.log made (Some (bucket_of.flags)) (Some value) bucket_of.flags_are after; holds = holds_now })
        by false t m =
            let q = r.rooted.names c k m in
            let far : k ≢ i = λ z. let one : u ≡ c = one_vector c (m ∙ ap Some z) in cc (t, same-refl u, ap (same u) one) in (
              q.0,
              record {
                pair = q.1.pair;
                flags = q.1.flags;
                flags_are = other_flags r.log made c t ∙ q.1.flags_are;
                holds = subst (λ (m : ℕ). HoldsRoot about m q.1.pair q.1.flags) (sym (others k far)) q.1.holds;
              },
            )

    used_now : (k : ℕ) → k < size (root_buckets about) → now k ≢ 0 → (c : Vector) × (name_of log c ≡ Some k)
    used_now k low nz = let q = r.rooted.used k low (λ z. nz (blank k z)) in (q.0, same_name q.0 ∙ q.1)

    filled_now : Filled (root_buckets about) (IsRoot about) now
    filled_now = filled_same (root_buckets about) (IsRoot about) (root_one about) (root_used about) old now r.rooted.is_about.range.roots.0 (λ k low. (blank k, stay k)) r.rooted.filled

    plain_now : Plain about log (behind S about words) (set s.views id (caught S about s r id v e live (made ∷ [])))
    plain_now = plain_after about r.log log (behind S about s.words) (behind S about words) s.views id (caught S about s r id v e live (made ∷ [])) r.rooted filled_now used_now names_now stay
        (λ k x a. let q = both_there S about s r id v e live k x a in (q.0, stay k x q.1))

    pub acts : Rule S about record { words = words; homes = s.homes; views = set s.views id (caught S about s r id v e live (made ∷ [])) } × Caught plain (made ∷ []) v (caught S about s r id v e live (made ∷ []))
    acts =
        let h = r.holder.1 in
        let same_nodes : SameNodes S about plain (Plain about) s.words words =
        (length-set s.words word (word_of about.width value pair), λ k low. get_or-set_other s.words word (suc k) (word_of about.width value pair) 0 (λ z. absurd (omega arith))) in
        let c = catches S about plain (Plain about) s r id r.holder.0 v h words (made ∷ []) v.busy (both S about s r id v e live) e live r.holder.2
        (λ y a. ⊎_elim (λ (z : y ≡ made). ap (λ (w : Entry). w.caller) z) (λ (no : ⊥). absurd no) a) same_nodes legal_now
        (named_alike about (h.known ++ v.known) r.log log (both S about s r id v e live).roots same_name (both_named S about s r id v e live)) plain_now
        (λ l ws nodes views k u kept legal at fits alive. plain_sounds about l ws views k u kept at)
        (λ l ws nodes views k u kept legal at fits alive all. plain_houses about l ws nodes views k u kept at fits all)
        (λ k y a. has_back (k, y) h.root.roots v.root.roots a) in
        (c.0, c.1.0)
