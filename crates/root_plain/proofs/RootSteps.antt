-- Root words: a load keeps the rule, and so does an exchange that fills an empty bucket.
use Rattle.std.proofs.Common.{◌≡◌, ◌≢◌, ◌⊎◌, ℕ, suc, ◌+◌, ◌<◌, List, [], ◌∷◌, ◌++◌, length, drop, set, get_or, Bool, true, false, Option, Some, None, refl, sym, ap, ◌∙◌, subst, inl, inr, ⊎_elim, arith, append-nil, length-set, get_or-set_same, get_or-set_other}
use mathlib.Core.Option.{some}
use mathlib.Core.Logic.{dite}
use native.Mathlib.Decide.{ℕ_discrete}
use lib.ListN.{get_elem?}
use Rattle.std.proofs.lemmas.List.{get_or-drop}
use Rattle.std.proofs.lemmas.Nat.{pow_pos}
use Rattle.std.specs.Prelude.{if◌then◌else◌}
use Rattle.atomic_table.specs.Table.{State}
use Rattle.tree_shape.specs.Tree.{Has, RootStands}
use Rattle.tree_shape.proofs.Trees.{one_root}
use Rattle.tdb_base.specs.History.{Vector, Entry, History, names, name_of, flags_of}
use Rattle.tdb_base.specs.Legal.{IsLegal}
use Rattle.tdb_base.proofs.NameLemmas.{name-push, names-this, names-differ, name-kept, entry-named, legal-push}
use Rattle.packed_word.specs.Word.{word_of}
use Rattle.pair_rule.specs.declared.view.View.{View}
use Rattle.pair_rule.specs.declared.sizes.About.{About}
use Rattle.pair_rule.specs.Paths.{node_buckets, root_buckets, size, bucket, reach, IsPair, Passed, Listed}
use Rattle.pair_rule.specs.Rule.{InWords, HasPair, Filled, Named, StoreRule}
use Rattle.pair_rule.specs.Plays.{first_root}
use Rattle.pair_rule.proofs.Lists.{has_front, has_back, has_either, each_set}
use Rattle.pair_rule.proofs.Buckets.{filled_put, nowhere}
use Rattle.pair_rule.proofs.Advance.{catch, SameNodes, united, catches}
use Rattle.pair_rule.proofs.Names.{SameNames, same_none, same_seen, fresh_flags, other_flags, named_same, root_more, named_caught, named_fresh}
use Rattle.root_plain.specs.declared.root.Roots.{Roots}
use Rattle.root_plain.specs.Plain.{both_roots, IsPlain, HoldsRoot, IsRoot, root_at, HasFlags, Plain}
use Rattle.root_plain.specs.Words.{same_word, holds_used, root_one, root_used}
use Rattle.root_plain.specs.Laws.{plain_sounds, plain_houses}
use Rattle.pair_rule.specs.Calls.{call}
use Rattle.pair_rule.specs.Plays.{Caught}
use Rattle.root_plain.specs.Plain.{plain}
use Rattle.root_plain.specs.Plays.{Shows}

abbrev V : Type 0
V = View Roots

-- the root words after a step after which no word has lost its pair, and one view has a root part whose pairs are in the words
pub plain_after : (about : About) (log g : History) (ws ws' : List ℕ) (views : List V) (id : ℕ) (w : V) → Plain about log ws views → Filled (root_buckets about) (IsRoot about) (root_at ws')
    → ((k : ℕ) → k < size (root_buckets about) → root_at ws' k ≢ 0 → (u : Vector) × (name_of g u ≡ Some k))
    → ((u : Vector) (k : ℕ) → name_of g u ≡ Some k → (k < size (root_buckets about)) × HasFlags about g u (root_at ws' k))
    → ((k x : ℕ) → IsRoot about (root_at ws k) x → IsRoot about (root_at ws' k) x)
    → ((k x : ℕ) → Has (k, x) w.root.roots → (k < size (root_buckets about)) × IsRoot about (root_at ws' k) x)
    → Plain about g ws' (set views id w)
plain_after about log g ws ws' views id w p filled used named stay mine = record {
  is_about = p.is_about;
  filled = filled;
  used = used;
  names = named;
  roots = each_set (λ (j : ℕ) (u : V). (k x : ℕ) → Has (k, x) u.root.roots → (k < size (root_buckets about)) × IsRoot about (root_at ws' k) x) views id w
      (λ j u a k x h. let q = p.roots j u a k x h in (q.0, stay k x q.1))
      mine;
}

-- a bucket for each root word
pub root_room : (about : About) → IsPlain about → size (root_buckets about) ≡ about.root_words
unfolding size
root_room about is = sym is.root_words_are

module _ (S : Type 0) (about : About) where
  abbrev pub Rule : State S V → Type 0
  Rule = StoreRule about (plain.roots about) (Plain about)

  abbrev pub behind : List ℕ → List ℕ
  behind ws = drop (suc (size (node_buckets about))) ws

  abbrev pub first : ℕ
  first = first_root about

  pub behind_at : (ws : List ℕ) (i : ℕ) → root_at (behind ws) i ≡ get_or ws (first + i) 0
  behind_at ws i = get_or-drop (suc (size (node_buckets about))) ws i 0

  module _ (s : State S V) (r : Rule s) (id : ℕ) (v : V) (e : get_elem? s.views id ≡ some v) (live : v.live ≡ true) where
    -- the view that has seen all
    abbrev pub h : V
    h = r.holder.1

    abbrev pub both : Roots
    both = both_roots h.root v.root

    abbrev pub caught : History → V
    caught more = catch v h (r.log ++ more) v.busy both

    -- who has a name, and with which root pair
    pub record IsName (u : Vector) (i : ℕ) : Type 0 where
      pub pair : ℕ
      pub flags : ℕ
      pub inside : i < size (root_buckets about)
      pub holds : HoldsRoot about (root_at (behind s.words) i) pair flags
      pub flags_are : flags_of r.log u ≡ Some flags
      pub known : Has (i, pair) h.root.roots
      pub stands : RootStands about.width about.slots h.known pair u
      pub long : length u ≡ about.slots

    holder_named : Named about h.known r.log h.root.roots
    holder_named = subst (λ (g : History). Named about h.known g h.root.roots) r.holder.3 (r.each r.holder.0 h r.holder.2).named

    pub name_is : (u : Vector) (i : ℕ) → name_of r.log u ≡ Some i → IsName u i
    name_is u i n =
        let k = r.rooted.names u i n in
        let known = holder_named.each u i n in
        let there = r.rooted.roots r.holder.0 h r.holder.2 i known.0 known.1 in
        let pairs : known.0 ≡ k.1.pair = root_one about (root_at (behind s.words) i) known.0 k.1.pair there.1 (k.1.flags, k.1.holds) in
        let o = holder_named.only i known.0 known.1 in
        let same_vector : o.0 ≡ u = names-differ about.flags r.log r.legal o.0 u i o.1 n in
        record {
          pair = k.1.pair;
          flags = k.1.flags;
          inside = k.0;
          holds = k.1.holds;
          flags_are = k.1.flags_are;
          known = subst (λ (x : ℕ). Has (i, x) h.root.roots) pairs known.1;
          stands = subst (λ (z : ℕ × Vector). RootStands about.width about.slots h.known z.0 z.1) (λ t. (pairs t, same_vector t)) o.2;
          long = ap length (sym same_vector) ∙ o.3;
        }

    pub both_named : Named about (h.known ++ v.known) r.log both.roots
    both_named = let f = r.each id v e in named_caught about h.known v.known r.log v.seen h.root.roots v.root.roots r.legal f.seen holder_named f.named

    pub both_there : (k x : ℕ) → Has (k, x) both.roots → (k < size (root_buckets about)) × IsRoot about (root_at (behind s.words) k) x
    both_there k x a = ⊎_elim (λ (b : Has (k, x) h.root.roots). r.rooted.roots r.holder.0 h r.holder.2 k x b) (λ (b : Has (k, x) v.root.roots). r.rooted.roots id v e k x b) (has_either (k, x) h.root.roots v.root.roots a)

    -- a load of a root bucket, after which the view has caught up and made calls that change no name and no flag
    looked : (more : History) → ((x : Entry) → Has x more → x.caller ≡ v.number) → IsLegal about.flags (r.log ++ more) → SameNames r.log (r.log ++ more)
        → Rule record { words = s.words; homes = s.homes; views = set s.views id (caught more) } × Caught plain more v (caught more)
    looked more mine legal like =
        let p = r.rooted in
        let after = plain_after about r.log (r.log ++ more) (behind s.words) (behind s.words) s.views id (caught more) p p.filled
        (λ k inside used. let u = p.used k inside used in (u.0, like.names_are u.0 ∙ u.1))
        (λ u k n. let q = p.names u k (sym (like.names_are u) ∙ n) in (q.0, record { pair = q.1.pair; flags = q.1.flags; flags_are = like.flags_are u ∙ q.1.flags_are; holds = q.1.holds }))
        (λ k x a. a) both_there in
        let c = catches S about plain (Plain about) s r id r.holder.0 v h s.words more v.busy both e live r.holder.2 mine (refl, λ k inside. refl) legal
        (named_same about (h.known ++ v.known) r.log (r.log ++ more) both.roots like both_named) after
        (λ log ws nodes views j u kept legal at fits alive. plain_sounds about log ws views j u kept at)
        (λ log ws nodes views j u kept legal at fits alive all. plain_houses about log ws nodes views j u kept at fits all)
        (λ k x a. has_back (k, x) h.root.roots v.root.roots a) in
        (c.0, c.1.0)

    -- the rule after a load of the root bucket i that found the word n, and what the load tells
    pub record Sees (wanted : ℕ → Bool) (i n : ℕ) : Type 0 where
      pub after : V
      pub rule : Rule record { words = s.words; homes = s.homes; views = set s.views id after }
      pub shows : Shows wanted i n v after
      pub busy : after.busy ≡ v.busy
      pub olds : after.olds ≡ []

    module _ (wanted : ℕ → Bool) (i n : ℕ) (is : root_at (behind s.words) i ≡ n) (about_is : v.about ≡ about) where
      ours : (x f : ℕ) → HoldsRoot v.about n x f → HoldsRoot about n x f
      ours x f a = subst (λ (y : About). HoldsRoot y n x f) about_is a

      -- an empty bucket
      sees_none : n ≡ 0 → Sees wanted i n
      sees_none blank =
          let quiet = looked [] (λ x a. absurd a) (subst (IsLegal about.flags) (sym (append-nil r.log)) r.legal) (same_none r.log) in
          let never : (x f : ℕ) → HoldsRoot v.about n x f → ⊥ = λ x f a. holds_used about x f (subst (λ (m : ℕ). HoldsRoot about m x f) blank (ours x f a)) in
          record {
            after = caught [];
            rule = quiet.0;
            shows = record {
              word = inl blank;
              empty = λ z. (quiet.1, λ u a. let k = r.rooted.names u i (sym ((same_none r.log).names_are u) ∙ a) in holds_used about k.1.pair k.1.flags (subst (λ (m : ℕ). HoldsRoot about m k.1.pair k.1.flags) (is ∙ blank) k.1.holds));
              pair = λ x f a. absurd (never x f a);
              other = λ x a no. absurd (never x a.0 a.1);
              found = λ x a yes. absurd (never x a.0 a.1);
            };
            busy = refl;
            olds = refl;
          }

      module _ (u : Vector) (name : name_of r.log u ≡ Some i) where
        abbrev k : IsName u i
        k = name_is u i name

        here : HoldsRoot about n k.pair k.flags
        here = subst (λ (m : ℕ). HoldsRoot about m k.pair k.flags) is k.holds

        word_here : (n ≡ 0) ⊎ ((pair : ℕ) × IsRoot v.about n pair)
        word_here = inr (k.pair, (k.flags, subst (λ (y : About). HoldsRoot y n k.pair k.flags) (sym about_is) here))

        not_empty : n ≡ 0 → ⊥
        not_empty z = holds_used about k.pair k.flags (subst (λ (m : ℕ). HoldsRoot about m k.pair k.flags) z here)

        only_pair : (x : ℕ) → IsRoot v.about n x → x ≡ k.pair
        only_pair x a = root_one about n x k.pair (a.0, ours x a.0 a.1) (k.flags, here)

        pair_told : (more : History) → IsLegal about.flags (r.log ++ more) → SameNames r.log (r.log ++ more) → (x f : ℕ) → HoldsRoot v.about n x f
            → Has (i, x) both.roots × ((c : Vector) → name_of (r.log ++ more) c ≡ Some i → flags_of (r.log ++ more) c ≡ Some f)
        pair_told more legal like x f a =
            let q = same_word about n x k.pair f k.flags (ours x f a) here in (
              subst (λ (m : ℕ). Has (i, m) both.roots) (sym q.0) (has_front (i, k.pair) h.root.roots v.root.roots k.known),
              λ c cn.
                  let one : c ≡ u = names-differ about.flags (r.log ++ more) legal c u i cn (like.names_are u ∙ name) in
                  ap (λ (y : Vector). flags_of (r.log ++ more) y) one ∙ (like.flags_are u ∙ (k.flags_are ∙ ap Some (sym q.1))),
            )

        -- a pair that is not wanted
        sees_other : wanted k.pair ≡ false → Sees wanted i n
        sees_other refused =
            let legal = subst (IsLegal about.flags) (sym (append-nil r.log)) r.legal in
            let quiet = looked [] (λ x a. absurd a) legal (same_none r.log) in
            record {
              after = caught [];
              rule = quiet.0;
              shows = record {
                word = word_here;
                empty = λ z. absurd (not_empty z);
                pair = pair_told [] legal (same_none r.log);
                other = λ x a not. quiet.1;
                found = λ x a yes. absurd (cc (yes, refused, ap wanted (only_pair x a)));
              };
              busy = refl;
              olds = refl;
            }

        -- a pair that is wanted
        sees_wanted : wanted k.pair ≡ true → Sees wanted i n
        sees_wanted agreed =
            let made = call v.number false u i in
            let legal = legal-push about.flags r.log made r.legal name in
            let like = same_seen r.log made refl in
            let told = looked (made ∷ []) (λ x a. ⊎_elim (λ (z : x ≡ made). ap (λ (y : Entry). y.caller) z) (λ (no : ⊥). absurd no) a) legal like in
            record {
              after = caught (made ∷ []);
              rule = told.0;
              shows = record {
                word = word_here;
                empty = λ z. absurd (not_empty z);
                pair = pair_told (made ∷ []) legal like;
                other = λ x a no. absurd (cc (agreed, no, ap wanted (only_pair x a)));
                found = λ x a yes. record {
                  vector = u;
                  stands = subst (λ (y : About). RootStands y.width y.slots (h.known ++ v.known) x u) (sym about_is)
                      (root_more about h.known (h.known ++ v.known) x u (λ j y b. has_front (j, y) h.known v.known b) (subst (λ (m : ℕ). RootStands about.width about.slots h.known m u) (sym (only_pair x a)) k.stands));
                  long = k.long ∙ ap (λ (y : About). y.slots) (sym about_is);
                  caught = told.1;
                  root = subst (λ (m : ℕ). Has (i, m) both.roots) (sym (only_pair x a)) (has_front (i, k.pair) h.root.roots v.root.roots k.known);
                };
              };
              busy = refl;
              olds = refl;
            }

        sees_name : Sees wanted i n
        sees_name = by (wanted k.pair) refl
          where
            by : (b : Bool) → wanted k.pair ≡ b → Sees wanted i n
            by true t = sees_wanted t
            by false t = sees_other t

      pub sees : i < size (root_buckets about) → Sees wanted i n
      sees inside = ⊎_elim
          (λ (z : root_at (behind s.words) i ≡ 0). sees_none (sym is ∙ z))
          (λ (t : (y : ℕ) × HasPair (root_buckets about) (IsRoot about) (root_at (behind s.words)) i y).
          let u = r.rooted.used i inside (λ z. root_used about t.0 (subst (λ (m : ℕ). IsRoot about m t.0) z t.1.there)) in
          sees_name u.0 u.1)
          (r.rooted.filled i inside)

    -- an exchange that fills the empty root bucket i of a pair's path, whose earlier buckets have other pairs
    module _ (i word x j : ℕ) (vector : Vector) (is : first + i ≡ word) (inside : i < size (root_buckets about)) (free : root_at (behind s.words) i ≡ 0) (small : IsPair (root_buckets about) x)
        (near : j < reach (root_buckets about)) (lies : bucket (root_buckets about) x j ≡ i) (passed : Passed (root_buckets about) (Listed v.root.roots) x j)
        (stands : RootStands about.width about.slots v.known x vector) (long : length vector ≡ about.slots) where
      abbrev filled_words : List ℕ
      filled_words = set s.words word (word_of about.width 0 x)

      abbrev old : ℕ → ℕ
      old = root_at (behind s.words)

      abbrev now : ℕ → ℕ
      now = root_at (behind filled_words)

      abbrev made : Entry
      made = call v.number true vector i

      abbrev grown : Roots
      grown = record { roots = (i, x) ∷ both.roots }

      others : (k : ℕ) → k ≢ i → now k ≡ old k
      others k n = behind_at filled_words k ∙ (get_or-set_other s.words word (first + k) (word_of about.width 0 x) 0 (λ z. n (omega arith)) ∙ sym (behind_at s.words k))

      holds_now : HoldsRoot about (now i) x 0
      holds_now =
          let room = root_room about r.rooted.is_about in
          let in_words : word < length s.words = omega (arith, r.wide, room) in
          record {
            is_pair = small;
            few = pow_pos about.flags;
            word_is = behind_at filled_words i ∙ (ap (λ (m : ℕ). get_or filled_words m 0) is ∙ get_or-set_same s.words word (word_of about.width 0 x) 0 in_words);
          }

      not_here : (k y : ℕ) → IsRoot about (old k) y → k ≢ i
      not_here k y a z = root_used about y (subst (λ (m : ℕ). IsRoot about m y) (ap old z ∙ free) a)

      stay : (k y : ℕ) → IsRoot about (old k) y → IsRoot about (now k) y
      stay k y a = subst (λ (m : ℕ). IsRoot about m y) (sym (others k (not_here k y a))) a

      blocked : Passed (root_buckets about) (InWords (IsRoot about) old) x j
      blocked m lt = let q = passed m lt in (q.0, (r.rooted.roots id v e (bucket (root_buckets about) x m) q.0 q.1).1, q.2)

      both_known : RootStands about.width about.slots (h.known ++ v.known) x vector
      both_known = root_more about v.known (h.known ++ v.known) x vector (λ k y b. has_back (k, y) h.known v.known b) stands

      free_id : (u : Vector) → name_of r.log u ≢ Some i
      free_id u n = let k = name_is u i n in not_here i k.pair (k.flags, k.holds) refl

      no_name : name_of r.log vector ≡ None
      no_name = by (name_of r.log vector) refl
        where
          by : (o : Option ℕ) → name_of r.log vector ≡ o → o ≡ None
          by None t = refl
          by (Some m) t =
              let k = name_is vector m t in
              let nodes = united S about plain (Plain about) s r id r.holder.0 v h e r.holder.2 in
              let one : k.pair ≡ x = one_root about.width about.slots (h.known ++ v.known) nodes.naming k.pair x vector (root_more about h.known (h.known ++ v.known) k.pair vector (λ c y b. has_front (c, y) h.known v.known b) k.stands) both_known in
              absurd (nowhere (root_buckets about) (IsRoot about) (root_one about) (root_used about) old i x j m r.rooted.filled k.inside free lies blocked (subst (IsRoot about (old m)) one (k.flags, k.holds)))

      legal_now : IsLegal about.flags (r.log ++ made ∷ [])
      legal_now = legal-push about.flags r.log made r.legal (no_name, free_id)

      name_now : name_of (r.log ++ made ∷ []) vector ≡ Some i
      name_now = entry-named about.flags (r.log ++ made ∷ []) r.log [] made legal_now refl

      names_now : (u : Vector) (k : ℕ) → name_of (r.log ++ made ∷ []) u ≡ Some k → (k < size (root_buckets about)) × HasFlags about (r.log ++ made ∷ []) u (now k)
      names_now u k n = by (names made u) refl (sym (name-push r.log made u) ∙ n)
        where
          by : (b : Bool) → names made u ≡ b → (if b then Some i else name_of r.log u) ≡ Some k → (k < size (root_buckets about)) × HasFlags about (r.log ++ made ∷ []) u (now k)
          by true t m =
              let ids : i ≡ k = cc m in
              let vectors : vector ≡ u = (names-this made u t).1 in
              subst (λ (z : Vector × ℕ). (z.1 < size (root_buckets about)) × HasFlags about (r.log ++ made ∷ []) z.0 (now z.1)) (λ c. (vectors c, ids c))
              (inside, record { pair = x; flags = 0; flags_are = fresh_flags r.log made refl; holds = holds_now })
          by false t m =
              let q = r.rooted.names u k m in (
                q.0,
                record {
                  pair = q.1.pair;
                  flags = q.1.flags;
                  flags_are = other_flags r.log made u t ∙ q.1.flags_are;
                  holds = subst (λ (c : ℕ). HoldsRoot about c q.1.pair q.1.flags) (sym (others k (not_here k q.1.pair (q.1.flags, q.1.holds)))) q.1.holds;
                },
              )

      plain_now : Plain about (r.log ++ made ∷ []) (behind filled_words) (set s.views id (catch v h (r.log ++ made ∷ []) v.busy grown))
      plain_now = plain_after about r.log (r.log ++ made ∷ []) (behind s.words) (behind filled_words) s.views id (catch v h (r.log ++ made ∷ []) v.busy grown) r.rooted
          (filled_put (root_buckets about) (IsRoot about) (root_one about) (root_used about) old now i x j r.rooted.filled free (0, holds_now) others small near lies blocked)
          (λ k low nz. dite (ℕ_discrete k i)
          (λ z. let named : (u : Vector) × (name_of (r.log ++ made ∷ []) u ≡ Some k) = (vector, name_now ∙ ap Some (sym z)) in named)
          (λ n. let u = r.rooted.used k low (λ z. nz (others k n ∙ z)) in (u.0, name-kept about.flags u.0 k r.log (made ∷ []) legal_now u.1)))
          names_now stay
          (λ k y a. ⊎_elim
          (λ (t : (k, y) ≡ (i, x)). subst (λ (z : ℕ × ℕ). (z.0 < size (root_buckets about)) × IsRoot about (now z.0) z.1) (sym t) (inside, (0, holds_now)))
          (λ (t : Has (k, y) both.roots). let q = both_there k y t in (q.0, stay k y q.1))
          a)

      pub wins : Rule record { words = filled_words; homes = s.homes; views = set s.views id (catch v h (r.log ++ made ∷ []) v.busy grown) } × Caught plain (made ∷ []) v (catch v h (r.log ++ made ∷ []) v.busy grown)
      wins =
          let same_nodes : SameNodes S about plain (Plain about) s.words filled_words =
          (length-set s.words word (word_of about.width 0 x), λ k low. get_or-set_other s.words word (suc k) (word_of about.width 0 x) 0 (λ z. absurd (omega arith))) in
          let c = catches S about plain (Plain about) s r id r.holder.0 v h filled_words (made ∷ []) v.busy grown e live r.holder.2
          (λ y a. ⊎_elim (λ (z : y ≡ made). ap (λ (w : Entry). w.caller) z) (λ (no : ⊥). absurd no) a) same_nodes legal_now
          (named_fresh about (h.known ++ v.known) r.log both.roots made x legal_now refl both_known long both_named) plain_now
          (λ log ws nodes views k u kept legal at fits alive. plain_sounds about log ws views k u kept at)
          (λ log ws nodes views k u kept legal at fits alive all. plain_houses about log ws nodes views k u kept at fits all)
          (λ k y a. inr (has_back (k, y) h.root.roots v.root.roots a)) in
          (c.0, c.1.0)
