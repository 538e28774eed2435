-- Loads and exchanges of root words, as the table's rule allows them.
use Rattle.std.proofs.Common.{◌≡◌, ℕ, ◌+◌, ◌-◌, ◌<◌, List, [], ◌∷◌, ◌++◌, length, set, get_or, Bool, true, refl, sym, ap, ◌∙◌, subst, inl, eqb, arith}
use mathlib.Core.Option.{none}
use lib.Seq.{set-get_or}
use prog.Atomic.{either}
use Rattle.atomic_table.specs.Table.{State, Me, Act, Valid, step, keeps, stepped, carried_after, Allows}
use Rattle.atomic_table.proofs.Lists.{exchanged}
use Rattle.tree_shape.specs.Tree.{RootStands}
use Rattle.tdb_base.specs.History.{Vector}
use Rattle.packed_word.specs.Word.{word_of}
use Rattle.pair_rule.specs.declared.view.View.{View}
use Rattle.pair_rule.specs.declared.sizes.About.{About}
use Rattle.pair_rule.specs.Paths.{root_buckets, size, bucket, reach, IsPair, Passed, Listed}
use Rattle.pair_rule.specs.Rule.{StoreRule}
use Rattle.pair_rule.specs.Plays.{first_root}
use Rattle.pair_rule.proofs.Lists.{has_back}
use Rattle.pair_rule.proofs.Advance.{catch}
use Rattle.pair_rule.proofs.Names.{root_more}
use Rattle.root_plain.specs.declared.root.Roots.{Roots}
use Rattle.root_plain.specs.Plain.{root_at, Plain}
use Rattle.pair_rule.specs.Calls.{call, Called}
use Rattle.root_plain.specs.Plain.{plain}
use Rattle.root_plain.specs.Plays.{wants, Shows, sought, claimed}
use Rattle.root_plain.specs.declared.plays.Wanted.TheVariants.{Pair}
use Rattle.root_plain.proofs.RootSteps.{behind, behind_at, first, sees, wins}

abbrev V : Type 0
V = View Roots

module _ (S : Type 0) (about : About) where
  abbrev Rule : State S V → Type 0
  Rule = StoreRule about (plain.roots about) (Plain about)

  -- a load of a root bucket
  pub seeks : (slots id : ℕ) (me : Me S V) (wanted : ℕ → Bool) (i word : ℕ) → me.0.live ≡ true → me.0.about ≡ about → first S about + i ≡ word → i < size (root_buckets about)
      → Allows Rule slots id me word (λ n. n) (sought wanted (step slots word 0 0 none) me)
  seeks slots id me wanted i word live about_is is inside s r sl e below =
      let n = get_or s.words word 0 in
      let found : root_at (behind S about s.words) i ≡ n = behind_at S about s.words i ∙ ap (λ (m : ℕ). get_or s.words m 0) is in
      let t = sees S about s r id me.0 e live wanted i n found about_is inside in
      let d : i ≡ word - first_root me.0.about = subst (λ (y : About). i ≡ word - first_root y) (sym about_is) (omega (arith, is)) in (
        t.after,
        keeps,
        tt,
        subst (λ (ws : List ℕ). Rule record { words = ws; homes = s.homes; views = set s.views id t.after }) (sym (set-get_or s.words word 0)) t.rule,
        (record { slots_stay = refl; busy_stays = t.busy; no_olds = t.olds }, subst (λ (m : ℕ). Shows wanted m n me.0 t.after) d t.shows),
      )

  -- an exchange that puts the pair's word into the root bucket i, if it is empty
  pub claims : (slots id : ℕ) (me : Me S V) (i word x j new : ℕ) (vector : Vector) → me.0.live ≡ true → me.0.about ≡ about → first S about + i ≡ word → i < size (root_buckets about) → new ≡ 9223372036854775808 + x
      → IsPair (root_buckets about) x → j < reach (root_buckets about) → bucket (root_buckets about) x j ≡ i → Passed (root_buckets about) (Listed me.0.root.roots) x j
      → RootStands about.width about.slots me.0.known x vector → length vector ≡ about.slots
      → Allows Rule slots id me word (λ n. either (eqb n 0) new n) (claimed (step slots word 0 new none) me)
  claims slots id me i word x j new vector live about_is is inside packed small near lies passed stands long s r sl e below =
      let n = get_or s.words word 0 in
      let found : root_at (behind S about s.words) i ≡ n = behind_at S about s.words i ∙ ap (λ (m : ℕ). get_or s.words m 0) is in
      let d : i ≡ word - first_root me.0.about = subst (λ (y : About). i ≡ word - first_root y) (sym about_is) (omega (arith, is)) in
      let dx : x ≡ new - 9223372036854775808 = omega (arith, packed) in
      let as_word : word_of about.width 0 x ≡ new = omega (arith, packed) in
      exchanged n 0 new
      (λ m. (w : V) × (a : Act S) × Valid s.homes me.1 a × Rule (stepped s word m id me.1 w a) × claimed (step slots word 0 new none) me n (w, carried_after me.1 a))
      (λ z.
      let free = found ∙ z in
      let k = wins S about s r id me.0 e live i word x j vector is inside free small near lies passed stands long in
      let h = r.holder.1 in
      let w = catch me.0 h (r.log ++ call me.0.number true vector i ∷ []) me.0.busy (record { roots = (i, x) ∷ (h.root.roots ++ me.0.root.roots) }) in
      let made : Called plain true i x me.0 w = record {
        vector = vector;
        stands = subst (λ (y : About). RootStands y.width y.slots (h.known ++ me.0.known) x vector) (sym about_is) (root_more about me.0.known (h.known ++ me.0.known) x vector (λ c y b. has_back (c, y) h.known me.0.known b) stands);
        long = long ∙ ap (λ (y : About). y.slots) (sym about_is);
        caught = k.1;
        root = inl refl;
      } in (
        w,
        keeps,
        tt,
        subst (λ (m : ℕ). Rule (stepped s word m id me.1 w keeps)) as_word k.0,
        (record { slots_stay = refl; busy_stays = refl; no_olds = refl }, (λ _. subst (λ (q : ℕ × ℕ). Called plain true q.0 q.1 me.0 w) (λ c. (d c, dx c)) made), (λ used. absurd {A = Shows (wants (Pair (new - 9223372036854775808))) (word - first_root me.0.about) n me.0 w} (used z))),
      ))
      (λ used.
      let t = sees S about s r id me.0 e live (wants (Pair x)) i n found about_is inside in (
        t.after,
        keeps,
        tt,
        subst (λ (ws : List ℕ). Rule record { words = ws; homes = s.homes; views = set s.views id t.after }) (sym (set-get_or s.words word 0)) t.rule,
        (
          record { slots_stay = refl; busy_stays = t.busy; no_olds = t.olds },
          (λ z. absurd {A = Called plain true (word - first_root me.0.about) (new - 9223372036854775808) me.0 t.after} (used z)),
          (λ _. subst (λ (q : ℕ × ℕ). Shows (wants (Pair q.1)) q.0 n me.0 t.after) (λ c. (d c, dx c)) t.shows),
        ),
      ))
