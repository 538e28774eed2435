-- Steps on the flags in a named vector's root word, as the table's rule allows them.
use Rattle.std.proofs.Common.{◌≡◌, ℕ, ◌+◌, ◌-◌, ◌*◌, ◌^◌, ◌<◌, [], ◌∷◌, set, get_or, true, false, not, Some, bit_and, bit_or, refl, sym, ap, ◌∙◌, subst, arith}
use mathlib.Core.Option.{none, some}
use Rattle.std.specs.Int.{bit_not, w64}
use Rattle.std.proofs.lemmas.Nat.{pow_below, or_lt}
use lib.ListN.{get_elem?}
use Rattle.atomic_table.specs.Table.{State, Me, step, keeps, Allows}
use Rattle.tdb_base.specs.History.{Vector, History, Act, Set, Clear, Look, has_bit, with_bit, without_bit, is_fresh, name_of, flags_of, flags_after}
use Rattle.tdb_base.specs.Legal.{Extends}
use Rattle.tdb_base.specs.Legal as legal
use Rattle.tdb_base.proofs.NameLemmas.{keeps-names, names-differ}
use Rattle.packed_word.specs.Word.{flag_bits, word_of}
use Rattle.packed_word.proofs.Numbers.{has_parts, sets_flag_of, clears_flag_of}
use Rattle.pair_rule.specs.declared.view.View.{View}
use Rattle.pair_rule.specs.declared.sizes.About.{About}
use Rattle.pair_nodes.specs.Roots.{deed}
use Rattle.pair_rule.specs.Paths.{root_buckets, IsPair}
use Rattle.pair_rule.specs.Plays.{Caught, first_root}
use Rattle.pair_rule.specs.Rule.{StoreRule}
use Rattle.root_plain.specs.declared.root.Roots.{Roots}
use Rattle.root_plain.specs.Plain.{IsPlain, Plain, plain, root_at}
use Rattle.root_plain.specs.Plays.{Leaves, DoesTo, flag_in, flag_set, flag_cleared, flags_read}
use Rattle.root_plain.proofs.RootSteps.{behind, behind_at, first, name_is, caught}
use Rattle.root_plain.proofs.RootActs.{acts}
use Rattle.root_plain.proofs.FlagBits.{with_bit_is, without_bit_is, one_bit, one_hole}

-- what is done to the flags in a word, as a call tells it: the act, the flags afterwards, and the word
record IsTurn (about : About) (act : ℕ → Act) (value : ℕ → ℕ) (turned : ℕ → ℕ) : Type 0 where
  few : (flags : ℕ) → flags < 2 ^ about.flags → value flags < 2 ^ about.flags
  word : (flags pair : ℕ) → flags < 2 ^ about.flags → IsPair (root_buckets about) pair → turned (word_of about.width flags pair) ≡ word_of about.width (value flags) pair
  old_one : (flags : ℕ) → is_fresh (act flags) ≡ false
  after : (flags : ℕ) → flags_after (act flags) (Some flags) ≡ Some (value flags)
  allowed : (h : History) (u : Vector) (i flags : ℕ) → name_of h u ≡ Some i → flags_of h u ≡ Some flags → legal.Allows about.flags h u i (act flags)

set_turn : (about : About) → IsPlain about → (b : ℕ) → b < about.flags
    → IsTurn about (λ f. Set b (not (has_bit f b))) (λ f. with_bit f b) (λ n. bit_or n (2 ^ (2 * about.width + b)))
set_turn about is b low = record {
  few = λ f h. subst (λ (m : ℕ). m < 2 ^ about.flags) (with_bit_is f b) (or_lt about.flags f (2 ^ b) h (pow_below b about.flags low));
  word = λ f pair h p. sets_flag_of about.width about.flags b f pair is.range.layout low h p ∙ ap (λ (m : ℕ). word_of about.width m pair) (with_bit_is f b);
  old_one = λ f. refl;
  after = λ f. refl;
  allowed = λ h u i f name flags. (name, low, (f, flags, refl));
}

clear_turn : (about : About) → IsPlain about → (b : ℕ) → b < about.flags
    → IsTurn about (λ f. Clear b (has_bit f b)) (λ f. without_bit f b) (λ n. bit_and n (bit_not w64 (2 ^ (2 * about.width + b))))
clear_turn about is b low = record {
  few = λ f h. subst (λ (m : ℕ). m < 2 ^ about.flags) (without_bit_is f b) (omega (arith, h));
  word = λ f pair h p. clears_flag_of about.width about.flags b f pair is.range.layout low h p ∙ ap (λ (m : ℕ). word_of about.width m pair) (without_bit_is f b);
  old_one = λ f. refl;
  after = λ f. refl;
  allowed = λ h u i f name flags. (name, low, (f, flags, refl));
}

look_turn : (about : About) → IsTurn about (λ f. Look f) (λ f. f) (λ n. n)
look_turn about = record {
  few = λ f h. h;
  word = λ f pair h p. refl;
  old_one = λ f. refl;
  after = λ f. refl;
  allowed = λ h u i f name flags. (name, flags);
}

abbrev V : Type 0
V = View Roots

module _ (S : Type 0) (about : About) where
  abbrev Rule : State S V → Type 0
  Rule = StoreRule about (plain.roots about) (Plain about)

  -- the word of a vector that the view has seen named: after the step the rule holds, and the view made the call
  turns : (id : ℕ) (me : Me S V) (i word : ℕ) (u : Vector) (act : ℕ → Act) (value turned : ℕ → ℕ) → IsTurn about act value turned → me.0.live ≡ true → me.0.about ≡ about → first S about + i ≡ word
      → name_of me.0.seen u ≡ Some i → (s : State S V) → Rule s → get_elem? s.views id ≡ some me.0
      → (w : V) × Rule record { words = set s.words word (turned (get_or s.words word 0)); homes = s.homes; views = set s.views id w } × Leaves me (w, me.1)
      × DoesTo (act (flag_bits about.width about.flags (get_or s.words word 0))) (word - first_root me.0.about) me.0 w
  turns id me i word u act value turned t live about_is is named s r e =
      let n = get_or s.words word 0 in
      let front = (r.each id me.0 e).seen in
      let kept : (c : Vector) (j : ℕ) → name_of me.0.seen c ≡ Some j → name_of r.log c ≡ Some j = λ c j m. keeps-names about.flags me.0.seen r.log r.legal front c j m in
      let name : name_of r.log u ≡ Some i = kept u i named in
      let k = name_is S about s r id me.0 e live u i name in
      let found : root_at (behind S about s.words) i ≡ n = behind_at S about s.words i ∙ ap (λ (m : ℕ). get_or s.words m 0) is in
      let n_is : n ≡ word_of about.width k.flags k.pair = sym found ∙ k.holds.word_is in
      let parts = has_parts about.width about.flags k.flags k.pair r.rooted.is_about.range.layout k.holds.few k.holds.is_pair in
      let flags_are : k.flags ≡ flag_bits about.width about.flags n = sym (ap (flag_bits about.width about.flags) n_is ∙ parts.flags_are) in
      let new : turned n ≡ word_of about.width (value k.flags) k.pair = ap turned n_is ∙ t.word k.flags k.pair k.holds.few k.holds.is_pair in
      let done = acts S about s r id me.0 e live i word u is name (act k.flags) (value k.flags) (t.old_one k.flags) (t.few k.flags k.holds.few) (t.after k.flags) (t.allowed r.log u i k.flags name k.flags_are) in
      let w = caught S about s r id me.0 e live (deed me.0.number (act k.flags) u i ∷ []) in
      let d : i ≡ word - first_root me.0.about = subst (λ (y : About). i ≡ word - first_root y) (sym about_is) (omega (arith, is)) in (
        w,
        subst (λ (m : ℕ). Rule record { words = set s.words word m; homes = s.homes; views = set s.views id w }) (sym new) done.0,
        record { slots_stay = refl; busy_stays = refl; no_olds = refl },
        λ c cn.
            let one : u ≡ c = names-differ about.flags r.log r.legal u c i name (kept c (word - first_root me.0.about) cn ∙ ap Some (sym d)) in
            subst (λ (q : ℕ × Vector × ℕ). Caught plain (deed me.0.number (act q.0) q.1 q.2 ∷ []) me.0 w) (λ j. (flags_are j, one j, d j)) done.1,
      )

  module _ (slots id : ℕ) (me : Me S V) (i word : ℕ) (u : Vector) (live : me.0.live ≡ true) (about_is : me.0.about ≡ about) (is : first S about + i ≡ word) (named : name_of me.0.seen u ≡ Some i) (plain_is : IsPlain about) where
    -- as the call tells it, by what the view's table is about
    retold : (act : About → ℕ → Act) (n : ℕ) (w : V) → DoesTo (act about n) (word - first_root me.0.about) me.0 w → DoesTo (act me.0.about n) (word - first_root me.0.about) me.0 w
    retold act n w h = subst (λ (y : About). DoesTo (act y n) (word - first_root me.0.about) me.0 w) (sym about_is) h

    pub sets : (b new : ℕ) → b < about.flags → new ≡ 2 ^ (2 * about.width + b) → Allows Rule slots id me word (λ n. bit_or n new) (flag_set (step slots word new 0 none) me)
    sets b new low new_is = subst (λ (m : ℕ). Allows Rule slots id me word (λ n. bit_or n m) (flag_set (step slots word m 0 none) me)) (sym new_is)
        (λ s r sl e below.
        let t = turns id me i word u (λ f. Set b (not (has_bit f b))) (λ f. with_bit f b) (λ n. bit_or n (2 ^ (2 * about.width + b))) (set_turn about plain_is b low) live about_is is named s r e in (
          t.0,
          keeps,
          tt,
          t.1,
          (
            t.2,
            λ c few mask.
                let wide : 2 ^ (2 * about.width + b) ≡ 2 ^ (2 * about.width + c) = subst (λ (y : About). 2 ^ (2 * about.width + b) ≡ 2 ^ (2 * y.width + c)) about_is mask in
                let one : b ≡ c = let z = one_bit (2 * about.width + b) (2 * about.width + c) wide in omega (arith, z) in
                subst (λ (m : ℕ). DoesTo (Set m (not (flag_in me.0.about.width me.0.about.flags (get_or s.words word 0) m))) (word - first_root me.0.about) me.0 t.0) one
                (retold (λ y n. Set b (not (flag_in y.width y.flags n b))) (get_or s.words word 0) t.0 t.3),
          ),
        ))

    pub clears : (b new : ℕ) → b < about.flags → new ≡ bit_not w64 (2 ^ (2 * about.width + b)) → Allows Rule slots id me word (λ n. bit_and n new) (flag_cleared (step slots word new 0 none) me)
    clears b new low new_is = subst (λ (m : ℕ). Allows Rule slots id me word (λ n. bit_and n m) (flag_cleared (step slots word m 0 none) me)) (sym new_is)
        (λ s r sl e below.
        let t = turns id me i word u (λ f. Clear b (has_bit f b)) (λ f. without_bit f b) (λ n. bit_and n (bit_not w64 (2 ^ (2 * about.width + b)))) (clear_turn about plain_is b low) live about_is is named s r e in (
          t.0,
          keeps,
          tt,
          t.1,
          (
            t.2,
            λ c few mask.
                let layout = plain_is.range.layout in
                let few_here : c < about.flags = subst (λ (y : About). c < y.flags) about_is few in
                let wide : bit_not w64 (2 ^ (2 * about.width + b)) ≡ bit_not w64 (2 ^ (2 * about.width + c)) = subst (λ (y : About). bit_not w64 (2 ^ (2 * about.width + b)) ≡ bit_not w64 (2 ^ (2 * y.width + c))) about_is mask in
                let one : b ≡ c = let z = one_hole (2 * about.width + b) (2 * about.width + c) (omega (arith, layout, low)) (omega (arith, layout, few_here)) wide in omega (arith, z) in
                subst (λ (m : ℕ). DoesTo (Clear m (flag_in me.0.about.width me.0.about.flags (get_or s.words word 0) m)) (word - first_root me.0.about) me.0 t.0) one
                (retold (λ y n. Clear b (flag_in y.width y.flags n b)) (get_or s.words word 0) t.0 t.3),
          ),
        ))

    pub reads : Allows Rule slots id me word (λ n. n) (flags_read (step slots word 0 0 none) me)
    reads s r sl e below =
        let t = turns id me i word u (λ f. Look f) (λ f. f) (λ n. n) (look_turn about) live about_is is named s r e in
        (t.0, keeps, tt, t.1, (t.2, retold (λ y n. Look (flag_bits y.width y.flags n)) (get_or s.words word 0) t.0 t.3))
