-- The buckets of a line, and what a load of one tells.
use Rattle.std.proofs.Common.{◌≡◌, ◌≢◌, ℕ, ◌+◌, ◌*◌, ◌-◌, ◌%◌, ◌^◌, ◌<◌, ◌≤◌, sym, ap, ◌∙◌, subst, ⊎_elim, arith, Option, Some, None}
use Rattle.std.specs.Prelude.{MatchOption}
use Rattle.std.proofs.lemmas.Nat.{mod_low}
use Rattle.packed_word.specs.Word.{pair_of, left_of, right_of}
use Rattle.packed_word.proofs.Parts.{split_power, kept_pair}
use Rattle.tree_shape.specs.Tree.{Has}
use Rattle.probe_path.specs.Path.{Course, bucket_at, walked_lines}
use Rattle.pair_rule.specs.declared.view.View.{View}
use Rattle.pair_rule.specs.declared.sizes.About.{About}
use Rattle.pair_rule.specs.View.{node_word, learned, begun}
use Rattle.pair_rule.specs.Paths.{node_buckets, size, bucket, reach, IsPair, Passed, Listed}
use Rattle.pair_rule.specs.Plays.{IsWord}
use Rattle.pair_nodes.specs.Probe.{pair_of_word, course_of, HasPassed}
use Rattle.pair_nodes.proofs.Views.{shown_has, shown_grown, passed_more}

-- what each answer tells, told in other words
pub told_as : {A : Type 0} (o : Option A) (P P' : Type 0) (Q Q' : A → Type 0) → (P → P') → ((a : A) → Q a → Q' a) → MatchOption o P Q → MatchOption o P' Q'
told_as None P P' Q Q' f g h = f h
told_as (Some a) P P' Q Q' f g h = g a h

pub line_inside : (about : About) (word at : ℕ) (course : Course) → course ≡ course_of about word → at < 2 ^ course.d → at < size (node_buckets about)
unfolding size
line_inside about word at course is below = subst (λ (c : Course). at < 2 ^ c.d) is below

pub line_bucket : (about : About) (width word step at : ℕ) (course : Course) → about.width ≡ width → course ≡ course_of about word → at ≡ bucket_at width course.d course.pair step → bucket (node_buckets about) (pair_of_word word) step ≡ at
unfolding bucket
line_bucket about width word step at course same is lies =
    ap (λ (w : ℕ). bucket_at w about.sizes.nodes (pair_of_word word) step) same ∙ (ap (λ (c : Course). bucket_at width c.d c.pair step) (sym is) ∙ sym lies)

pub line_near : (about : About) (word passed i : ℕ) (course : Course) → course ≡ course_of about word → passed < course.lines → i < 8 → 8 * passed + i < reach (node_buckets about)
unfolding reach
line_near about word passed i course is near small =
    let lines : passed < walked_lines about.sizes.nodes about.sizes.probe = subst (λ (c : Course). passed < c.lines) is near in
    omega arith

-- all lines have been walked
pub reach_walked : (about : About) (lines : ℕ) → walked_lines about.sizes.nodes about.sizes.probe ≤ lines → reach (node_buckets about) ≤ 8 * lines
unfolding reach
reach_walked about lines all = omega arith

-- what has been passed of a word's pair, of the pair's parts
pub passed_parts : {T : Type 0} (about : About) (v : View T) (word pair n : ℕ) → v.about ≡ about → pair_of_word word ≡ pair → HasPassed v (pair_of_word word) n → Passed (node_buckets about) (Listed v.known) pair n
passed_parts about v word pair n is same passed = subst (λ (a : About). Passed (node_buckets a) (Listed v.known) pair n) is (subst (λ (p : ℕ). Passed (node_buckets v.about) (Listed v.known) p n) same passed)

module _ {T : Type 0} where
  pub load_found : (about : About) (v w : View T) (at found : ℕ) → w ≡ learned at found v → IsWord about found → found ≢ 0 → Has (at, pair_of_word found) w.known
  load_found about v w at found is word used = subst (λ (u : View T). Has (at, pair_of_word found) u.known) (sym is) (⊎_elim
      (λ (z : found ≡ 0). absurd (used z))
      (λ (t : (x : ℕ) × (found ≡ node_word x) × IsPair (node_buckets about) x). shown_has at found (pair_of_word found) v.probes v.probing v (let b = t.1 in omega arith))
      word)

  pub begin_found : (about : About) (v w : View T) (at found : ℕ) → w ≡ begun at found v → IsWord about found → found ≢ 0 → Has (at, pair_of_word found) w.known
  begin_found about v w at found is word used = subst (λ (u : View T). Has (at, pair_of_word found) u.known) (sym is) (⊎_elim
      (λ (z : found ≡ 0). absurd (used z))
      (λ (t : (x : ℕ) × (found ≡ node_word x) × IsPair (node_buckets about) x). shown_has at found (pair_of_word found) v.probes v.probing v (let b = t.1 in omega arith))
      word)

  pub load_passed : (about : About) (v w : View T) (at found pair n : ℕ) → w ≡ learned at found v → IsWord about found → HasPassed v pair n → HasPassed w pair n
  load_passed about v w at found pair n is word passed = subst (λ (u : View T). HasPassed u pair n) (sym is) (passed_more v (learned at found v) pair n (shown_grown about at found v.probes v.probing v word) passed)

-- the parts of a node's word are those of its pair
pub pair_of_parts : (width word pair left right : ℕ) → width ≤ 31 → word ≡ node_word pair → pair < 2 ^ (2 * width) → left ≡ left_of width word → right ≡ right_of width word → pair_of width left right ≡ pair
pair_of_parts width word pair left right narrow is small l r =
    let high : 2 ^ 63 ≡ 2 ^ (63 - 2 * width) * 2 ^ (2 * width) = split_power 63 (63 - 2 * width) (2 * width) (omega arith) in
    let laid : word ≡ 2 ^ (63 - 2 * width) * 2 ^ (2 * width) + pair = is ∙ ap (λ (n : ℕ). n + pair) high in
    (λ i. pair_of width (l i) (r i)) ∙ (sym (kept_pair width word) ∙ (ap (λ (n : ℕ). n % 2 ^ (2 * width)) laid ∙ mod_low (2 ^ (63 - 2 * width)) (2 * width) pair small))
