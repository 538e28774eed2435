-- Walks along a root pair's path: what one look after another tells.
use Rattle.std.proofs.Common.{◌≡◌, ◌≢◌, ◌⊎◌, ℕ, ◌+◌, ◌-◌, ◌*◌, ◌/◌, ◌%◌, ◌^◌, ◌<◌, ◌≤◌, [], Bool, false, refl, sym, ap, ◌∙◌, subst, ⊎_elim, eq-eqb, ne_eqb, arith, append-nil, Some}
use mathlib.Core.Logic.{dite}
use native.Mathlib.Decide.{ℕ_discrete}
use Rattle.std.proofs.lemmas.Nat.{shr_split, pow_pos}
use Rattle.tree_shape.specs.Tree.{Has}
use Rattle.tdb_base.specs.History.{Vector, History, name_of}
use Rattle.tdb_base.specs.Legal.{Extends}
use Rattle.tdb_base.proofs.NameLemmas.{keeps-names}
use Rattle.packed_word.specs.Word.{IsPresent, left_of, right_of, pair_of, word_of}
use Rattle.packed_word.proofs.Numbers.{has_parts}
use Rattle.pair_rule.specs.declared.view.View.{View}
use Rattle.probe_path.specs.Path.{Course, Progress, bucket_at, walked_lines, path_length}
use Rattle.pair_rule.specs.declared.sizes.Sizes.{Sizes}
use Rattle.pair_rule.specs.declared.sizes.About.{About}
use Rattle.pair_rule.specs.declared.pass.PassOf.{PassOf}
use Rattle.std.specs.Int.{bit_at}
use Rattle.pair_rule.specs.View.{node_word}
use Rattle.pair_rule.specs.Paths.{Buckets, root_buckets, size, bucket, reach, Passed, Listed}
use Rattle.pair_rule.specs.Rest.{AtRest, view}
use Rattle.pair_rule.proofs.Catches.{caught_then}
use Rattle.root_plain.specs.declared.root.Roots.{Roots}
use Rattle.root_plain.specs.declared.plays.Wanted.TheVariants.{Pair, Each, Nothing}
use Rattle.root_plain.specs.Plain.{IsPlain, HoldsRoot, IsRoot}
use Rattle.pair_rule.specs.Part.{Store}
use Rattle.pair_rule.specs.Calls.{IsNoName, Called}
use Rattle.pair_rule.specs.Plays.{Caught}
use Rattle.pair_rule.proofs.Calling.{caught_still, called_then}
use Rattle.root_plain.specs.Plain.{plain}
use Rattle.pair_nodes.proofs.PassLaws.{roots_naming}
use Rattle.root_plain.specs.Plays.{wants, Shows}
use Rattle.root_plain.specs.Probe.{HasOther, Passes, Along}

abbrev V : Type 0
V = View Roots

pub caught_again : (more : History) (v u w : V) → Caught plain [] v u → Caught plain more u w → Caught plain more v w
caught_again more v u w a b = caught_then plain more v u w a b

pub shows_then : (wanted : ℕ → Bool) (id n : ℕ) (v u w : V) → Caught plain [] v u → Shows wanted id n u w → Shows wanted id n v w
shows_then wanted id n v u w a s =
    let theirs : (x f : ℕ) → HoldsRoot v.about n x f → HoldsRoot u.about n x f = λ x f h. subst (λ (y : About). HoldsRoot y n x f) (sym a.about) h in
    record {
      word = subst (λ (y : About). (n ≡ 0) ⊎ ((pair : ℕ) × IsRoot y n pair)) a.about s.word;
      empty = λ z. (caught_again [] v u w a (s.empty z).0, (s.empty z).1);
      pair = λ x f h. s.pair x f (theirs x f h);
      other = λ x h refused. caught_again [] v u w a (s.other x (h.0, theirs x h.0 h.1) refused);
      found = λ x h agreed. called_then plain false id x v u w a (s.found x (h.0, theirs x h.0 h.1) agreed);
    }

pub passed_more : (b : Buckets) (pair count : ℕ) (v w : V) → Caught plain [] v w → Passed b (Listed v.root.roots) pair count → Passed b (Listed w.root.roots) pair count
passed_more b pair count v w k p step lt = let q = p step lt in (q.0, k.roots_stay (bucket b pair step) q.0 q.1, q.2)

pub passed_on : (about : About) (pair count at : ℕ) (u v w : V) → bucket (root_buckets about) pair count ≡ at → Passes about pair count u v → Caught plain [] v w → HasOther at pair w → Passes about pair (count + 1) u w
passed_on about pair count at u v w lies p k other = record {
  caught = caught_again [] u v w p.caught k;
  passed = λ step lt. dite (ℕ_discrete step count)
      (λ z. subst (λ (m : ℕ). (y : ℕ) × Has (bucket (root_buckets about) pair m, y) w.root.roots × (y ≢ pair)) (sym z) (subst (λ (m : ℕ). (y : ℕ) × Has (m, y) w.root.roots × (y ≢ pair)) (sym lies) other))
      (λ n. passed_more (root_buckets about) pair count v w k p.passed step (omega arith));
}

-- a word has the parts of its pair
module _ (about : About) (width n : ℕ) (is : IsPlain about) (wide : about.width ≡ width) where
  parts_of : (x : ℕ) → IsRoot about n x → IsPresent n × (left_of width n ≡ x / 2 ^ width) × (right_of width n ≡ x % 2 ^ width)
  parts_of x h =
      let p = has_parts about.width about.flags h.0 x is.range.layout h.1.few h.1.is_pair in
      let q : IsPresent (word_of about.width h.0 x) × (left_of width (word_of about.width h.0 x) ≡ x / 2 ^ width) × (right_of width (word_of about.width h.0 x) ≡ x % 2 ^ width) =
      subst (λ (m : ℕ). IsPresent (word_of about.width h.0 x) × (left_of m (word_of about.width h.0 x) ≡ x / 2 ^ m) × (right_of m (word_of about.width h.0 x) ≡ x % 2 ^ m)) wide (p.present, p.left, p.right) in
      subst (λ (m : ℕ). IsPresent m × (left_of width m ≡ x / 2 ^ width) × (right_of width m ≡ x % 2 ^ width)) (sym h.1.word_is) q

  pub pair_read : (x : ℕ) → IsRoot about n x → pair_of width (left_of width n) (right_of width n) ≡ x
  pair_read x h = let p = parts_of x h in (λ i. pair_of width (p.1 i) (p.2 i)) ∙ shr_split x width

  -- a word without its flags is the node's word of its pair
  pub flagless : (x r : ℕ) → IsRoot about n x → r ≡ bit_at n 63 * 2 ^ 63 + pair_of width (left_of width n) (right_of width n) → r ≡ node_word x
  flagless x r h is =
      let p = (parts_of x h).0 in
      let pair = pair_read x h in
      let whole : bit_at n 63 * 2 ^ 63 + pair_of width (left_of width n) (right_of width n) ≡ 1 * 2 ^ 63 + x = λ i. p i * 2 ^ 63 + pair i in
      is ∙ (whole ∙ (omega arith))

-- a word of another pair, and one of this pair
pub shows_other : (pair at n : ℕ) (v w : V) → Shows (wants (Pair pair)) at n v w → n ≢ 0 → (IsRoot v.about n pair → ⊥) → Caught plain [] v w × HasOther at pair w
shows_other pair at n v w s used never = ⊎_elim
    (λ (z : n ≡ 0). absurd (used z))
    (λ (t : (x : ℕ) × IsRoot v.about n x).
    let differs : t.0 ≢ pair = λ z. never (subst (IsRoot v.about n) z t.1) in
    (s.other t.0 t.1 (ne_eqb t.0 pair differs), (t.0, (s.pair t.0 t.1.0 t.1.1).0, differs)))
    s.word

pub shows_pair : (pair at n : ℕ) (v w : V) → Shows (wants (Pair pair)) at n v w → n ≢ 0 → ((x : ℕ) → IsRoot v.about n x → x ≡ pair) → Called plain false at pair v w
shows_pair pair at n v w s used only = ⊎_elim
    (λ (z : n ≡ 0). absurd (used z))
    (λ (t : (x : ℕ) × IsRoot v.about n x). subst (λ (x : ℕ). Called plain false at x v w) (only t.0 t.1) (s.found t.0 t.1 (eq-eqb t.0 pair (only t.0 t.1))))
    s.word

-- at the start of a walk, and as a walk goes on from a front of the path
pub passes_none : (store : Store) (p : PassOf Roots) (pair : ℕ) → AtRest plain store p → Passes store.about pair 0 (view p) (view p)
passes_none store p pair r = record { caught = caught_still plain store p r; passed = λ step lt. absurd (omega arith) }

pub passes_from : (store : Store) (p : PassOf Roots) (pair count : ℕ) → AtRest plain store p → Passed (root_buckets store.about) (Listed (view p).root.roots) pair count → Passes store.about pair count (view p) (view p)
passes_from store p pair count r passed = record { caught = caught_still plain store p r; passed = passed }

pub passes_then : (about : About) (pair n m : ℕ) (u v w : V) → Passes about pair n u v → Passes about pair m v w → Passes about pair m u w
passes_then about pair n m u v w a b = record { caught = caught_again [] u v w a.caught b.caught; passed = b.passed }

-- the bucket of a step, where the walk's course is the pair's
pub bucket_is : (about : About) (width pair step at : ℕ) (course : Course) → about.width ≡ width → Along about pair course → at ≡ bucket_at width course.d course.pair step → bucket (root_buckets about) pair step ≡ at
unfolding bucket
bucket_is about width pair step at course wide a is = sym (is ∙ (λ i. bucket_at (sym wide i) (a.table_is i) (a.pair_is i) step))

pub bucket_within : (about : About) (at : ℕ) (course : Course) (pair : ℕ) → Along about pair course → at < 2 ^ course.d → at < size (root_buckets about)
unfolding size
bucket_within about at course pair a lt = subst (λ (d : ℕ). at < 2 ^ d) a.table_is lt

pub along_path : (about : About) (sizes : Sizes) (pair : ℕ) → sizes ≡ about.sizes → Along about pair (record { pair = pair; d = sizes.roots; lines = walked_lines sizes.roots sizes.probe })
unfolding reach
along_path about sizes pair same = record { pair_is = refl; table_is = ap (λ (z : Sizes). z.roots) same; all = ap (λ (z : Sizes). path_length z.roots z.probe) same }

-- an identifier that is no bucket is no name
pub no_bucket : (store : Store) (p : PassOf Roots) (id : ℕ) → AtRest plain store p → 2 ^ store.about.sizes.roots ≤ id → IsNoName id (view p).seen
unfolding size
no_bucket store p id r past u n =
    let k = r.seat.sound.named.each u id n in
    let l = (r.seat.sound.root_sound.lies id k.0 k.1).inside in
    let most = subst (λ (y : About). 2 ^ y.sizes.roots ≤ id) (sym r.seat.about_is) past in
    omega (arith, l, most)

pub bucket_of_id : (about : About) (id : ℕ) → id < 2 ^ about.sizes.roots → id < size (root_buckets about)
unfolding size
bucket_of_id about id lt = lt

-- the identifier of a name is a bucket
pub name_bucket : (store : Store) (p : PassOf Roots) (id : ℕ) (u : Vector) → AtRest plain store p → name_of (view p).seen u ≡ Some id → id < size (root_buckets store.about)
name_bucket store p id u r n =
    let k = r.seat.sound.named.each u id n in
    subst (λ (y : About). id < size (root_buckets y)) r.seat.about_is (r.seat.sound.root_sound.lies id k.0 k.1).inside

-- what is found where every pair is wanted, by the parts of the word
pub shows_each : (about : About) (width id n : ℕ) (v w : V) → IsPlain about → about.width ≡ width → v.about ≡ about → Shows (wants Each) id n v w → n ≢ 0 → Called plain false id (pair_of width (left_of width n) (right_of width n)) v w
shows_each about width id n v w is wide about_is s used = ⊎_elim
    (λ (z : n ≡ 0). absurd (used z))
    (λ (t : (x : ℕ) × IsRoot v.about n x). subst (λ (x : ℕ). Called plain false id x v w) (sym (pair_read about width n is wide t.0 (subst (λ (y : About). IsRoot y n t.0) about_is t.1))) (s.found t.0 t.1 refl))
    s.word

-- a load at a name's bucket, where nothing is wanted
module _ (store : Store) (p q : PassOf Roots) (width id n : ℕ) (u : Vector) (rp : AtRest plain store p) (rq : AtRest plain store q) (wide : store.about.width ≡ width)
    (name : name_of (view p).seen u ≡ Some id) (s : Shows (wants Nothing) id n (view p) (view q)) where
  name_later : Caught plain [] (view p) (view q) → name_of (view q).seen u ≡ Some id
  name_later k =
      let whole : Extends (view p).seen (view q).seen = subst (λ (h : History). Extends (view p).seen h) (sym (k.seen ∙ append-nil k.log)) k.begins in
      keeps-names (view q).about.flags (view p).seen (view q).seen rq.seat.sound.legal whole u id name

  pub found_there : Caught plain [] (view p) (view q) × Has (id, pair_of width (left_of width n) (right_of width n)) (view p).root.roots
  found_there = ⊎_elim
      (λ (z : n ≡ 0). let e = s.empty z in absurd (e.1 u (name_later e.0)))
      (λ (t : (x : ℕ) × IsRoot (view p).about n x).
      let k = s.other t.0 t.1 refl in
      let had = rp.seat.sound.named.each u id name in
      let here = (s.pair t.0 t.1.0 t.1.1).0 in
      let same : had.0 ≡ t.0 = (roots_naming plain store q rq).one_pair id had.0 t.0 (k.roots_stay id had.0 had.1) here in
      let read = pair_read store.about width n (subst IsPlain rp.seat.about_is rp.seat.sound.root_sound.is_about) wide t.0 (subst (λ (y : About). IsRoot y n t.0) rp.seat.about_is t.1) in
      (k, subst (λ (x : ℕ). Has (id, x) (view p).root.roots) (same ∙ sym read) had.1))
      s.word

-- a walk on from a view that has caught up
pub passes_caught : (about : About) (pair count : ℕ) (u v w : V) → Caught plain [] u v → Passes about pair count v w → Passes about pair count u w
passes_caught about pair count u v w k p = record { caught = caught_again [] u v w k p.caught; passed = p.passed }

-- the first bucket of a pair's path, at which a walk begins
pub record IsFirst (about : About) (pair at : ℕ) (path : Course) (walk : Progress) : Type 0 where
  pub whole : Along about pair path
  pub along : Along about pair walk.course
  pub some_line : 0 < path.lines
  pub near : 0 < reach (root_buckets about)
  pub lies : bucket (root_buckets about) pair 0 ≡ at

some_lines : (d probe : ℕ) → 1 ≤ probe → 0 < walked_lines d probe
some_lines d probe least = let some = pow_pos (d - 3) in omega (arith, least, some)

pub first_of : (about : About) (width pair : ℕ) (sizes : Sizes) (path : Course) (walk : Progress) (at : ℕ) → about.width ≡ width → sizes ≡ about.sizes → 1 ≤ about.sizes.probe
    → path ≡ record { pair = pair; d = sizes.roots; lines = walked_lines sizes.roots sizes.probe } → walk ≡ record { course = path; passed = 0 }
    → at ≡ bucket_at width walk.course.d walk.course.pair (8 * walk.passed + 0) → IsFirst about pair at path walk
first_of about width pair sizes path walk at wide same least path_is walk_is is =
    let course = along_path about sizes pair same in
    let there : Along about pair path = subst (λ (c : Course). Along about pair c) (sym path_is) course in
    let here : Along about pair walk.course = subst (λ (c : Course). Along about pair c) (sym (ap (λ (w : Progress). w.course) walk_is)) there in
    let none : walk.passed ≡ 0 = ap (λ (w : Progress). w.passed) walk_is in
    let enough : 1 ≤ sizes.probe = subst (λ (s : Sizes). 1 ≤ s.probe) (sym same) least in
    let lines : 0 < path.lines = subst (λ (c : Course). 0 < c.lines) (sym path_is) (some_lines sizes.roots sizes.probe enough) in
    let all = there.all in
    record {
      whole = there;
      along = here;
      some_line = lines;
      near = omega (arith, all, lines);
      lies = bucket_is about width pair 0 at walk.course wide here (subst (λ (n : ℕ). at ≡ bucket_at width walk.course.d walk.course.pair n) (omega (arith, none)) is);
    }
