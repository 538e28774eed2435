-- How many positions are marked from one on, and counts that rise so often.
use Rattle.std.proofs.Common.{◌≡◌, ℕ, zero, suc, ◌+◌, ◌<◌, ◌≤◌, List, length, drop, get_or, Bool, true, false, cond, Option, refl, sym, ap, ◌∙◌, subst, arith}
use Rattle.std.specs.Prelude.{option_map, count_by, if◌then◌else◌}
use Rattle.std.proofs.Math.Seq.{drop-cons}
use Rattle.std.proofs.lemmas.List.Sums.{sum_by-cons}
use Rattle.tdb_base.specs.Fakes.{counted}
use Rattle.tree_shape.specs.Changed.{IsMarked, IsChanged, marked_count, changed_count}
use Rattle.tdb_base.specs.History.{Vector}
use Rattle.pair_rule.specs.declared.sizes.About.{About}
use Rattle.pair_rule.specs.declared.pass.PassOf.{PassOf}
use Rattle.pair_rule.specs.Rest.{view}
use Rattle.tree_store.specs.Vectors.{raised, mark_at, marks_from, compared, puts_after}

pub marks_step : (marks : List Bool) (p : ℕ) → p < length marks → marks_from p marks ≡ mark_at marks p + marks_from (p + 1) marks
marks_step marks p inside =
    ap (λ (l : List Bool). count_by (λ b. b) l) (drop-cons marks p false inside) ∙ (sum_by-cons (λ (b : Bool). cond b 1 0) (get_or marks p false) (drop (suc p) marks)
    ∙ (let e : suc p ≡ p + 1 = omega arith in ap (λ (n : ℕ). mark_at marks p + marks_from n marks) e))

-- fewer from a later position on
pub marks_later : (marks : List Bool) (n p q : ℕ) → q ≡ p + n → q ≤ length marks → marks_from q marks ≤ marks_from p marks
marks_later marks zero p q e le = let same : q ≡ p = omega arith in subst (λ (m : ℕ). marks_from q marks ≤ marks_from m marks) same (omega arith)
marks_later marks (suc n) p q e le =
    let rest = marks_later marks n (p + 1) q (omega arith) le in
    let step = marks_step marks p (omega arith) in
    omega (arith, rest, step)

pub raised_sum : (m n : ℕ) (count : Option ℕ) → raised m (raised n count) ≡ raised (m + n) count
raised_sum zero n count = let e : n ≡ 0 + n = omega arith in ap (λ (k : ℕ). raised k count) e
raised_sum (suc m) n count = ap (option_map counted) (raised_sum m n count) ∙ (let e : suc (m + n) ≡ suc m + n = omega arith in ap (λ (k : ℕ). raised k count) e)

pub raised_then : (n m : ℕ) (old now new : Option ℕ) → now ≡ raised n old → new ≡ raised m now → new ≡ raised (m + n) old
raised_then n m old now new p q = q ∙ (ap (raised m) p ∙ raised_sum m n old)

-- the first two positions are no inner ones
pub marks_inner : (marks : List Bool) → 2 ≤ length marks → mark_at marks 0 ≡ 0 → mark_at marks 1 ≡ 0 → marks_from 2 marks ≡ marked_count marks
marks_inner marks long first second =
    let a = marks_step marks 0 (omega arith) in
    let b = marks_step marks 1 (omega arith) in
    omega (arith, a, b, first, second)

pub unmarked : (marks : List Bool) (p : ℕ) → (IsMarked marks p → ⊥) → mark_at marks p ≡ 0
unmarked marks p bare = of (get_or marks p false) bare
  where
    of : (b : Bool) → (b ≡ true → ⊥) → ◌≡◌ {A = ℕ} (if b then 1 else 0) 0
    of true bare = absurd (bare refl)
    of false bare = refl

-- as many marks as the vector is compared to need puts
pub puts_marked : {T : Type 0} (about : About) (p : PassOf T) (v : Vector) (from_last : Bool) (marks : List Bool) → from_last ≡ true → p.has_last ≡ true → (view p).about ≡ about → 2 ≤ about.slots → length marks ≡ about.slots
    → ((position : ℕ) → IsMarked marks position → IsChanged about.slots (drop about.slots p.last_tree.items) v position) → marked_count marks ≡ changed_count about.slots (drop about.slots p.last_tree.items) v
    → puts_after about (compared from_last p) v ≡ marks_from 2 marks
puts_marked about p v from_last marks asked has is two long only count =
    let first = unmarked marks 0 (λ h. let c = only 0 h in absurd (omega (arith, c.0))) in
    let second = unmarked marks 1 (λ h. let c = only 1 h in absurd (omega (arith, c.0))) in
    let inner = marks_inner marks (omega (arith, two, long)) first second in
    let given : puts_after about (compared from_last p) v ≡ changed_count about.slots (drop (view p).about.slots p.last_tree.items) v = rw (asked, has) refl in
    given ∙ (ap (λ (a : About). changed_count about.slots (drop a.slots p.last_tree.items) v) is ∙ (sym count ∙ sym inner))
