-- The pass over the slots that marks the changed set.
use Rattle.std.proofs.Common.{◌≡◌, ◌⊎◌, ℕ, zero, suc, ◌+◌, ◌-◌, ◌/◌, ◌^◌, ◌<◌, ◌≤◌, Bool, false, cond, List, length, map, get_or, inl, inr, refl, sym, ap, ◌∙◌, subst, ⊎_elim, arith}
use Rattle.std.specs.List.{range_with_len}
use Rattle.std.proofs.lemmas.Nat.{shr_le, pow-add}
use Rattle.std.proofs.lemmas.Bool.{cases_lt}
use Rattle.std.proofs.lemmas.Bool.Decides.{same_from_decides}
use Rattle.std.proofs.lemmas.List.Folds.{fold-map}
use Rattle.std.proofs.lemmas.List.FromFn.{fill_by_all}
use Rattle.tree_shape.specs.Positions.{IsAbove, IsDepth}
use Rattle.tree_shape.specs.Changed.{DiffersAt, AreSame, IsChanged, is_changed, changed_count, IsMarked, marked_count}
use Rattle.tree_shape.proofs.Places.{halved_before, halved_after}
use Rattle.tree_shape.proofs.Sets.{changed_tested}

-- some slot before the slot `done` differs, and p is above its pair, or is its pair's position
abbrev pub SeenBelow : ℕ → List ℕ → List ℕ → ℕ → ℕ → Type 0
SeenBelow k u v done p = (j : ℕ) × (j < done) × DiffersAt u v j × IsAbove p ((k + j) / 2)

abbrev pub Seen : ℕ → List ℕ → List ℕ → ℕ → ℕ → Type 0
Seen k u v done p = (2 ≤ p) × SeenBelow k u v done p

abbrev pub DiffersOnlyAt : ℕ → List ℕ → List ℕ → ℕ → Type 0
DiffersOnlyAt k u v j = (i : ℕ) → i < k → DiffersAt u v i → i ≡ j

-- the slots before `done` are passed
pub record Passed (k : ℕ) (u v : List ℕ) (done : ℕ) (marks : List Bool) (count : ℕ) : Type 0 where
  pub marked : (p : ℕ) → IsMarked marks p → Seen k u v done p
  pub every : (p : ℕ) → Seen k u v done p → IsMarked marks p
  pub counted : count ≡ marked_count marks
  pub none_yet : (j : ℕ) → DiffersOnlyAt k u v j → done ≤ j → count ≡ 0
  pub few : (j d : ℕ) → IsDepth k d → DiffersOnlyAt k u v j → count ≤ d - 1

pub passes_begin : (k : ℕ) (u v : List ℕ) (marks : List Bool) → ((p : ℕ) → IsMarked marks p → ⊥) → marked_count marks ≡ 0 → Passed k u v 0 marks 0
passes_begin k u v marks none zero_count = record {
  marked = λ p h. absurd (none p h);
  every = λ p h. let never = h.1.1 in absurd (omega arith);
  counted = sym zero_count;
  none_yet = λ j only h. refl;
  few = λ j d depth only. omega arith;
}

module _ (k : ℕ) (u v : List ℕ) (done : ℕ) (marks : List Bool) (count : ℕ) (s : Passed k u v done marks count) where
  pub upwards : (p : ℕ) → IsMarked marks p → 2 ≤ p / 2 → IsMarked marks (p / 2)
  upwards p h big =
      let t = (s.marked p h).1 in
      s.every (p / 2) (big, (t.0, t.1, t.2, (suc t.3.0, sym (halved_after ((k + t.0) / 2) t.3.0) ∙ ap (λ m. m / 2) t.3.1)))

  -- slots that are all the same in both
  pub passes_all_same : (end : ℕ) → done ≤ end → AreSame u v done end → Passed k u v end marks count
  passes_all_same end le same = record {
    marked = λ p h. let t = s.marked p h in (t.0, (t.1.0, omega (arith, t.1.1), t.1.2, t.1.3));
    every = λ p h. ⊎_elim
        (λ (before : h.1.0 < done). s.every p (h.0, (h.1.0, before, h.1.2, h.1.3)))
        (λ (later : done ≤ h.1.0). absurd (h.1.2 (same h.1.0 later h.1.1)))
        (cases_lt h.1.0 done);
    counted = s.counted;
    none_yet = λ j only later. s.none_yet j only (omega (arith, le, later));
    few = s.few;
  }

  -- a slot that differs
  pub passes_other : (more : List Bool) (added : ℕ) → done < k → DiffersAt u v done
      → ((p : ℕ) → (IsMarked more p → IsMarked marks p ⊎ ((2 ≤ p) × IsAbove p ((k + done) / 2))) × (IsMarked marks p ⊎ ((2 ≤ p) × IsAbove p ((k + done) / 2)) → IsMarked more p))
      → marked_count more ≡ marked_count marks + added → ((d : ℕ) → k + done < 2 ^ (d + 1) → added ≤ d - 1) → Passed k u v (done + 1) more (count + added)
  passes_other more added lt other gains counts few = record {
    marked = λ p h. ⊎_elim
        (λ (old : IsMarked marks p). let t = s.marked p old in let x : Seen k u v (done + 1) p = (t.0, (t.1.0, omega (arith, t.1.1), t.1.2, t.1.3)) in x)
        (λ (above : (2 ≤ p) × IsAbove p ((k + done) / 2)). let x : Seen k u v (done + 1) p = (above.0, (done, omega arith, other, above.1)) in x)
        ((gains p).0 h);
    every = λ p h. (gains p).1 (⊎_elim
        (λ (before : h.1.0 < done). inl (s.every p (h.0, (h.1.0, before, h.1.2, h.1.3))))
        (λ (last : done ≤ h.1.0). let here : h.1.0 ≡ done = omega (arith, h.1.1) in inr (h.0, subst (λ (j : ℕ). IsAbove p ((k + j) / 2)) here h.1.3))
        (cases_lt h.1.0 done));
    counted = omega (arith, s.counted);
    none_yet = λ j only le. absurd (omega (arith, only done lt other));
    few = λ j d depth only.
        let none = s.none_yet j only (omega (arith, only done lt other)) in
        let power = pow-add 2 d 1 in
        let least = few d (omega (arith, depth.0)) in
        omega arith;
  }

module _ (k : ℕ) (u v : List ℕ) (marks : List Bool) (count : ℕ) (s : Passed k u v k marks count) where
  to_changed : (p : ℕ) → Seen k u v k p → IsChanged k u v p
  to_changed p h =
      let less = shr_le ((k + h.1.0) / 2) h.1.3.0 in
      (h.0, omega (arith, h.1.1, h.1.3.1), (h.1.0, h.1.1, h.1.2, (suc h.1.3.0, sym (halved_before (k + h.1.0) h.1.3.0) ∙ h.1.3.1)))

  from_above : (p q : ℕ) → p < q → IsAbove p q → IsAbove p (q / 2)
  from_above p q lt (zero, e) = absurd (omega arith)
  from_above p q lt (suc n, e) = (n, halved_before q n ∙ e)

  to_seen : (p : ℕ) → IsChanged k u v p → Seen k u v k p
  to_seen p h = (h.0, (h.2.0, h.2.1, h.2.2, from_above p (k + h.2.0) (omega (arith, h.1)) h.2.3))

  pub passed_marks : (p : ℕ) → (IsMarked marks p → IsChanged k u v p) × (IsChanged k u v p → IsMarked marks p)
  passed_marks p = (λ h. to_changed p (s.marked p h), λ h. s.every p (to_seen p h))

  passed_mark : (p : ℕ) → get_or marks p false ≡ is_changed k u v p
  passed_mark p = same_from_decides (get_or marks p false) (is_changed k u v p) (passed_marks p) (changed_tested k u v p)

  pub passed_count : length marks ≡ k → count ≡ changed_count k u v
  unfolding changed_count
  passed_count long =
      let all : marks ≡ map (is_changed k u v) (range_with_len 0 k) = fill_by_all (is_changed k u v) marks k false long (λ p lt. passed_mark p) in
      s.counted ∙ ap (λ (ms : List Bool). marked_count ms) all ∙ fold-map (λ (n : ℕ) (mark : Bool). n + cond mark 1 0) (is_changed k u v) 0 (range_with_len 0 k)
