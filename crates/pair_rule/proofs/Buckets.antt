-- Buckets that are each empty or have a pair, on that pair's path.
use Rattle.std.proofs.Common.{◌≡◌, ◌≢◌, ◌⊎◌, ℕ, ◌<◌, ◌≤◌, sym, ap, ◌∙◌, subst, inl, inr, ⊎_elim, arith}
use mathlib.Core.Logic.{dite}
use native.Mathlib.Decide.{ℕ_discrete, dec_lt}
use Rattle.probe_path.proofs.Buckets.{bucket_at-below}
use Rattle.pair_rule.specs.Paths.{Buckets, size, bucket, reach, IsPair, Passed}
use Rattle.pair_rule.specs.Rule.{InWords, HasPair, Filled}

pub bucket_below : (b : Buckets) (pair step : ℕ) → 3 ≤ b.d → bucket b pair step < size b
unfolding bucket size
bucket_below b pair step least = bucket_at-below b.width b.d pair least step

module _ (b : Buckets) (Reads : ℕ → ℕ → Type 0) (one : (n x y : ℕ) → Reads n x → Reads n y → x ≡ y) (used : (x : ℕ) → Reads 0 x → ⊥) where
  -- no word comes to have another pair, or loses one
  abbrev pub SamePairs : (ℕ → ℕ) → (ℕ → ℕ) → Type 0
  SamePairs w w' = (k : ℕ) → k < size b → (w k ≡ 0 → w' k ≡ 0) × ((x : ℕ) → Reads (w k) x → Reads (w' k) x)

  pub filled_same : (w w' : ℕ → ℕ) → 3 ≤ b.d → SamePairs w w' → Filled b Reads w → Filled b Reads w'
  filled_same w w' least same filled i inside = ⊎_elim
      (λ (z : w i ≡ 0). inl ((same i inside).0 z))
      (λ (t : (x : ℕ) × HasPair b Reads w i x). let o = t.1.on_path in inr (
        t.0,
        record {
          there = (same i inside).1 t.0 t.1.there;
          is_pair = t.1.is_pair;
          on_path = record {
            step = o.step;
            within = o.within;
            here = o.here;
            passed = λ m lt. let p = o.passed m lt in (p.0, (same (bucket b t.0 m) (bucket_below b t.0 m least)).1 p.0 p.1, p.2);
          };
        },
      ))
      (filled i inside)

  -- an empty bucket of a pair's path, whose earlier buckets have other pairs, is filled with it
  pub filled_put : (w w' : ℕ → ℕ) (i x j : ℕ) → Filled b Reads w → w i ≡ 0 → Reads (w' i) x → ((k : ℕ) → k ≢ i → w' k ≡ w k) → IsPair b x → j < reach b → bucket b x j ≡ i
      → Passed b (InWords Reads w) x j → Filled b Reads w'
  filled_put w w' i x j filled free here others small near lies passed k inside =
      let stay : (k y : ℕ) → Reads (w k) y → Reads (w' k) y = λ k y h. subst (λ (n : ℕ). Reads n y) (sym (others k (λ z. used y (subst (λ (n : ℕ). Reads n y) (ap w z ∙ free) h)))) h in
      let path : (y m k : ℕ) → Passed b (InWords Reads w) y m → Passed b (InWords Reads w') y m = λ y m k p l lt. let q = p l lt in (q.0, stay _ q.0 q.1, q.2) in
      dite (ℕ_discrete k i)
      (λ ki. subst (λ (m : ℕ). (w' m ≡ 0) ⊎ ((y : ℕ) × HasPair b Reads w' m y)) (sym ki)
      (inr (x, record { there = here; is_pair = small; on_path = record { step = j; within = near; here = lies; passed = path x j 0 passed } })))
      (λ kn. ⊎_elim
      (λ (z : w k ≡ 0). inl (others k kn ∙ z))
      (λ (t : (y : ℕ) × HasPair b Reads w k y). let o = t.1.on_path in inr (
        t.0,
        record {
          there = stay k t.0 t.1.there;
          is_pair = t.1.is_pair;
          on_path = record { step = o.step; within = o.within; here = o.here; passed = path t.0 o.step 0 o.passed };
        },
      ))
      (filled k inside))

  pub stands : (w : ℕ → ℕ) (i x : ℕ) → Filled b Reads w → i < size b → Reads (w i) x → HasPair b Reads w i x
  stands w i x filled inside h = ⊎_elim
      (λ (z : w i ≡ 0). absurd (used x (subst (λ (n : ℕ). Reads n x) z h)))
      (λ (t : (y : ℕ) × HasPair b Reads w i y). subst (HasPair b Reads w i) (one (w i) t.0 x t.1.there h) t.1)
      (filled i inside)

  -- a pair whose path has an empty bucket after others stands nowhere
  pub nowhere : (w : ℕ → ℕ) (i x j k : ℕ) → Filled b Reads w → k < size b → w i ≡ 0 → bucket b x j ≡ i → Passed b (InWords Reads w) x j → Reads (w k) x → ⊥
  nowhere w i x j k filled inside free lies passed h =
      let o = (stands w k x filled inside h).on_path in
      dite (dec_lt o.step j)
      (λ lt. let p = passed o.step lt in p.2 (one (w k) p.0 x (subst (λ (m : ℕ). Reads (w m) p.0) o.here p.1) h))
      (λ ge. dite (ℕ_discrete o.step j)
      (λ same. let at_i : i ≡ k = sym lies ∙ (ap (bucket b x) (sym same) ∙ o.here) in used x (subst (λ (n : ℕ). Reads n x) (ap w (sym at_i) ∙ free) h))
      (λ more. let p = o.passed j (omega arith) in used p.0 (subst (λ (n : ℕ). Reads n p.0) (ap w lies ∙ free) p.1)))

  -- a pair stands in one bucket
  pub one_bucket : (w : ℕ → ℕ) (i k x : ℕ) → HasPair b Reads w i x → HasPair b Reads w k x → i ≡ k
  one_bucket w i k x p q =
      let a = p.on_path in let c = q.on_path in
      dite (dec_lt a.step c.step)
      (λ lt. let other = c.passed a.step lt in absurd (other.2 (one (w i) other.0 x (subst (λ (m : ℕ). Reads (w m) other.0) a.here other.1) p.there)))
      (λ ge. dite (dec_lt c.step a.step)
      (λ lt. let other = a.passed c.step lt in absurd (other.2 (one (w k) other.0 x (subst (λ (m : ℕ). Reads (w m) other.0) c.here other.1) q.there)))
      (λ ge2. let e : a.step ≡ c.step = omega arith in sym a.here ∙ (ap (bucket b x) e ∙ c.here)))
