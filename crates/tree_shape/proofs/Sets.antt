-- The changed set and its test.
use Rattle.std.proofs.Common.{◌≡◌, ℕ, ◌+◌, ◌*◌, ◌/◌, ◌^◌, ◌<◌, ◌≤◌, Bool, not, ◌&&◌, ◌==◌, nat_lt, nat_le, List, get_or, Decides, refl, arith}
use Rattle.std.proofs.lemmas.Bool.{leb-true, le-leb}
use Rattle.std.proofs.lemmas.Bool.Decides.{Decides-eqb, Decides-ltb, Decides-not, Decides-and, Decides-like, Decides-below_or}
use Rattle.std.proofs.Math.Nat.{pow-suc}
use Rattle.tree_shape.specs.Changed.{DiffersAt, IsChanged, any_below, is_above, is_changed}
use Rattle.tree_shape.proofs.Places.{below_power, next_power}

any_tested : (test : ℕ → Bool) (P : ℕ → Type 0) → ((k : ℕ) → Decides (test k) (P k)) → (n : ℕ) → Decides (any_below test n) ((k : ℕ) × (k < n) × P k)
any_tested test P each n = Decides-below_or test P (any_below test) each refl (λ m. refl) n

-- fewer halvings than slots reach each position from 2 on
few_halvings : (k p q n : ℕ) → 2 ≤ p → q < 2 * k → q / 2 ^ n ≡ p → n < k
few_halvings k p q n big small e = let h = next_power q n p big e in let g = below_power n in omega (arith, pow-suc 2 n)

abbrev AboveBy : ℕ → ℕ → ℕ → ℕ → Type 0
AboveBy k p q n = (n < k) × (q / 2 ^ n ≡ p)

abbrev AboveSoon : ℕ → ℕ → ℕ → Type 0
AboveSoon k p q = (n : ℕ) × AboveBy k p q n

above_tested : (k p q : ℕ) → Decides (is_above k p q) (AboveSoon k p q)
above_tested k p q =
    Decides-like (is_above k p q) (λ h. (h.0, (h.1, h.2))) (λ h. (h.0, h.1.0, h.1.1))
    (any_tested (λ n. q / 2 ^ n == p) (λ n. q / 2 ^ n ≡ p) (λ n. Decides-eqb (q / 2 ^ n) p) k)

abbrev Found : ℕ → List ℕ → List ℕ → ℕ → ℕ → Type 0
Found k u v p j = DiffersAt u v j × AboveSoon k p (k + j)

found_tested : (k : ℕ) (u v : List ℕ) (p j : ℕ) → Decides (not (get_or u j 0 == get_or v j 0) && is_above k p (k + j)) (Found k u v p j)
found_tested k u v p j =
    Decides-and (not (get_or u j 0 == get_or v j 0)) (is_above k p (k + j)) (Decides-not (get_or u j 0 == get_or v j 0) (Decides-eqb (get_or u j 0) (get_or v j 0))) (above_tested k p (k + j))

abbrev Within : ℕ → ℕ → Type 0
Within k p = (2 ≤ p) × (p < k)

within_tested : (k p : ℕ) → Decides (nat_le 2 p && nat_lt p k) (Within k p)
within_tested k p = Decides-and (nat_le 2 p) (nat_lt p k) (leb-true 2 p, le-leb 2 p) (Decides-ltb p k)

pub changed_tested : (k : ℕ) (u v : List ℕ) (p : ℕ) → Decides (is_changed k u v p) (IsChanged k u v p)
unfolding is_changed
changed_tested k u v p =
    let test : ℕ → Bool = λ j. not (get_or u j 0 == get_or v j 0) && is_above k p (k + j) in
    Decides-like (is_changed k u v p)
    (λ h. (h.0.0, h.0.1, (h.1.0, h.1.1, h.1.2.0, (h.1.2.1.0, h.1.2.1.1.1))))
    (λ h. let far = h.2.1 in ((h.0, h.1), (h.2.0, h.2.1, (h.2.2, (h.2.3.0, (few_halvings k p (k + h.2.0) h.2.3.0 h.0 (omega arith) h.2.3.1, h.2.3.1))))))
    (Decides-and (nat_le 2 p && nat_lt p k) (any_below test k) (within_tested k p) (any_tested test (Found k u v p) (found_tested k u v p) k))
