-- Steps by an odd stride, modulo a power of two, meet each number once.
use Rattle.std.proofs.Common.{◌≡◌, ℕ, zero, suc, ◌+◌, ◌-◌, ◌*◌, ◌/◌, ◌%◌, ◌^◌, ◌<◌, ◌≤◌, sym, ap, ◌∙◌, ⊎_elim, arith}
use Rattle.std.proofs.lemmas.Nat.{pow_pos, mod_below}
use Rattle.std.proofs.lemmas.Bool.{cases_lt}
use Rattle.std.proofs.Math.Nat.{pow-suc, mod-eq_of_lt, mod-add-div, add-mul-mod_self_left}

-- a number times t is one more than a multiple of 2 ^ k
pub record HasInverse (t k : ℕ) : Type 0 where
  pub inverse : ℕ
  pub rest : ℕ
  pub product : t * inverse ≡ 1 + 2 ^ k * rest

kept : (t u p q m : ℕ) → t * u ≡ 1 + p * q → q ≡ 2 * m → t * u ≡ 1 + 2 * p * m
kept t u p q m e half = omega (arith, e, ap (λ n. p * n) half)

moved : (t u p q m : ℕ) → t * u ≡ 1 + p * q → q + t ≡ 2 * m → t * (u + p) ≡ 1 + 2 * p * m
moved t u p q m e half = omega (arith, e, ap (λ n. p * n) half)

next_inverse : (h k : ℕ) → HasInverse (2 * h + 1) k → HasInverse (2 * h + 1) (suc k)
next_inverse h k found =
    let t : ℕ = 2 * h + 1 in
    let u : ℕ = found.inverse in
    let q : ℕ = found.rest in
    let twice : 2 ^ suc k ≡ 2 * 2 ^ k = omega (arith, pow-suc 2 k) in
    ⊎_elim
    (λ (even : q % 2 < 1).
    let half : q ≡ 2 * (q / 2) = omega arith in
    let same : HasInverse t (suc k) = record {
      inverse = u;
      rest = q / 2;
      product = kept t u (2 ^ k) q (q / 2) found.product half ∙ ap (λ n. 1 + n * (q / 2)) (sym twice);
    } in same)
    (λ (odd : 1 ≤ q % 2).
    let half : q + t ≡ 2 * ((q + t) / 2) = omega arith in
    let other : HasInverse t (suc k) = record {
      inverse = u + 2 ^ k;
      rest = (q + t) / 2;
      product = moved t u (2 ^ k) q ((q + t) / 2) found.product half ∙ ap (λ n. 1 + n * ((q + t) / 2)) (sym twice);
    } in other)
    (cases_lt (q % 2) 1)

-- an odd number has an inverse modulo each power of two
pub odd_inverse : (h k : ℕ) → HasInverse (2 * h + 1) k
odd_inverse h zero = record {
  inverse = 1;
  rest = 2 * h;
  product = omega arith;
}
odd_inverse h (suc k) = next_inverse h k (odd_inverse h k)

-- numbers that differ by multiples of m have one remainder
same_rest : (m x a y b : ℕ) → x + m * a ≡ y + m * b → x % m ≡ y % m
same_rest m x a y b e = sym (add-mul-mod_self_left x m a) ∙ ap (λ n. n % m) e ∙ add-mul-mod_self_left y m b

back_sum : (l c o m t u q j f a : ℕ) → l + c ≡ m * o → t * u ≡ 1 + m * q → f + m * a ≡ l + j * t
    → (f + c) * u + m * (a * u) ≡ j + m * (j * q + o * u)
back_sum l c o m t u q j f a whole one split =
    omega (arith, ap (λ n. n * u) split, ap (λ n. j * n) one, ap (λ n. n * u) whole)

forth_sum : (l c o m t u q j y a : ℕ) → l + c ≡ m * o → t * u ≡ 1 + m * q → j + m * a ≡ (y + c) * u
    → l + j * t + m * (a * t) ≡ y + m * (o + q * (y + c))
forth_sum l c o m t u q j y a whole one split =
    omega (arith, ap (λ n. n * t) split, ap (λ n. (y + c) * n) one, whole)

module _ (l h k : ℕ) where
  abbrev m : ℕ
  m = 2 ^ k

  abbrev t : ℕ
  t = 2 * h + 1

  -- what brings the start round to a multiple of m
  abbrev c : ℕ
  c = l * (m - 1)

  whole : l + c ≡ m * l
  whole = let e : m ≡ m - 1 + 1 = omega (arith, pow_pos k) in omega (arith, ap (λ n. n * l) e)

  back : (j : ℕ) → j < m → ((l + j * t) % m + c) * (odd_inverse h k).inverse % m ≡ j
  back j below =
      let found : HasInverse t k = odd_inverse h k in
      let f : ℕ = (l + j * t) % m in
      let a : ℕ = (l + j * t) / m in
      same_rest m ((f + c) * found.inverse) (a * found.inverse) j (j * found.rest + l * found.inverse)
      (back_sum l c l m t found.inverse found.rest j f a whole found.product (mod-add-div (l + j * t) m))
      ∙ mod-eq_of_lt below

  -- two numbers of steps below m that lead to one place are one
  pub turns_differ : (i j : ℕ) → i < m → j < m → (l + i * t) % m ≡ (l + j * t) % m → i ≡ j
  turns_differ i j i_below j_below same =
      sym (back i i_below) ∙ ap (λ n. (n + c) * (odd_inverse h k).inverse % m) same ∙ back j j_below

  -- each place is met
  pub turns_meet : (y : ℕ) → y < m → (j : ℕ) × (j < m) × ((l + j * t) % m ≡ y)
  turns_meet y below =
      let found : HasInverse t k = odd_inverse h k in
      let n : ℕ = (y + c) * found.inverse in
      let j : ℕ = n % m in
      let met : (l + j * t) % m ≡ y =
      same_rest m (l + j * t) (n / m * t) y (l + found.rest * (y + c))
      (forth_sum l c l m t found.inverse found.rest j y (n / m) whole found.product (mod-add-div n m))
      ∙ mod-eq_of_lt below in
      (j, mod_below n m (pow_pos k), met)
