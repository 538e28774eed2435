use Rattle.std.proofs.Common.{arith, sym, ap, ◌∙◌, ◌≡◌, ◌*◌, ◌^◌, ◌<◌, ◌≤◌, ◌+◌, ◌-◌, ◌/◌, ◌%◌, subst, false, ℕ, suc, mul-le-mul_right}
use Rattle.std.proofs.lemmas.Bool.{eqb-false}
use Rattle.std.proofs.lemmas.Nat.{shr_split, shr_below, mod_below, pow_pos, pow-add}
use Rattle.std.proofs.Math.Nat.{pow-suc, add-mul, mod-eq_of_lt}
use Rattle.std.proofs.Math.Pow.{pow_mono}
use Rattle.tdb_base.specs.History.{has_bit}
use Rattle.region_root.proofs.flag.with_flag.Goals as goal

-- a bit that is clear can be added below any higher bound
room : (n b f : ℕ) → b < f → n < 2 ^ f → has_bit n b ≡ false → n + 2 ^ b < 2 ^ f
room n b f low small clear =
    let k : ℕ = f - b - 1 in
    let parts : suc k + b ≡ f = omega (arith, low) in
    let q : ℕ = n / 2 ^ b in
    let even = eqb-false (q % 2) 1 clear in
    let high : q < 2 ^ suc k = shr_below n (suc k) b (subst (λ (m : ℕ). n < 2 ^ m) (sym parts) small) in
    let twice : 2 ^ suc k ≡ 2 ^ k * 2 = pow-suc 2 k in
    let two : q + 2 ≤ 2 ^ suc k = omega (arith, even, high, twice) in
    let whole = shr_split n b in
    let rest = mod_below n (2 ^ b) (pow_pos b) in
    let bound : (q + 2) * 2 ^ b ≤ 2 ^ suc k * 2 ^ b = mul-le-mul_right (2 ^ b) two in
    let total : 2 ^ suc k * 2 ^ b ≡ 2 ^ f = sym (pow-add 2 (suc k) b) ∙ ap (λ (m : ℕ). 2 ^ m) parts in
    let wide : (q + 2) * 2 ^ b ≡ q * 2 ^ b + 2 * 2 ^ b = distrib q (2 ^ b) in
    omega (arith, whole, rest, bound, total, wide)
  where
    distrib : (q p : ℕ) → (q + 2) * p ≡ q * p + 2 * p
    distrib q p = add-mul q 2 p

pub returns-else-has_flag-clause-small : goal.returns-else-has_flag-clause-small
returns-else-has_flag-clause-small g c =
    let below : c.args.b ≤ 63 = let r = c.requires in omega (arith, r) in
    let most : 2 ^ c.args.b ≤ 2 ^ 63 = pow_mono below in
    let one : 1 * 2 ^ c.args.b ≡ 2 ^ c.args.b = omega arith in
    let unit = ap (λ (n : ℕ). n % 18446744073709551616) one ∙ mod-eq_of_lt (let fits : 2 ^ c.args.b < 18446744073709551616 = omega (arith, most) in fits) in
    subst (λ (n : ℕ). c.args.flags + n < 2 ^ g.row.F) (sym unit) (room c.args.flags c.args.b g.row.F c.requires.0 c.requires.2 (sym c.has_flag.ensures ∙ c.if-has_flag.false))
