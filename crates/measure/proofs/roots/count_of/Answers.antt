use Rattle.std.proofs.Common.{◌≤◌, ◌*◌, ◌/◌, ◌^◌, ℕ, sym, subst, arith}
use Rattle.std.proofs.Math.Nat.{mul-le-mul_right, pow-le-pow_right}
use Rattle.std.proofs.lemmas.Nat.{one_shl}
use Rattle.measure.proofs.roots.count_of.Goals as goal

pub returns : goal.returns
returns c =
    let asked = c.args.asked in
    let most : 2 ^ asked.roots ≤ 2 ^ 18 = pow-le-pow_right {n = 2} (omega arith) c.requires.roots.1 in
    let all : 2 ^ asked.roots * asked.fill ≤ 262144 * asked.fill = mul-le-mul_right asked.fill most in
    subst (λ (n : ℕ). n * asked.fill / 100 ≤ 524288) (sym (one_shl asked.roots 64 (omega (arith, c.requires.roots)))) (omega (arith, all, c.requires.fill))
