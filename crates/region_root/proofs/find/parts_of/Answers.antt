use Rattle.std.proofs.Common.{arith, sym, ap, ◌∙◌, ◌≡◌, ◌*◌, ◌^◌, ◌<◌, ◌≤◌, ◌+◌, ◌/◌, ◌%◌, subst, ℕ}
use Rattle.std.proofs.lemmas.Nat.{shr_split, shr_below, mod_below, pow_pos}
use Rattle.std.proofs.Math.Pow.{pow_mono}
use Rattle.std.proofs.Math.Nat.{mod-eq_of_lt}
use Rattle.packed_word.specs.Word.{pair_of}
use Rattle.region_root.proofs.find.parts_of.Goals as goal

unit_is : (w : ℕ) → w < 32 → 1 * 2 ^ w % 18446744073709551616 ≡ 2 ^ w
unit_is w low =
    let few : w ≤ 31 = omega (arith, low) in
    let most : 2 ^ w ≤ 2 ^ 31 = pow_mono few in
    let one : 1 * 2 ^ w ≡ 2 ^ w = omega arith in
    let low_w : 2 ^ w < 18446744073709551616 = omega (arith, most) in
    ap (λ (n : ℕ). n % 18446744073709551616) one ∙ mod-eq_of_lt low_w

pub returns-clause-whole : goal.returns-clause-whole
returns-clause-whole g c =
    subst (λ (n : ℕ). pair_of g.row.W (c.args.pair / n) (c.args.pair % n) ≡ c.args.pair) (sym (unit_is g.row.W c.requires.0)) (shr_split c.args.pair g.row.W)

pub returns-clause-parts : goal.returns-clause-parts
returns-clause-parts g c =
    let both : g.row.W + g.row.W ≡ 2 * g.row.W = omega arith in
    let high = shr_below c.args.pair g.row.W g.row.W (subst (λ (n : ℕ). c.args.pair < 2 ^ n) (sym both) c.requires.1) in
    subst (λ (n : ℕ). (c.args.pair / n < 2 ^ g.row.W) × (c.args.pair % n < 2 ^ g.row.W)) (sym (unit_is g.row.W c.requires.0)) (high, mod_below c.args.pair (2 ^ g.row.W) (pow_pos g.row.W))
