use Rattle.std.proofs.Common.{◌≡◌, ℕ, ◌^◌, ◌/◌, ◌<◌, get_or, ⊎_elim, sym, subst, arith}
use Rattle.std.proofs.lemmas.Nat.{or_lt, le_or_l, le_or_r, pow_pos}
use Rattle.std.proofs.lemmas.List.Elements.{All-from_get_or}
use borrow.Author.Tests.{eqb-true, eq-eqb}
use native.Mathlib.Nat.{eq-or-lt_of_le, div-lt_iff_lt-mul}
use Rattle.tree_store.proofs.fits.all_below.Goals as goal

pub loop-i-preserved : goal.loop-i-preserved
loop-i-preserved g c =
    let xs = c.args.vector.now in
    let i = c.loop-i.i in
    let bits = c.loop-i.bits in
    let x = get_or xs i 0 in (
      λ below j within. ⊎_elim
          (λ (same : j ≡ i). subst (λ (n : ℕ). get_or xs n 0 < 2 ^ g.row.W) (sym same) (omega (arith, le_or_r bits x, below)))
          (λ (less : j < i). c.loop-i.invariant.0 (omega (arith, le_or_l bits x, below)) j less)
          (eq-or-lt_of_le (omega (arith, within))),
      λ all. or_lt g.row.W bits x (c.loop-i.invariant.1 (λ j less. all j (omega (arith, less)))) (all i (omega arith)),
    )

-- what is below a power of two has nothing above it
small : (n k : ℕ) → n / 2 ^ k ≡ 0 → n < 2 ^ k
small n k zero = let below : n / 2 ^ k < 1 = omega (arith, zero) in omega (arith, (div-lt_iff_lt-mul (pow_pos k)).0 below)

none : (n k : ℕ) → n < 2 ^ k → n / 2 ^ k ≡ 0
none n k lt = let below : n / 2 ^ k < 1 = (div-lt_iff_lt-mul (pow_pos k)).1 (omega (arith, lt)) in omega (arith, below)

pub returns : goal.returns
returns g c = (
  λ zero. All-from_get_or (λ (x : ℕ). x < 2 ^ g.row.W) c.args.vector.now 0
      (λ j below. c.loop-i.invariant.0 (small c.loop-i.bits g.row.W (eqb-true (c.loop-i.bits / 2 ^ g.row.W) 0 zero)) j (omega (arith, below, c.loop-i-test.false))),
  λ all. eq-eqb (c.loop-i.bits / 2 ^ g.row.W) 0 (none c.loop-i.bits g.row.W (c.loop-i.invariant.1 (λ j less. all j 0 (omega (arith, less, c.loop-i.auto.i-end))))),
)
