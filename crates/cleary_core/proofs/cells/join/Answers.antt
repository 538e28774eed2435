use Rattle.std.proofs.Common.{◌+◌, ◌<◌, ◌^◌, ℕ, subst, sym, arith}
use Rattle.std.proofs.Math.Nat.{pow-le-pow_right}
use Rattle.cleary_core.proofs.Packing.{join_as, joined}
use Rattle.cleary_core.proofs.cells.join.Goals as goal

pub returns-clause-value : goal.returns-clause-value
returns-clause-value c = join_as c.args.sizes.now.flags c.args.sizes.now.quotient c.args.flags c.args.quotient c.requires.few c.requires.small.0 c.requires.small.1

pub returns-clause-small : goal.returns-clause-small
returns-clause-small c = subst (λ (n : ℕ). n < 2 ^ (c.args.sizes.now.flags + c.args.sizes.now.quotient)) (sym (returns-clause-value c)) (joined c.args.sizes.now.flags c.args.sizes.now.quotient c.args.flags c.args.quotient c.requires.small.0 c.requires.small.1)

pub returns-clause-room : goal.returns-clause-room
returns-clause-room c = let h = returns-clause-small c in let m = pow-le-pow_right {n = 2} (omega arith) c.requires.few in omega (arith, h, m)
