use Rattle.std.proofs.Common.{◌<◌, ◌^◌, ℕ, subst, sym, arith}
use Rattle.cleary_core.specs.Cells.{width}
use Rattle.cleary_core.proofs.Packing.{packed_below}
use Rattle.cleary_core.proofs.cells.pack.Goals as goal

pub returns-clause-value : goal.returns-clause-value
returns-clause-value c = let a = c.mark.ensures.value in let b = c.mark-2.ensures.value in let d = c.mark-3.ensures.value in let e = c.join-rest.ensures.value in omega arith

pub returns-clause-small : goal.returns-clause-small
returns-clause-small c = subst (λ (n : ℕ). n < 2 ^ width c.args.sizes.now) (sym (returns-clause-value c)) (packed_below c.args.sizes.now c.args.cell.now c.requires.small)
