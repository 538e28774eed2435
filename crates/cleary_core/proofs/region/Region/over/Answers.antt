use Rattle.std.proofs.Common.{◌≡◌, ◌*◌, ◌-◌, ◌^◌, ◌+◌, ℕ, sym, subst, arith}
use Rattle.std.proofs.lemmas.Nat.{one_shl}
use Rattle.cleary_core.specs.Cells.{IsRegion, word_count}
use Rattle.cleary_core.specs.declared.cells.Sizes.{Sizes}
use Rattle.cleary_core.proofs.Packing.{region_of}
use Rattle.cleary_core.proofs.region.Region.over.Goals as goal

pub invariant_of-result : goal.invariant_of-result
invariant_of-result g c =
    subst (λ (n : ℕ). let z : Sizes = record { cells = n; flags = g.row.F; quotient = 2 * g.row.W - c.args.r } in IsRegion z) (sym (one_shl c.args.s 64 (omega (arith, c.requires.sizes))))
    (region_of g.row.W g.row.F c.args.r c.args.s c.requires.sizes c.requires.profile).0

pub returns-clause-region : goal.returns-clause-region
returns-clause-region g c = invariant_of-result g c

pub returns-clause-words : goal.returns-clause-words
returns-clause-words g c =
    subst (λ (n : ℕ). let z : Sizes = record { cells = n; flags = g.row.F; quotient = 2 * g.row.W - c.args.r } in word_count z ≡ 2 ^ (c.args.s - 6) * (2 * g.row.W - c.args.r + 3 + g.row.F)) (sym (one_shl c.args.s 64 (omega (arith, c.requires.sizes))))
    (region_of g.row.W g.row.F c.args.r c.args.s c.requires.sizes c.requires.profile).1
