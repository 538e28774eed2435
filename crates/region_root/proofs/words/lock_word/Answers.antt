use Rattle.std.proofs.Common.{ap, subst, sym, ◌+◌, ◌<◌, ℕ}
use Rattle.region_root.proofs.Tables.{first_is, lock_inside}
use Rattle.region_root.proofs.words.lock_word.Goals as goal

pub returns-clause-place : goal.returns-clause-place
returns-clause-place g c = ap (λ (n : ℕ). n + c.args.region) (first_is c.args.table.now.about c.sizes-sizes.result.now c.first_word.result c.sizes-sizes.ensures.sizes c.first_word.ensures.same)

pub returns-clause-inside : goal.returns-clause-inside
returns-clause-inside g c =
    let store = c.args.table.now in
    subst (λ (n : ℕ). n + c.args.region < store.table.words) (sym (first_is store.about c.sizes-sizes.result.now c.first_word.result c.sizes-sizes.ensures.sizes c.first_word.ensures.same))
    (lock_inside g.row.W g.row.F store c.sizes-sizes.ensures.store c.args.region c.requires)
