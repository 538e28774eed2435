use Rattle.tree_store.proofs.store.TreeStore.create.Goals as goal

pub returns-in-Some-clause-sizes : goal.returns-in-Some-clause-sizes
returns-in-Some-clause-sizes g c n =
    let out = c.in-Some.ensures.out n in
    ((λ same. out.0 (cc same)), (λ first. let same = out.1 first in cc same))
