use Rattle.std.proofs.Common.{ℕ, subst, sym, refl, inl, inr}
use Rattle.treedb_c.specs.Calls.{IsNotCreated}
use Rattle.treedb_c.proofs.inner.Inner.create.Goals as goal

pub returns-in-Err-clause-refused : goal.returns-in-Err-clause-refused
returns-in-Err-clause-refused c =
    subst (λ (p : ℕ). IsNotCreated p c.args.slots c.args.sizes.now c.in-Err.code) (sym c.in-16.is) (inr (inl refl, c.in-Err.ensures.refused))

pub returns-in-Err-create-clause-refused : goal.returns-in-Err-create-clause-refused
returns-in-Err-create-clause-refused c =
    subst (λ (p : ℕ). IsNotCreated p c.args.slots c.args.sizes.now c.in-Err-create.code) (sym c.in-28.is) (inr (inr (inl refl), c.in-Err-create.ensures.refused))

pub returns-in-Err-create-2-clause-refused : goal.returns-in-Err-create-2-clause-refused
returns-in-Err-create-2-clause-refused c =
    subst (λ (p : ℕ). IsNotCreated p c.args.slots c.args.sizes.now c.in-Err-create-2.code) (sym c.in-31.is) (inr (inr (inr refl), c.in-Err-create-2.ensures.refused))
