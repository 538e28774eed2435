-- What a handle stood for and stands for.
use Rattle.std.proofs.Common.{◌≡◌, ◌⊎◌, Option, Some, None, refl, subst, sym, inl, inr}
use Rattle.treedb_c.specs.Calls.{IsSplitOff}
use Rattle.treedb_c.specs.Handles.{WhereLive, IsDivided}
use Rattle.treedb_c.specs.Holding.{Holding}
use Rattle.treedb_c.specs.Inner.{holding}
use Rattle.treedb_c.specs.declared.code.Code.{Code}
use Rattle.treedb_c.specs.declared.code.Code.TheVariants as c
use Rattle.treedb_c.specs.declared.inner.Inner.{Inner}

-- it stood for something, and stands for something
pub live : (Holds : Holding → Holding → Type 0) (x y : Inner) (old new : Option Inner) → old ≡ Some x → new ≡ Some y
    → Holds (holding x) (holding y) → WhereLive old new Holds
live Holds x y old new was is holds = subst (λ (o : Option Inner). WhereLive o new Holds) (sym was) (y, is, holds)

-- what follows of what it stands for
pub weaker : (P Q : Holding → Holding → Type 0) → ((a b : Holding) → P a b → Q a b) → (old new : Option Inner)
    → WhereLive old new P → WhereLive old new Q
weaker P Q f (Some x) new w = (w.0, w.1, f (holding x) (holding w.0) w.2)
weaker P Q f None new w = tt

-- a further pass was split off, and put into a handle or not
pub divided : (child : Inner) (old new : Holding) (handle : Option Inner) (code : Code) → IsSplitOff old new (holding child)
    → ((code ≡ c.Done) × (handle ≡ Some child)) ⊎ ((code ≡ c.NoMemory) × (handle ≡ None)) → IsDivided handle code old new
divided child old new handle code split (inl (done, is)) = subst (λ (h : Option Inner). IsDivided h code old new) (sym is) (done, split)
divided child old new handle code split (inr (done, is)) = subst (λ (h : Option Inner). IsDivided h code old new) (sym is) (done, inr (holding child, split))

-- none was split off
pub undivided : (x y : Inner) (handle : Option Inner) → handle ≡ None → y ≡ x → IsDivided handle c.NoMemory (holding x) (holding y)
undivided x y handle none same = subst (λ (h : Option Inner). IsDivided h c.NoMemory (holding x) (holding y)) (sym none)
    (refl, inl (subst (λ (z : Inner). holding z ≡ holding x) (sym same) refl))
