-- What the calls of a caller leave, told of its store and pass.
use Rattle.std.proofs.Common.{◌≡◌, ℕ, false, true, refl, sym, subst, inl, inr}
use Rattle.tdb_base.specs.History.{Vector, Act}
use Rattle.tdb_base.specs.declared.reply.Reply.{Reply}
use Rattle.pair_nodes.specs.Roots.{RootActed}
use Rattle.pair_rule.specs.Part.{Store}
use Rattle.pair_rule.specs.Rest.{AtRest, last_vector}
use Rattle.pair_rule.specs.declared.pass.PassOf.{PassOf}
use Rattle.pair_rule.specs.declared.sizes.Sizes.{Sizes}
use Rattle.root_plain.specs.Plain.{plain}
use Rattle.root_plain.specs.declared.root.Roots.{Roots}
use Rattle.tree_store.specs.Ranges.{IsFirstOut}
use Rattle.tree_store.specs.Store.{IsAnswered}
use Rattle.tree_store.specs.Vectors.{IsVector}
use Rattle.treedb_c.proofs.Full.{full_is_taken}
use Rattle.treedb_c.specs.Calls.{AreSlots, IsRefused, IsInserted, size_code}
use Rattle.treedb_c.specs.Flags.{IsSought, IsActed, IsUnnamed}
use Rattle.treedb_c.specs.Holding.{Holding}

-- the size that is out of its range is the one that is told
pub first_is_told : (width slots : ℕ) (sizes : Sizes) (n : ℕ) → AreSlots slots → IsFirstOut plain width sizes n
    → IsRefused width slots sizes (size_code n)
first_is_told width slots sizes n good (inl (is, out)) =
    subst (λ (m : ℕ). IsRefused width slots sizes (size_code m)) (sym is) (good, inl (refl, out))
first_is_told width slots sizes n good (inr (inl (fit, (is, out)))) =
    subst (λ (m : ℕ). IsRefused width slots sizes (size_code m)) (sym is) (good, inr (inl (fit, (refl, out))))
first_is_told width slots sizes n good (inr (inr (is, fit, roots, out))) =
    subst (λ (m : ℕ). IsRefused width slots sizes (size_code m)) (sym is) (good, inr (inr (refl, fit, roots, out)))

-- The caller held this store and a pass, `old`, before.
module _ (before : Holding) (store : Store) (old new : PassOf Roots) (held : record { store = store; pass = old } ≡ before) where
  pub acted : (act : Act) (id : ℕ) (middle : PassOf Roots) (s : Store) → s ≡ store → IsSought id true old middle
      → RootActed plain s act id middle new → IsActed act id before (record { store = store; pass = new })
  acted act id middle s same sought does = subst (λ (h : Holding). IsActed act id h (record { store = store; pass = new })) held (record {
    store_stays = refl;
    middle = middle;
    found = sought;
    acted = subst (λ (x : Store). RootActed plain x act id middle new) same does;
  })

  pub unnamed : (id : ℕ) → IsSought id false old new → IsUnnamed id before (record { store = store; pass = new })
  unnamed id sought = subst (λ (h : Holding). IsUnnamed id h (record { store = store; pass = new })) held (record { store_stays = refl; sought = sought })

  pub inserted : (vector : Vector) (reply : Reply) (s t : Store) → s ≡ store → t ≡ store → IsVector s.about vector
      → AtRest plain t new → IsAnswered plain t (last_vector old) vector reply old new
      → IsInserted vector reply before (record { store = store; pass = new })
  inserted vector reply s t same also fits rest answered =
      let is = subst (λ (x : Store). IsAnswered plain x (last_vector old) vector reply old new) also answered in
      subst (λ (h : Holding). IsInserted vector reply h (record { store = store; pass = new })) held (record {
        fits = subst (λ (x : Store). IsVector x.about vector) same fits;
        store_stays = refl;
        answered = is;
        taken_up = full_is_taken store (last_vector old) vector reply old new (subst (λ (x : Store). AtRest plain x new) also rest) is;
      })
