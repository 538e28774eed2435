-- In a store of two slots a root's parts are the vector's slots.
use Rattle.std.proofs.Common.{◌≡◌, ℕ, ◌^◌, ◌<◌, List, [], ◌∷◌, sym, subst, arith}
use Rattle.std.proofs.lemmas.Nat.{shr_high, mod_low}
use Rattle.tree_shape.specs.Tree.{RootStands, slot}
use Rattle.packed_word.specs.Word.{pair_of}
use Rattle.pair_rule.specs.declared.sizes.About.{About}
use Rattle.pair_rule.specs.Calls.{IsSomeRoot}

stands_alone : (width slots left right : ℕ) (known : List (ℕ × ℕ)) → slots ≡ 2 → right < 2 ^ width → RootStands width slots known (pair_of width left right) (left ∷ right ∷ [])
stands_alone width slots left right known two r = subst (λ (k : ℕ). RootStands width k known (pair_of width left right) (left ∷ right ∷ [])) (sym two)
    (slot (omega arith) (shr_high left width right r), slot (omega arith) (mod_low left width right r))

pub two_slots : (about : About) (width left right : ℕ) (known : List (ℕ × ℕ)) → about.width ≡ width → about.slots ≡ 2 → right < 2 ^ width → IsSomeRoot about known (pair_of width left right)
two_slots about width left right known wide two r =
    (left ∷ right ∷ [], subst (λ (w : ℕ). RootStands w about.slots known (pair_of width left right) (left ∷ right ∷ [])) (sym wide) (stands_alone width about.slots left right known two r), sym two)
