-- Root words: a word has one pair with one number of flags, and an empty word has none.
use Rattle.std.proofs.Common.{◌≡◌, ℕ, ◌+◌, ◌*◌, ◌^◌, sym, ◌∙◌, arith}
use Rattle.std.proofs.lemmas.Nat.{same_from_place}
use Rattle.pair_rule.specs.declared.sizes.About.{About}
use Rattle.root_plain.specs.Plain.{HoldsRoot, IsRoot}

pub same_word : (about : About) (n x y f g : ℕ) → HoldsRoot about n x f → HoldsRoot about n y g → (x ≡ y) × (f ≡ g)
same_word about n x y f g p q =
    let e : f * 2 ^ (2 * about.width) + x ≡ g * 2 ^ (2 * about.width) + y = let z =
    sym p.word_is ∙ q.word_is in omega (arith, z) in
    let s = same_from_place f x g y (2 ^ (2 * about.width)) p.is_pair q.is_pair e in
    (s.1, s.0)

pub holds_used : (about : About) (x f : ℕ) → HoldsRoot about 0 x f → ⊥
holds_used about x f p = let z = p.word_is in omega (arith, z)

pub root_one : (about : About) (n x y : ℕ) → IsRoot about n x → IsRoot about n y → x ≡ y
root_one about n x y p q = (same_word about n x y p.0 q.0 p.1 q.1).0

pub root_used : (about : About) (x : ℕ) → IsRoot about 0 x → ⊥
root_used about x p = holds_used about x p.0 p.1
