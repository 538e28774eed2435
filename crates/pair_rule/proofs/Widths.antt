-- A table's own width and number of flags are those of its type.
use Rattle.std.proofs.Common.{◌≡◌, ℕ, ◌^◌, ◌<◌, sym, ap, ◌∙◌, subst}
use Rattle.packed_word.specs.Word.{IsLayout}
use Rattle.pair_rule.specs.Part.{Store, Part, IsTable}

module _ {T : Type 0} {width flags : ℕ} {part : Part T} (old now : Store) (same : old ≡ now) (is : IsTable width flags part old) where
  pub layout_of : IsLayout width flags
  layout_of = subst (λ (p : ℕ × ℕ). IsLayout p.0 p.1) (λ i. (is.width_is i, is.flags_are i)) is.is_about.range.layout

  pub width_of : now.about.width ≡ width
  width_of = ap (λ (s : Store). s.about.width) (sym same) ∙ is.width_is

  pub part_below : (n : ℕ) → n < 2 ^ now.about.width → n < 2 ^ width
  part_below n below = subst (λ (w : ℕ). n < 2 ^ w) width_of below

  pub below_part : (n : ℕ) → n < 2 ^ width → n < 2 ^ now.about.width
  below_part n below = subst (λ (w : ℕ). n < 2 ^ w) (sym width_of) below
