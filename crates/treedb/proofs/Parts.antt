-- The root table of each mode takes the sizes that its choices have.
use Rattle.std.proofs.Common.{◌≡◌, ℕ, ⊎_elim, sym, subst, ap, ◌∙◌}
use Rattle.std.specs.Prelude.{◌⊎◌}
use Rattle.pair_rule.specs.Part.{Part}
use Rattle.pair_rule.specs.declared.sizes.Sizes.{Sizes}
use Rattle.root_plain.specs.Plain.{plain}
use Rattle.region_root.specs.Compact.{compact}
use Rattle.region_root.specs.Layout.{CellsFit, RegionFits}
use Rattle.tree_store.specs.Ranges.{NodesFit, ProbeFits, IsFirstOut}
use Rattle.command_line.specs.declared.outcome.Choice.{Choice}
use Rattle.command_line.specs.declared.outcome.Mode.{Mode}
use Rattle.command_line.specs.declared.outcome.Mode.TheVariants.{Plain, Compact}
use Rattle.command_line.specs.Rules.{flag_count}
use Rattle.treedb.specs.Filling.{IsPartFor}
use Rattle.treedb.specs.Run.{IsOfMode}

-- sizes that all fit have no first one out of its range
none_out : {T : Type 0} (part : Part T) (width : ℕ) (sizes : Sizes) → NodesFit width sizes → ((n : ℕ) → part.is_out sizes n → ⊥) → ProbeFits sizes
    → (n : ℕ) → IsFirstOut part width sizes n → ⊥
none_out part width sizes nodes in_range probe n out = ⊎_elim
    (λ (a : (n ≡ 1) × (NodesFit width sizes → ⊥)). a.1 nodes)
    (λ (b : (NodesFit width sizes × part.is_out sizes n) ⊎ ((n ≡ 4) × NodesFit width sizes × part.sized sizes × (ProbeFits sizes → ⊥))).
    ⊎_elim (λ (a : NodesFit width sizes × part.is_out sizes n). in_range n a.1) (λ (a : (n ≡ 4) × NodesFit width sizes × part.sized sizes × (ProbeFits sizes → ⊥)). a.3 probe) b)
    out

pub plain_part : (c : Choice) → c.mode ≡ Plain → IsPartFor plain c
plain_part c is = record {
  takes = λ sizes fit. none_out plain c.profile sizes fit.nodes (λ n out. out.1 fit.roots) fit.probe;
  kept = λ trace replies h stats stored. subst (λ (m : Mode). IsOfMode m c trace replies h stats) (sym is) stored;
}

pub compact_part : (width flags : ℕ) (c : Choice) → (c.profile ≡ width) × (flags ≡ flag_count width) → c.mode ≡ Compact → IsPartFor (compact width flags) c
compact_part width flags c profile is = subst (λ (p : ℕ × ℕ). IsPartFor (compact p.0 p.1) c) (λ i. (profile.0 i, (ap flag_count profile.0 ∙ sym profile.1) i)) (record {
  takes = λ sizes fit. none_out (compact c.profile (flag_count c.profile)) c.profile sizes fit.nodes (λ n out. ⊎_elim
      (λ (a : (n ≡ 2) × (CellsFit c.profile sizes → ⊥)). a.1 (fit.cells is))
      (λ (a : (n ≡ 3) × CellsFit c.profile sizes × (RegionFits sizes → ⊥)). a.2 (fit.regions is))
      out) fit.probe;
  kept = λ trace replies h stats stored. subst (λ (m : Mode). IsOfMode m c trace replies h stats) (sym is) stored;
})
