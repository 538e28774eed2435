-- The sizes of a choice are determined.
use Rattle.std.proofs.Common.{◌≡◌, ◌≤◌, ◌<◌, ◌^◌, ◌∙◌, ◌⊎◌, ℕ, Option, Some, None, arith, ap, sym, inl, inr}
use Rattle.std.specs.Prelude.{MatchOption, min, unwrap_or}
use Rattle.command_line.specs.Sizes.{AreTableSizes, IsLeastExponent, least_roots, most_nodes, node_need, root_need}
use Rattle.command_line.specs.declared.outcome.Choice.{Choice}
use Rattle.command_line.specs.declared.table.TableSizes.{TableSizes}

not-below : (low high need a b : ℕ) → IsLeastExponent low high need a → IsLeastExponent low high need b → a < b → ⊥
not-below low high need a b at_a at_b below =
    let short : 2 ^ a < need = at_b.least a at_a.at_least below in
    let top : b ≤ high = at_b.at_most in
    by short top at_a.reaches
  where
    by : 2 ^ a < need → b ≤ high → (need ≤ 2 ^ a) ⊎ (a ≡ high) → ⊥
    by short top (inl reached) = omega arith
    by short top (inr last) = omega arith

same-exponent : (low high need a b : ℕ) → IsLeastExponent low high need a → IsLeastExponent low high need b → a ≡ b
same-exponent low high need a b at_a at_b =
    let not_less : a < b → ⊥ = not-below low high need a b at_a at_b in
    let not_more : b < a → ⊥ = not-below low high need b a at_b at_a in
    omega arith

same-size : (o : Option ℕ) (low high need a b : ℕ) → MatchOption o (IsLeastExponent low high need a) (λ n. a ≡ n)
    → MatchOption o (IsLeastExponent low high need b) (λ n. b ≡ n) → a ≡ b
same-size None low high need a b at_a at_b = same-exponent low high need a b at_a at_b
same-size (Some n) low high need a b at_a at_b = at_a ∙ sym at_b

same-record : (s t : TableSizes) → s.nodes ≡ t.nodes → s.roots ≡ t.roots → s.region ≡ t.region → s.probe ≡ t.probe → s ≡ t
same-record s t nodes roots region probe =
    λ i. record { nodes = nodes i; roots = roots i; region = region i; probe = probe i }

pub same-sizes : (c : Choice) (slots lines : ℕ) (s t : TableSizes) → AreTableSizes c slots lines s → AreTableSizes c slots lines t → s ≡ t
same-sizes c slots lines s t at_s at_t =
    let nodes : s.nodes ≡ t.nodes = same-size c.nodes 3 (most_nodes c) (node_need slots lines) s.nodes t.nodes at_s.nodes at_t.nodes in
    let roots : s.roots ≡ t.roots = same-size c.roots (least_roots c) 24 (root_need c.mode lines) s.roots t.roots at_s.roots at_t.roots in
    let region : s.region ≡ t.region = at_s.region ∙ ap (λ r. unwrap_or c.region (min r 12)) roots ∙ sym at_t.region in
    same-record s t nodes roots region (at_s.probe ∙ sym at_t.probe)
