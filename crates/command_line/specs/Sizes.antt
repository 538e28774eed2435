-- The sizes of the tables, where the words leave some out.
use Rattle.std.specs.Prelude.{◌≡◌, ◌≤◌, ◌<◌, ◌*◌, ◌-◌, ◌^◌, ◌⊎◌, ℕ, MatchOption, if◌then◌else◌, min, max}
use Rattle.std.specs.Prelude.{unwrap_or}
use Rattle.command_line.specs.Rules.{is_compact}
use Rattle.command_line.specs.Valid.{IsFrom}
use Rattle.command_line.specs.declared.outcome.Mode.{Mode}
use Rattle.command_line.specs.declared.outcome.Mode.TheVariants.{Compact}
use Rattle.command_line.specs.declared.outcome.Choice.{Choice}
use Rattle.command_line.specs.declared.table.TableSizes.{TableSizes}

-- the least number from low up whose power of two reaches the need, but high where all below high fall short
pub record IsLeastExponent (low high need exponent : ℕ) : Type 0 where
  pub at_least : low ≤ exponent
  pub at_most : exponent ≤ high
  pub reaches : (need ≤ 2 ^ exponent) ⊎ (exponent ≡ high)
  pub least : (q : ℕ) → low ≤ q → q < exponent → 2 ^ q < need

-- how many inner nodes the lines have together at most
abbrev pub node_need : ℕ → ℕ → ℕ
node_need slots lines = (slots - 2) * lines

-- how many places the roots of the lines are to have
abbrev pub root_need : Mode → ℕ → ℕ
root_need mode lines = if is_compact mode then 2 * lines else lines

-- the least automatic size of the root table: a compact one holds a region
abbrev pub least_roots : Choice → ℕ
least_roots c = if is_compact c.mode then max 6 (unwrap_or c.region 6) else 3

-- the greatest size of the node table
abbrev pub most_nodes : Choice → ℕ
most_nodes c = min 25 c.profile

-- the sizes of a choice, for lines of so many slots: as given, and else the least that suffice
pub record AreTableSizes (c : Choice) (slots lines : ℕ) (s : TableSizes) : Type 0 where
  pub nodes : MatchOption c.nodes (IsLeastExponent 3 (most_nodes c) (node_need slots lines) s.nodes)
      (λ n. s.nodes ≡ n)
  pub roots : MatchOption c.roots (IsLeastExponent (least_roots c) 24 (root_need c.mode lines) s.roots)
      (λ r. s.roots ≡ r)
  pub region : s.region ≡ unwrap_or c.region (min s.roots 12)
  pub probe : s.probe ≡ c.probe

-- the ranges of the sizes; in plain mode the region isn't looked at
pub record AreInRange (mode : Mode) (profile : ℕ) (s : TableSizes) : Type 0 where
  pub nodes : IsFrom 3 (min 25 profile) s.nodes
  pub roots : IsFrom 3 24 s.roots
  pub compact_roots : mode ≡ Compact → 6 ≤ s.roots
  pub region : mode ≡ Compact → IsFrom 6 (min s.roots 12) s.region
  pub probe : IsFrom 1 4194304 s.probe
