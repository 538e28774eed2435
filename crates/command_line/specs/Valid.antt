-- What holds of every choice.
use Rattle.std.specs.Prelude.{◌≡◌, ◌≤◌, ◌<◌, ◌*◌, ◌^◌, ◌⊎◌, ℕ}
use Rattle.std.specs.Option.{ForSome}
use Rattle.command_line.specs.Rules.{flag_count}
use Rattle.command_line.specs.declared.outcome.Job.TheVariants.{Bench, Mark}
use Rattle.command_line.specs.declared.outcome.Mode.TheVariants.{Compact}
use Rattle.command_line.specs.declared.outcome.Choice.{Choice}

-- from low to high, both included
abbrev pub IsFrom : ℕ → ℕ → ℕ → Type 0
IsFrom low high n = (low ≤ n) × (n ≤ high)

-- the width of a slot
abbrev pub IsProfile : ℕ → Type 0
IsProfile n = (n ≡ 16) ⊎ (n ≡ 28) ⊎ (n ≡ 31)

-- each value is in its range
pub record IsInRange (c : Choice) : Type 0 where
  pub profile : IsProfile c.profile
  pub workers : IsFrom 1 64 c.workers
  pub block : IsFrom 1 65536 c.block
  pub flag : c.flag ≤ 7
  pub nodes : ForSome c.nodes (IsFrom 3 25)
  pub roots : ForSome c.roots (IsFrom 3 24)
  pub region : ForSome c.region (IsFrom 6 12)
  pub probe : IsFrom 1 4194304 c.probe
  pub lines : IsFrom 1 4194304 c.lines
  pub slots : IsFrom 2 1024 c.slots
  pub values : IsFrom 1 65536 c.values

-- the values go together
pub record FitsTogether (c : Choice) : Type 0 where
  pub nodes : ForSome c.nodes (λ n. n ≤ c.profile)
  pub compact_roots : c.mode ≡ Compact → ForSome c.roots (λ r. 6 ≤ r)
  pub compact_region : c.mode ≡ Compact → ForSome c.region (λ s. ForSome c.roots (λ r. s ≤ r))
  pub bench_trace : c.job ≡ Bench → c.lines * c.slots ≤ 2 ^ 25
  pub mark_flag : c.job ≡ Mark → c.flag < flag_count c.profile

pub record IsValid (c : Choice) : Type 0 where
  pub in_range : IsInRange c
  pub together : FitsTogether c
