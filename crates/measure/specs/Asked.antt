-- What may be asked of the tables of roots.
use Rattle.std.specs.Prelude.{◌≤◌}
use Rattle.measure.specs.declared.roots.Asked.{Asked}

pub record IsAsked (a : Asked) : Type 0 where
  pub roots : (6 ≤ a.roots) × (a.roots ≤ 18)
  pub region : (6 ≤ a.region) × (a.region ≤ 12) × (a.region ≤ a.roots)
  pub fill : a.fill ≤ 100
  pub threads : (1 ≤ a.threads) × (a.threads ≤ 64)
