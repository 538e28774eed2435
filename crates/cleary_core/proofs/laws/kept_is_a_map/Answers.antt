use Rattle.std.proofs.Common.{◌<◌, ◌^◌, ℕ, subst}
use Rattle.cleary_core.specs.Cells.{cell_at}
use Rattle.cleary_core.proofs.Empty.{few_keys}
use Rattle.cleary_core.proofs.Packing.{cell_small}
use Rattle.cleary_core.proofs.Slots.{home_inside}
use Rattle.cleary_core.proofs.laws.kept_is_a_map.Goals as goal

pub returns-clause-few : goal.returns-clause-few
returns-clause-few c = λ z words keys kept. few_keys z.cells (cell_at z words) keys kept

pub returns-clause-range : goal.returns-clause-range
returns-clause-range c = λ z words keys kept k has.
    let a = kept.holds.all k has in
    let small = cell_small z words a.0 in (
      home_inside z.cells kept.slots kept.laid a.0 k a.1,
      subst (λ (m : ℕ). m < 2 ^ z.quotient) (kept.drawn.quotient a.0 k a.1) small.quotient,
      subst (λ (m : ℕ). m < 2 ^ z.flags) (kept.drawn.flags a.0 k a.1) small.flags,
    )
