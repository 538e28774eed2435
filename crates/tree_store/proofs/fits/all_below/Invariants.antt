use Rattle.std.specs.Prelude.{ℕ, ◌^◌, ◌<◌, ◌↔◌, slice_index}
use Rattle.tree_store.proofs.fits.all_below.Given as goal

abbrev pub invariant-loop-i : goal.invariant-loop-i
invariant-loop-i g l = (l.bits < 2 ^ g.row.W) ↔ ((j : ℕ) → j < l.i → slice_index l.vector j < 2 ^ g.row.W)
