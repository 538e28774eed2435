use Rattle.std.proofs.Common.{◌-◌, arith}
use Rattle.std.proofs.lemmas.Nat.{pow_pos}
use Rattle.region_root.specs.Layout.{region_count}
use Rattle.region_root.proofs.tests.once.rise.Goals as goal

pub lock_word-requires : goal.lock_word-requires
unfolding region_count
lock_word-requires c = (omega arith, (omega arith, pow_pos (c.table-table.result.now.about.sizes.roots - c.table-table.result.now.about.sizes.region)))
