use Rattle.region_root.proofs.Tables.{cells_are}
use Rattle.region_root.proofs.words.region_at.Goals as goal

pub returns-clause-cells : goal.returns-clause-cells
returns-clause-cells g c = cells_are g.row.W g.row.F c.args.table.now c.sizes-sizes.ensures.store c.sizes-sizes.result.now c.over.result c.sizes-sizes.ensures.sizes c.over.ensures.sizes
