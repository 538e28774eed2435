use Rattle.std.proofs.Common.{[]}
use Rattle.measure.proofs.region.keeps_nothing.Goals as goal

pub returns : goal.returns
returns c = ([], c.zeros_keep_nothing.ensures c.args._region.now c.args._words.now c.requires)
