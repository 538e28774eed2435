use Rattle.std.proofs.Common.{[]}
use Rattle.cleary_core.proofs.tests.keeps_nothing.Goals as goal

pub returns : goal.returns
returns g c = ([], c.zeros_keep_nothing.ensures c.args._region.now c.args._words.now c.requires)
