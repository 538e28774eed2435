use Rattle.region_root.proofs.ThreeSlots.{still_named}
use Rattle.region_root.proofs.tests.read.Goals as goal

pub returns-clause-named : goal.returns-clause-named
returns-clause-named g c = still_named _ _ _ _ _ c.flags.ensures c.requires.named
