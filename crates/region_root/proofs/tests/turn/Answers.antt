use Rattle.region_root.proofs.ThreeSlots.{still_named}
use Rattle.region_root.proofs.tests.turn.Goals as goal

pub returns-then-set-clause-named : goal.returns-then-set-clause-named
returns-then-set-clause-named g c = still_named _ _ _ _ _ c.set_flag.ensures c.requires.named

pub returns-clause-named : goal.returns-clause-named
returns-clause-named g c = still_named _ _ _ _ _ c.clear_flag.ensures c.requires.named
