-- How the acts of `history` stand for the acts of a history.
use Rattle.tdb_base.specs.History.{Put, Set, Clear, Look}
use Rattle.tdb_base.specs.History as h
use Rattle.tdb_base.specs.declared.history.Act.{Act}
use Rattle.tdb_base.specs.declared.history.Act.TheVariants as a

abbrev pub act_of : Act → h.Act
act_of (a.Put fresh) = Put fresh
act_of (a.Set bit first) = Set bit first
act_of (a.Clear bit first) = Clear bit first
act_of (a.Look flags) = Look flags
