-- Which entries the plain slow functions take: those of flags that one number of 32 bits has.
use Rattle.std.specs.Prelude.{◌<◌}
use Rattle.tdb_base.specs.History.{Put, Set, Clear, Look}
use Rattle.tdb_base.specs.History as h

-- an act names no flag from 32 on
abbrev pub BitBelow32 : h.Act → Type 0
BitBelow32 (Put fresh) = Unit {0}
BitBelow32 (Set bit first) = bit < 32
BitBelow32 (Clear bit first) = bit < 32
BitBelow32 (Look flags) = Unit {0}

abbrev pub FlagsBelow32 : h.Entry → Type 0
FlagsBelow32 e = BitBelow32 e.act
