-- The codes as C sees them.
use Rattle.std.specs.Prelude.{ℤ, pos, negsuc}
use Rattle.treedb_c.specs.declared.code.Code.{Code}
use Rattle.treedb_c.specs.declared.code.Code.TheVariants as c

abbrev pub number_of : Code → ℤ
number_of c.Done = pos 0
number_of c.New = pos 1
number_of c.Seen = pos 2
number_of c.WasClear = pos 3
number_of c.WasSet = pos 4
number_of c.NoHandle = negsuc 0
number_of c.InUse = negsuc 1
number_of c.NoMemory = negsuc 2
number_of c.BadProfile = negsuc 3
number_of c.BadSlots = negsuc 4
number_of c.BadNodes = negsuc 5
number_of c.BadRoots = negsuc 6
number_of c.BadProbe = negsuc 7
number_of c.BadVector = negsuc 8
number_of c.BadFlag = negsuc 9
number_of c.NoName = negsuc 10
number_of c.FullNodes = negsuc 11
number_of c.FullRoots = negsuc 12
number_of c.TooMany = negsuc 13
