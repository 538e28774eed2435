-- What a caller of any profile holds.
use Rattle.treedb_c.specs.Holding.{Holding}
use Rattle.treedb_c.specs.declared.inner.Inner.{Inner}
use Rattle.treedb_c.specs.declared.inner.Inner.TheVariants.{Profile16, Profile28, Profile31}

abbrev pub holding : Inner → Holding
holding (Profile16 c) = c
holding (Profile28 c) = c
holding (Profile31 c) = c
