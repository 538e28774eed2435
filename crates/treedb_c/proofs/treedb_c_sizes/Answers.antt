use Rattle.std.proofs.Common.{rules, inl, refl}
use Rattle.treedb_c.specs.declared.code.Code.TheVariants.{Done}
use Rattle.treedb_c.proofs.treedb_c_sizes.Goals as goal

pub returns-in-Ok : goal.returns-in-Ok
returns-in-Ok c = record { answered = (Done, (search rules), inl (refl, c.in-Ok.ensures.room.0, c.in-Ok.ensures.room.1, c.in-Ok.ensures.room.2)) }
