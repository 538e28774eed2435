use Rattle.std.proofs.Common.{◌≡◌, take}
use Rattle.tdb_base.specs.History as h
use Rattle.tdb_base.proofs.plain.name_of.Given as goal

abbrev pub invariant-loop-call : goal.invariant-loop-call
invariant-loop-call l = l.name ≡ h.name_of (take l.call-index l.history) l.vector
