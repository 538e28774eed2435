use Rattle.std.proofs.Common.{◌≡◌, ◌+◌, length, take}
use Rattle.tdb_base.specs.History as h
use Rattle.tdb_base.proofs.plain.agrees.call_at.Given as goal

abbrev pub invariant-loop-call : goal.invariant-loop-call
invariant-loop-call l = l.number ≡ l.left + length (h.calls (take l.call-index l.history) l.caller)
