use Rattle.std.proofs.Common.{◌≡◌, ◌≤◌, ◌*◌, ◌^◌}
use Rattle.std.specs.Prelude.{take, unwrap_or}
use Rattle.tdb_base.specs.History as h
use Rattle.tdb_base.proofs.plain.flags_of.Given as goal

abbrev pub invariant-loop-call : goal.invariant-loop-call
invariant-loop-call l = record {
  same : l.flags ≡ h.flags_of (take l.call-index l.history) l.vector;
  small : unwrap_or l.flags 0 ≤ l.call-index * 2 ^ 31;
}
