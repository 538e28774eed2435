-- A `Held` may go to another thread where its value may.
use base.Shift.{Keyless}
use mir.Raw.{raw}
use denote.Memory.{lone}
use denote.RawPtr.{Ptr}
use denote.Struct.Struct.{exits_of}
use denote.Struct.Owning.{shape, fields, to}
use denote.Param.Send.{IsSend, AllSend, owning_send, struct_send, sendable}
use Rattle.std.specs.Prelude.{Option, Some, None}
use Rattle.std.proofs.Crossing as heap
use Rattle.std_alloc.proofs.SendSync.{quiet, lies}
use Rattle.std_heap.proofs.Global.TheSendSync as handle
use Rattle.std.specs.Global.{Global}
use Rattle.treedb_c.specs.Held.{held_owns}
use Rattle.treedb_c.specs.contracts.inner.Inner as Home
use Rattle.treedb_c.proofs.inner.Inner.TheSendSync.{the_send as home}
use Rattle.treedb_c.specs.contracts.held.Held.{the_row, the_type}

owned : (alloc : Global) (at : Ptr) (inner : Option Home.the_row.Denot) → Keyless (held_owns alloc at inner)
owned alloc at (Some x) = (lies Home.the_row home at x, heap.frees.frees alloc (raw (lone Home.the_row.mir)) at)
owned alloc at None = tt

pub send : IsSend the_row
send =
    let all : AllSend (fields the_type) = (search sendable, (handle.the_field_send, tt)) in
    owning_send the_type all (λ d. owned d.alloc d.at d.inner) (λ k. quiet (to the_type) (exits_of k (fields the_type)) ((struct_send (shape the_type) all).leaving k))
