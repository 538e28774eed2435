-- A `Held` that stands for something, and the parts of a box, own what the box owns.
use Rattle.std.proofs.Common.{[]}
use mir.Syntax.{impl, tnil, dnil}
use denote.Signature.{Slot, plain}
use Rattle.std_alloc.proofs.BoxSteps.Form.{Bx}
use Rattle.std_heap.proofs.Global.TheLaws as heap
use Rattle.std_heap.specs.contracts.Global as Heap
use Rattle.std_heap.specs.contracts.GlobalAllocator.TheImpl.{ghosts, dict}
use Rattle.treedb_c.proofs.inner.Inner.TheLaws as inner
use Rattle.treedb_c.specs.contracts.held.Held as Held
use Rattle.treedb_c.specs.contracts.inner.Inner as Inner
use Rattle.treedb_c.specs.contracts.parts.Parts as Parts

-- the box of an `Inner` on the heap of C
abbrev pub E : Bx
E = record {
  row = Inner.the_row;
  laws = inner.the_row_laws;
  al = record { row = Heap.the_row; laws = heap.the_row_laws; g = ghosts; d = dict; drops = impl [] tnil dnil };
}

-- the types of what is moved
abbrev pub OfParts : Slot 0
OfParts = plain (λ _. Parts.the_row Inner.the_row Heap.the_row ghosts)

abbrev pub OfHeld : Slot 0
OfHeld = plain (λ _. Held.the_row)
