use Rattle.std.proofs.Common.{◌≡◌, length}
use Rattle.treedb.specs.Listing.{signed_in, signed_order}
use Rattle.treedb.proofs.distinct.compare_signed.Given as goal

abbrev pub invariant-loop-a : goal.invariant-loop-a
invariant-loop-a l =
    signed_order (signed_in l.left) (signed_in l.right) ≡ signed_order (signed_in l.fn.left) (signed_in l.fn.right)

abbrev pub decreases-loop-a : goal.decreases-loop-a
decreases-loop-a l = length l.left
