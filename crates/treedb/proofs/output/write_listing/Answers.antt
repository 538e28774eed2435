use Rattle.std.proofs.Common.{ℕ, List, subst, sym}
use Rattle.std.specs.Prelude.{All}
use Rattle.tdb_base.specs.History.{Vector}
use Rattle.trace_csv.specs.Vectors.{AreSlots, vectors_of}
use Rattle.trace_csv.specs.declared.form.Form.{Form}
use Rattle.trace_csv.specs.declared.form.Form.TheVariants.{Signed}
use Rattle.treedb.specs.ReadBack.{AreVectorsOf, vectors}
use Rattle.treedb.proofs.OrderLemmas.{halves-slots}
use Rattle.treedb.proofs.output.write_listing.Goals as goal

pub write_signed-requires-clause-halves : goal.write_signed-requires-clause-halves
write_signed-requires-clause-halves g c =
    let back = c.args.read.now in
    let signed = subst (λ (f : Form). AreVectorsOf f back) c.in-Signed.is c.requires.numbers in
    subst (λ (x : List Vector). All (AreSlots Signed) x) (λ i. vectors_of back.slots (sym c.deref-in-Signed.ensures.value i) (sym c.deref-in-Signed-2.ensures.value i))
    (halves-slots (vectors back) signed.halves)
