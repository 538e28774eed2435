use Rattle.std.proofs.Common.{ap, ◌∙◌}
use Rattle.std.specs.Prelude.{Err}
use Rattle.treedb.proofs.store.make_store.Goals as goal

pub unreachable-requires-in-Err-Sizes : goal.unreachable-requires-in-Err-Sizes
unreachable-requires-in-Err-Sizes g c =
    let n = c.in-Err-Sizes.field-0-0 in
    c.requires.fit n ((c.create.ensures.sizes n).0 (c.in-Err-Sizes.is ∙ ap Err c.in-Err-Sizes.field-0-is))
