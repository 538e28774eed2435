use Rattle.treedb.proofs.OrderLemmas.{next-signed, none-signed}
use Rattle.treedb.proofs.distinct.next_signed.Goals as goal

pub returns-in_default-clause-first : goal.returns-in_default-clause-first
returns-in_default-clause-first c = none-signed c.args.slots.now c.in_default.len_below

pub returns-clause-first : goal.returns-clause-first
returns-clause-first c = next-signed c.args.slots.now c.cast_signed.result c.in-len2-up.len_at_least c.cast_signed.ensures
