use Rattle.std.proofs.Common.{arith}
use Rattle.std.proofs.lemmas.Nat.{one_shl, pow_below}
use Rattle.pair_rule.proofs.table.bucket_count.Goals as goal

pub returns-clause-small : goal.returns-clause-small
returns-clause-small c = rw (one_shl c.args.nodes 64 (omega arith)) (pow_below c.args.nodes 26 (omega arith))
