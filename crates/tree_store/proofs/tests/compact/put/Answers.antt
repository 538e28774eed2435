use Rattle.pair_rule.specs.Rest.{last_vector}
use Rattle.region_root.specs.Compact.{compact}
use Rattle.tree_store.proofs.Inserts.{some_name}
use Rattle.tree_store.proofs.tests.compact.put.Goals as goal

pub returns-clause-named : goal.returns-clause-named
returns-clause-named g c =
    some_name (compact g.row.W g.row.F) c.args.store.now (last_vector c.args.pass.now) c.args.vector.now c.insert_from.result c.args.pass.now c.insert_from.new.pass c.insert_from.ensures.answered
