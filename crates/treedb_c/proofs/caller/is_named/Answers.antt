use Rattle.treedb_c.proofs.Sought.{found, unknown}
use Rattle.treedb_c.proofs.caller.is_named.Goals as goal

pub returns-in-Some-clause-sought : goal.returns-in-Some-clause-sought
returns-in-Some-clause-sought g c = found c.nodes.result.now c.args.id c.args.pass.now c.find_id.new.pass c.in-Some.field-0 c.in-Some.ensures

pub returns-in-None-clause-sought : goal.returns-in-None-clause-sought
returns-in-None-clause-sought g c = unknown c.nodes.result.now c.args.id c.args.pass.now c.find_id.new.pass c.in-None.ensures
