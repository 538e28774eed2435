use Rattle.std.proofs.Common.{refl}
use Rattle.pair_rule.specs.Rest.{view}
use Rattle.pair_rule.proofs.Catches.{caught_none}
use Rattle.root_plain.specs.Plain.{plain}
use Rattle.root_plain.proofs.table.PlainTableRootTable.look.Goals as goal

pub returns-clause-seen : goal.returns-clause-seen
returns-clause-seen g c =
    let rest = c.requires.rest in
    record { rest = rest; no_call = caught_none plain (view c.args._pass.now) rest.seat.sound; buffers = refl }
