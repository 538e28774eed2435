use Rattle.pair_rule.specs.Rest.{last_vector}
use Rattle.region_root.specs.Compact.{compact}
use Rattle.store_uses.proofs.Known.{answered_stays}
use Rattle.store_uses.proofs.path.insert_new.Goals as goal

pub returns-in-New-clause-stay : goal.returns-in-New-clause-stay
returns-in-New-clause-stay g c = answered_stays (compact 28 7) c.args.store.now c.args.pass.now c.insert_from.new.pass c.insert_from.ensures.rest (last_vector c.args.pass.now) c.args.state.now c.insert_from.result c.insert_from.ensures.answered

pub returns-in-Seen-clause-stay : goal.returns-in-Seen-clause-stay
returns-in-Seen-clause-stay g c = answered_stays (compact 28 7) c.args.store.now c.args.pass.now c.insert_from.new.pass c.insert_from.ensures.rest (last_vector c.args.pass.now) c.args.state.now c.insert_from.result c.insert_from.ensures.answered

pub returns-in-FullNodes-clause-stay : goal.returns-in-FullNodes-clause-stay
returns-in-FullNodes-clause-stay g c = answered_stays (compact 28 7) c.args.store.now c.args.pass.now c.insert_from.new.pass c.insert_from.ensures.rest (last_vector c.args.pass.now) c.args.state.now c.insert_from.result c.insert_from.ensures.answered
