use Rattle.pair_rule.specs.Rest.{last_vector}
use Rattle.root_plain.specs.Plain.{plain}
use Rattle.store_uses.proofs.Known.{answered_stays}
use Rattle.store_uses.proofs.search.insert.Goals as goal

pub returns-in-New-clause-stay : goal.returns-in-New-clause-stay
returns-in-New-clause-stay c = answered_stays plain c.args.store.now c.args.pass.now c.insert_from.new.pass c.insert_from.ensures.rest (last_vector c.args.pass.now) c.args.state.now c.insert_from.result c.insert_from.ensures.answered

pub returns-in-New-2-clause-stay : goal.returns-in-New-2-clause-stay
returns-in-New-2-clause-stay c = answered_stays plain c.args.store.now c.args.pass.now c.insert_from.new.pass c.insert_from.ensures.rest (last_vector c.args.pass.now) c.args.state.now c.insert_from.result c.insert_from.ensures.answered

pub returns-in-FullNodes-clause-stay : goal.returns-in-FullNodes-clause-stay
returns-in-FullNodes-clause-stay c = answered_stays plain c.args.store.now c.args.pass.now c.insert_from.new.pass c.insert_from.ensures.rest (last_vector c.args.pass.now) c.args.state.now c.insert_from.result c.insert_from.ensures.answered
