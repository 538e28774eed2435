use Rattle.std.proofs.Common.{sym, rules}
use Rattle.root_plain.specs.Plain.{plain}
use Rattle.store_uses.proofs.Known.{caught_stays, read_stays, all_stay}
use Rattle.store_uses.proofs.search.expand.Goals as goal

pub returns-then-not-set_flag-clause-frontier : goal.returns-then-not-set_flag-clause-frontier
returns-then-not-set_flag-clause-frontier c =
    let set = c.set_flag.ensures.entry c.requires.known.0 c.requires.known.1 in
    all_stay c.args.pass.now c.set_flag.new.pass (caught_stays plain c.args.store.now c.args.pass.now c.set_flag.new.pass c.set_flag.ensures.rest _ set) c.args.frontier.now.items c.requires.frontier

pub read-requires : goal.read-requires
read-requires c =
    let set = c.set_flag.ensures.entry c.requires.known.0 c.requires.known.1 in
    let known = caught_stays plain c.args.store.now c.args.pass.now c.set_flag.new.pass c.set_flag.ensures.rest _ set c.args.id c.requires.known in
    (search rules, (search rules, (c.set_flag.ensures.rest, (known, sym c.requires.sizes.0))))

pub follow-requires-clause-frontier : goal.follow-requires-clause-frontier
follow-requires-clause-frontier c =
    let set = c.set_flag.ensures.entry c.requires.known.0 c.requires.known.1 in
    let marked = all_stay c.args.pass.now c.set_flag.new.pass (caught_stays plain c.args.store.now c.args.pass.now c.set_flag.new.pass c.set_flag.ensures.rest _ set) c.args.frontier.now.items c.requires.frontier in
    all_stay c.set_flag.new.pass c.read.new.pass (read_stays plain c.args.store.now c.set_flag.new.pass c.read.new.pass c.read.ensures.rest c.read.ensures.read.no_call) c.args.frontier.now.items marked
