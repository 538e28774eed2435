use Rattle.std.proofs.Common.{rules}
use Rattle.treedb_c.specs.Inner.{holding}
use Rattle.treedb_c.proofs.Live.{live, divided, undivided}
use Rattle.treedb_c.proofs.divide.Goals as goal

pub returns-in-Some-child-clause-divided : goal.returns-in-Some-child-clause-divided
returns-in-Some-child-clause-divided c =
    live _ c.deref_mut.result.now c.split-child.new.self _ _ (search rules) (search rules)
    (divided c.in-Some-child.child (holding c.deref_mut.result.now) (holding c.split-child.new.self) c.put.new.self.held.inner c.put.result
    c.in-Some-child.ensures.split c.put.ensures)

pub returns-in-None-child-clause-divided : goal.returns-in-None-child-clause-divided
returns-in-None-child-clause-divided c =
    live _ c.deref_mut.result.now c.split-child.new.self _ _ (search rules) (search rules)
    (undivided c.deref_mut.result.now c.split-child.new.self c.args.handle.now.held.inner (search rules) c.in-None-child.ensures.split)
