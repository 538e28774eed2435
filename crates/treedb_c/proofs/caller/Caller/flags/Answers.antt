use Rattle.std.specs.Arc.{arc_value}
use Rattle.tdb_base.specs.History.{Look}
use Rattle.treedb_c.proofs.Called.{acted, unnamed}
use Rattle.treedb_c.proofs.caller.Caller.flags.Goals as goal

pub returns : goal.returns
returns g c = record {
  flags = acted c.args.self.now (arc_value c.self.inside.store) c.self.inside.pass c.flags.new.pass c.self.view_is
      (Look c.flags.result) c.args.id c.is_named.new.pass c.deref-2.result.now c.deref-2.ensures
      c.if-not-is_named.ensures.sought c.flags.ensures;
}

pub returns-then-not-is_named : goal.returns-then-not-is_named
returns-then-not-is_named g c = record {
  flags = unnamed c.args.self.now (arc_value c.self.inside.store) c.self.inside.pass c.is_named.new.pass c.self.view_is c.args.id
      c.if-not-is_named.ensures.sought;
}
