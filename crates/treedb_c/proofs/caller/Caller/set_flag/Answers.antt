use Rattle.std.proofs.Common.{refl}
use Rattle.std.specs.Arc.{arc_value}
use Rattle.tdb_base.specs.History.{Set}
use Rattle.treedb_c.proofs.Called.{acted, unnamed}
use Rattle.treedb_c.proofs.caller.Caller.set_flag.Goals as goal

pub returns : goal.returns
returns g c = record {
  flagged = (
    c.has_flag.ensures.0 c.if-not-has_flag.false,
    acted c.args.self.now (arc_value c.self.inside.store) c.self.inside.pass c.set_flag.new.pass c.self.view_is
        (Set c.args.bit c.set_flag.result) c.args.id c.is_named.new.pass c.deref-2.result.now c.deref-2.ensures
        c.if-not-is_named.ensures.sought c.set_flag.ensures,
  );
}

pub returns-then-not-has_flag : goal.returns-then-not-has_flag
returns-then-not-has_flag g c = record { flagged = (λ lt. cc (c.has_flag.ensures.1 lt, c.if-not-has_flag.true), refl) }

pub returns-then-not-is_named : goal.returns-then-not-is_named
returns-then-not-is_named g c = record {
  flagged = (
    c.has_flag.ensures.0 c.if-not-has_flag.false,
    unnamed c.args.self.now (arc_value c.self.inside.store) c.self.inside.pass c.is_named.new.pass c.self.view_is c.args.id
        c.if-not-is_named.ensures.sought,
  );
}
