use Rattle.std.specs.Arc.{arc_value}
use Rattle.treedb_c.proofs.Called.{inserted}
use Rattle.treedb_c.proofs.caller.Caller.insert.Goals as goal

pub returns : goal.returns
returns g c = record {
  answered = inserted c.args.self.now (arc_value c.self.inside.store) c.self.inside.pass c.insert_from.new.pass c.self.view_is
      c.args.vector.now c.insert_from.result c.deref.result.now c.deref-2.result.now c.deref.ensures c.deref-2.ensures
      (c.fits.ensures.vector.0 c.if-not-fits.false) c.insert_from.ensures.rest c.insert_from.ensures.answered;
}
