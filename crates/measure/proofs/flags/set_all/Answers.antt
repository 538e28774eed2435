use Rattle.root_plain.specs.Plain.{plain}
use Rattle.measure.proofs.Named.{stay_named}
use Rattle.measure.proofs.flags.set_all.Goals as goal

pub loop-id-preserved : goal.loop-id-preserved
loop-id-preserved c =
    let n = c.loop-id.invariant.named c.loop-id.id-index 0 c.loop-id-test.true in
    record {
      rest = c.set_flag.ensures.rest;
      named = stay_named plain _ c.loop-id.pass c.set_flag.new.pass (c.set_flag.ensures.entry n.0 n.1) c.args.ids.now c.loop-id.invariant.named;
    }
