use Rattle.std.proofs.Common.{refl, ap}
use Rattle.std.specs.Prelude.{Ok, Err}
use Rattle.treedb.specs.Lines.{is_reader}
use Rattle.treedb.specs.Chosen.{is_check}
use Rattle.treedb.proofs.Outcomes.{has_read, stopped, verdict_written}
use Rattle.treedb.proofs.check.check.Goals as goal

pub returns-in-Ok : goal.returns-in-Ok
returns-in-Ok g c =
    let choice = c.args.choice.now in
    let read = c.in-Ok.ensures in
    let w = c.write_verdict.ensures in
    verdict_written choice _ _ (has_read choice _ _ c.in-Ok.verdict (Ok c.in-Ok.verdict) refl read.gave (read.end tt) (ap is_reader c.requires.job))
    (ap is_check c.requires.job) c.in-Ok.verdict read.judged c.write_verdict.result w.written w.settled w.fault

pub returns-in-Err : goal.returns-in-Err
returns-in-Err g c =
    let read = c.in-Err.ensures in
    stopped c.args.choice.now _ _ c.in-Err.ended (Err c.in-Err.ended) refl refl read.refused read.gave read.fault (λ r. read.end)
    (λ no. let reads = ap is_reader c.requires.job in cc (no, reads)) (λ other. ap is_reader c.requires.job)
