use Rattle.std.proofs.Common.{map, string_bytes, sym}
use Rattle.treedb.proofs.Ending.{ends_for, plain_chosen, run_ends}
use Rattle.treedb.proofs.run.run_plain.Goals as goal

pub returns-in-Plain : goal.returns-in-Plain
returns-in-Plain g c =
    let told = c.tell.ensures in
    let chose = plain_chosen (map string_bytes c.args.words.now) c.in-Ok.choice c.in-Ok.ensures.chosen c.in-Plain.is in
    run_ends _ _ _ _ c.do_job.result c.tell.result (ends_for _ _ (sym chose) c.do_job.ensures) told.status told.noted told.settled told.none
