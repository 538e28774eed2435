use Rattle.std.proofs.Common.{map, string_bytes, sym, ◌∙◌}
use Rattle.treedb.proofs.Ending.{ends_for, plain_chosen, run_ends, run_ends_for}
use Rattle.treedb.proofs.run.run.Goals as goal

pub returns-in-Plain : goal.returns-in-Plain
returns-in-Plain g c =
    let chose = plain_chosen (map string_bytes c.args.words.now) c.in-Ok.choice c.in-Ok.ensures.chosen c.in-Plain.is in
    run_ends_for _ _ (chose ∙ sym c.in-Ok.ensures.chosen) c.run_plain.ensures

pub returns-in-Compact : goal.returns-in-Compact
returns-in-Compact g c =
    let told = c.tell.ensures in
    run_ends _ _ _ _ c.do_job_waiting.result c.tell.result (ends_for _ _ (sym c.in-Ok.ensures.chosen) c.do_job_waiting.ensures) told.status told.noted told.settled told.none
