use Rattle.std.proofs.Common.{◌≢◌, ℕ, refl, rules, subst, sym}
use Rattle.std.specs.Prelude.{Ok, Err}
use Rattle.command_line.specs.declared.outcome.Job.TheVariants.{Check}
use Rattle.treedb.specs.Sharing.{IsTreated, treated}
use Rattle.treedb.specs.Lines.{form_of}
use Rattle.treedb.specs.ReadBack.{AreVectorsOf, IsOfLines}
use Rattle.treedb.proofs.LineLemmas.{not_check, vectors-of-form}
use Rattle.treedb.proofs.NewLemmas.{if-printed}
use Rattle.treedb.proofs.Outcomes.{answered_end, has_input, out_of_memory, stopped}
use Rattle.treedb.proofs.job.do_job_waiting.Goals as goal

pub take_lines-requires : goal.take_lines-requires
take_lines-requires g c =
    let other : c.args.choice.now.job ≢ Check = search rules in
    record { valid = c.requires.valid; inserts = not_check c.args.choice.now.job other }

pub returns-in-Err : goal.returns-in-Err
returns-in-Err g c =
    let taken = c.in-Err.ensures in
    stopped c.args.choice.now _ _ c.in-Err.ended (Err c.in-Err.ended) refl refl taken.refused taken.gave taken.fault taken.end taken.drawn taken.reads

pub returns-in_default : goal.returns-in_default
returns-in_default g c =
    let taken = c.in-Ok.ensures in
    let trace = c.in-Ok.trace in
    out_of_memory c.args.choice.now _ _ (has_input c.args.choice.now _ _ trace (Ok trace) refl taken.gave (λ r. taken.end r tt) taken.drawn) refl

pub write_answered-requires : goal.write_answered-requires
write_answered-requires g c =
    let other : c.args.choice.now.job ≢ Check = search rules in
    let answered = c.in-Ok-insert_lines_waiting.ensures in
    record {
      inserts = not_check c.args.choice.now.job other;
      workers = c.requires.valid.in_range.workers.1;
      shared = subst (λ (n : ℕ). IsTreated c.args.choice.now n c.in-Ok-insert_lines_waiting.answered.inserted.replies.items (treated c.in-Ok-insert_lines_waiting.answered.inserted)) (sym answered.agrees.among.one_each) answered.shared;
      read = (answered.history, answered.vectors);
      numbers = if-printed c.args.choice.now.job c.in-Ok-insert_lines_waiting.answered.vectors (IsOfLines c.in-Ok.trace) (AreVectorsOf (form_of c.args.choice.now))
          (λ back. vectors-of-form (form_of c.args.choice.now) c.in-Ok.trace back c.in-Ok.ensures.numbers) answered.of_lines;
    }

pub returns : goal.returns
returns g c =
    let choice = c.args.choice.now in
    let other : choice.job ≢ Check = search rules in
    let trace = c.in-Ok.trace in
    let taken = c.in-Ok.ensures in
    let answered = c.in-Ok-insert_lines_waiting.ensures in
    answered_end choice _ _ (has_input choice _ _ trace (Ok trace) refl taken.gave (λ r. taken.end r tt) taken.drawn) trace c.in-Ok-insert_lines_waiting.answered answered
    (not_check choice.job other) c.requires.valid taken.lines c.write_answered.result (c.write_answered.ensures answered.history answered.vectors)
