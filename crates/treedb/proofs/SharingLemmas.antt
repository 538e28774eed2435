-- Lines that are treated as a choice says are each some worker's, and a report of them is that of no other
-- replies and workers.
use Rattle.std.proofs.Common.{◌≡◌, ◌<◌, ◌≤◌, ◌^◌, ℕ, List, length, Option, sym, subst, ⊎_elim, arith}
use Rattle.std.proofs.lemmas.List.Elements.{All-get_or}
use Rattle.std.specs.Prelude.{◌⊎◌, All}
use Rattle.tdb_base.specs.Lines.{AreShared}
use Rattle.tdb_base.specs.declared.reply.Reply.{Reply}
use Rattle.tdb_base.proofs.TallyLemmas.{dealt-shared}
use Rattle.trace_csv.specs.OneReport.{HasWordId}
use Rattle.trace_csv.specs.Report.{summary_of}
use Rattle.trace_csv.specs.declared.report.Stats.{Stats}
use Rattle.trace_csv.proofs.OneReportLemmas.{one-drawn-report, one-marked-report, one-report}
use Rattle.command_line.specs.declared.outcome.Choice.{Choice}
use Rattle.command_line.specs.declared.outcome.Job.{Job}
use Rattle.command_line.specs.declared.outcome.Job.TheVariants.{Insert, Mark}
use Rattle.treedb.specs.Sharing.{Dealt, Drawn, HasOneEach, IsTreated, Marked, TellsReplies, Treated, owner_of, report_of}

pub shared-out : (c : Choice) (lines : ℕ) (replies : List Reply) (treatment : Treated) → 0 < c.workers → IsTreated c lines replies treatment → AreShared lines c.workers (owner_of c treatment)
shared-out c lines replies Dealt some is = dealt-shared lines c.workers c.block some
shared-out c lines replies (Drawn drawn) some is =
    λ i lt. let long = is.1.one_each in All-get_or (λ (j : ℕ). j < c.workers) drawn i 0 (omega (arith, lt, long)) is.1.among
shared-out c lines replies (Marked firsts) some is = dealt-shared lines c.workers c.block some

-- what is so of both jobs that write a report is so of each
pub of-reporter : (P : Job → Type 0) → P Insert → P Mark → (job : Job) → (job ≡ Insert) ⊎ (job ≡ Mark) → P job
of-reporter P insert mark job is = ⊎_elim
    (λ (e : job ≡ Insert). subst P (sym e) insert)
    (λ (e : job ≡ Mark). subst P (sym e) mark)
    is

pub has-one-each : (c : Choice) (replies : List Reply) (treatment : Treated) → IsTreated c (length replies) replies treatment → HasOneEach treatment replies
has-one-each c replies Dealt is = tt
has-one-each c replies (Drawn drawn) is = is.1.one_each
has-one-each c replies (Marked firsts) is = is.1.one_each

pub tells-replies : (c : Choice) (replies : List Reply) (treatment : Treated) (stats : Option Stats) → c.workers ≤ 64
    → IsTreated c (length replies) replies treatment → All HasWordId replies → TellsReplies treatment replies (report_of treatment replies (summary_of replies stats))
tells-replies c replies Dealt stats few is fit = λ others summary same. sym (one-report replies others (summary_of replies stats) summary fit same)
tells-replies c replies (Drawn drawn) stats few is fit = λ others workers summary long same.
    let small : All (λ j. j < 2 ^ 64) drawn = λ k d lt. let one = is.1.among k d lt in omega (arith, one, few) in
    let both = one-drawn-report replies others drawn workers (summary_of replies stats) summary fit small is.1.one_each long same in
    (sym both.0, sym both.1)
tells-replies c replies (Marked firsts) stats few is fit = λ others marked summary its same.
    let both = one-marked-report replies others firsts marked (summary_of replies stats) summary fit is.1 its same in
    (sym both.0, sym both.1)
