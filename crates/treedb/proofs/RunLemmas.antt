-- The plain sentences on a run.
use Rattle.std.proofs.Common.{ℕ, List, [], Option, length, subst}
use Rattle.std.specs.List.{range_with_len}
use Rattle.tdb_base.specs.Headline.{CountsDistinct, CountsNames, DifferentLinesDifferentIds, EachNewOnce, EqualLinesEqualIds}
use Rattle.tdb_base.specs.Legal.{KeepsNames}
use Rattle.tdb_base.specs.Lines.{AreShared, named}
use Rattle.tdb_base.proofs.HeadlineLemmas.{counts-distinct, different-lines, each-new-once, equal-lines}
use Rattle.tdb_base.proofs.NameLemmas.{keeps-names}
use Rattle.command_line.specs.declared.outcome.Choice.{Choice}
use Rattle.command_line.specs.Rules.{flag_count}
use Rattle.treedb.specs.Sharing.{owner_of}
use Rattle.command_line.specs.declared.outcome.Job.{Job}
use Rattle.command_line.specs.declared.outcome.Job.TheVariants.{Distinct}
use Rattle.treedb.specs.Run.{Headline, IsText, IsTextOf, MarksAreFirstOnce, PrintsTheLines, Run}
use Rattle.treedb.proofs.Insertions.{Inserts, first-once, insertions}
use Rattle.treedb.specs.Lines.{form_of}
use Rattle.treedb.proofs.NewLemmas.{trace-named}
use Rattle.treedb.proofs.OrderLemmas.{listing-same}
use Rattle.treedb.proofs.SharingLemmas.{shared-out}

module _ (offer : Option Choice) (told : Option (List ℕ)) (run : Run offer told) where
  abbrev owner : ℕ → ℕ
  owner = owner_of run.choice run.treated

  shared : AreShared (length run.trace) run.choice.workers owner
  shared = shared-out run.choice (length run.trace) run.replies run.treated run.valid.in_range.workers.0 run.shared

  abbrev workers : List ℕ
  workers = range_with_len 0 run.choice.workers

  inserts : Inserts (flag_count run.choice.profile) owner run.trace run.replies run.choice.workers run.history workers
  inserts = insertions run.choice run.trace run.replies run.treated run.history workers run.valid.in_range.workers.0 run.shared run.agrees

  run_equal : EqualLinesEqualIds run.trace run.replies
  run_equal = equal-lines (flag_count run.choice.profile) owner run.trace run.replies run.choice.workers [] inserts.puts workers inserts.agrees.among shared

  run_different : DifferentLinesDifferentIds run.trace run.replies
  run_different = different-lines (flag_count run.choice.profile) owner run.trace run.replies run.choice.workers [] inserts.puts workers inserts.agrees.among shared

  run_names : CountsNames run.replies run.history
  run_names = inserts.counts

  run_once : EachNewOnce run.trace run.replies
  run_once = each-new-once (flag_count run.choice.profile) owner run.trace run.replies run.choice.workers inserts.puts workers inserts.agrees shared

  run_distinct : CountsDistinct run.trace run.replies
  run_distinct = counts-distinct (flag_count run.choice.profile) owner run.trace run.replies run.choice.workers inserts.puts workers inserts.agrees shared

  run_keeps : KeepsNames (flag_count run.choice.profile) run.history
  run_keeps = keeps-names (flag_count run.choice.profile) run.history

  run_lines : (text : List ℕ) → IsTextOf run text → PrintsTheLines run text
  run_lines text is_text job none =
      let form = form_of run.choice in
      let printed : IsText form Distinct run.replies run.treated run.history run.stats text = subst (λ (j : Job). IsText form j run.replies run.treated run.history run.stats text) job is_text in
      let same = trace-named (flag_count run.choice.profile) owner run.trace run.replies run.choice.workers run.history workers inserts shared none in
      listing-same form (named run.history) run.trace text same printed

  run_marks : MarksAreFirstOnce run
  run_marks = first-once run.choice run.trace run.replies run.treated run.history workers run.valid.in_range.workers.0 run.shared run.agrees

  pub headline : (text : List ℕ) → IsTextOf run text → Headline run text
  headline text is_text = record {
    equal_lines_have_equal_identifiers = run_equal;
    different_lines_have_different_identifiers = run_different;
    printed_count_is_the_number_of_names = run_names;
    each_distinct_line_is_new_exactly_once = run_once;
    printed_count_is_the_number_of_distinct_lines = run_distinct;
    names_are_kept_for_good = run_keeps;
    printed_vectors_are_those_of_the_lines = run_lines text is_text;
    marks_are_first_once = run_marks;
  }
