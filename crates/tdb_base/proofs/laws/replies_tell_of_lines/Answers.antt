use Rattle.tdb_base.proofs.HeadlineLemmas.{counts-distinct, counts-names, different-lines, each-new-once, equal-lines}
use Rattle.tdb_base.proofs.TallyLemmas.{dealt-shared}
use Rattle.tdb_base.proofs.laws.replies_tell_of_lines.Goals as goal

pub returns-clause-equal_lines_equal_identifiers : goal.returns-clause-equal_lines_equal_identifiers
returns-clause-equal_lines_equal_identifiers c = equal-lines

pub returns-clause-different_lines_different_identifiers : goal.returns-clause-different_lines_different_identifiers
returns-clause-different_lines_different_identifiers c = different-lines

pub returns-clause-count_is_the_number_of_names : goal.returns-clause-count_is_the_number_of_names
returns-clause-count_is_the_number_of_names c = counts-names

pub returns-clause-each_new_exactly_once : goal.returns-clause-each_new_exactly_once
returns-clause-each_new_exactly_once c = each-new-once

pub returns-clause-count_is_the_number_of_distinct_lines : goal.returns-clause-count_is_the_number_of_distinct_lines
returns-clause-count_is_the_number_of_distinct_lines c = counts-distinct

pub returns-clause-dealt : goal.returns-clause-dealt
returns-clause-dealt c = dealt-shared
