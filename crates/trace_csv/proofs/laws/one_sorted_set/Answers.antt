use Rattle.trace_csv.proofs.SortedLemmas.{one-sorted-set}
use Rattle.trace_csv.proofs.laws.one_sorted_set.Goals as goal

pub returns : goal.returns
returns c = one-sorted-set
