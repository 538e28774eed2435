use Rattle.trace_csv.proofs.SortedLemmas.{one-sorted-text}
use Rattle.trace_csv.proofs.laws.one_sorted_text.Goals as goal

pub returns : goal.returns
returns c = one-sorted-text
