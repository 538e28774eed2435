use Rattle.trace_csv.proofs.SignedLemmas.{signed_of-halves}
use Rattle.trace_csv.proofs.laws.signed_vector_of_halves.Goals as goal

pub returns : goal.returns
returns c = signed_of-halves
