use Rattle.trace_csv.proofs.SignedLemmas.{halves-signed_of}
use Rattle.trace_csv.proofs.laws.halves_of_signed_vector.Goals as goal

pub returns : goal.returns
returns c = halves-signed_of
