use Rattle.trace_csv.proofs.SignedLemmas.{one-signed-vector}
use Rattle.trace_csv.proofs.laws.one_signed_vector.Goals as goal

pub returns : goal.returns
returns c = one-signed-vector
