use Rattle.std.proofs.Common.{refl}
use Rattle.tdb_base.proofs.plain.agrees.agrees.Goals as goal

pub no_others-requires : goal.no_others-requires
no_others-requires c = (c.if-not-agrees_among_others.ensures.0 refl).extends

pub returns : goal.returns
returns c = (
  λ t. record { among = c.if-not-agrees_among_others.ensures.0 refl; no_others = c.no_others.ensures.0 t },
  λ agrees. c.no_others.ensures.1 agrees.no_others,
)
