use Rattle.tdb_base.proofs.NameLemmas.{keeps-names}
use Rattle.tdb_base.proofs.laws.names_are_kept.Goals as goal

pub returns : goal.returns
returns c = keeps-names
