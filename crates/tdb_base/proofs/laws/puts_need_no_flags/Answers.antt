use Rattle.tdb_base.proofs.HeadlineLemmas.{agrees-any-flags}
use Rattle.tdb_base.proofs.NameLemmas.{any-flags}
use Rattle.tdb_base.proofs.laws.puts_need_no_flags.Goals as goal

pub returns-clause-legal : goal.returns-clause-legal
returns-clause-legal c = any-flags

pub returns-clause-agrees : goal.returns-clause-agrees
returns-clause-agrees c = agrees-any-flags
