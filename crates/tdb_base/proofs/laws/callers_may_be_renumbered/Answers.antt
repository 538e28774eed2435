use Rattle.tdb_base.proofs.RenameLemmas.{agrees_renamed, flags-renamed, legal-renamed, name-renamed, named-renamed}
use Rattle.tdb_base.proofs.laws.callers_may_be_renumbered.Goals as goal

pub returns-clause-names : goal.returns-clause-names
returns-clause-names c = name-renamed

pub returns-clause-flags : goal.returns-clause-flags
returns-clause-flags c = flags-renamed

pub returns-clause-named : goal.returns-clause-named
returns-clause-named c = named-renamed

pub returns-clause-legal : goal.returns-clause-legal
returns-clause-legal c = legal-renamed

pub returns-clause-agrees : goal.returns-clause-agrees
returns-clause-agrees c = agrees_renamed
